-- What is handed over with a result, by the answer that the definitions give.
use Rattle.std.proofs.Common.{Result}
use mathlib.Core.Path.{◌≡◌, refl, ◌∙◌, ap}
use Prim.Native.Nat.{ℕ}
use Rattle.refusal.specs.declared.Refusal.{Refusal}
use Rattle.refusal.specs.Number.{Reply, reply_number}
use Rattle.refusal.specs.Answer.{Answer, refused, answered, answer_number, reply_of, result_of}
use Rattle.refusal.proofs.Answer.{reply_number_lem}
use Rattle.diagram.specs.Store.{Stored}
use Rattle.diagram.specs.Call.{Columns, columns_after, used_after, entry_after, number_after}
use Rattle.calls.specs.declared.Stored as given
use Rattle.calls.specs.Answered.{StoredAs, ToldAs, given_of}
use Rattle.editor.specs.Functions.{FreshCall, StoredCall, ToldCall, result_number, after_reply}

-- a result's number is its answer's
pub result_number_lem : {A B : Type 0} (f : A → B) (a : Answer A) → result_number (result_of f a) ≡ answer_number a
result_number_lem f (refused why) = refl
result_number_lem f (answered x) = refl

used_handed : (a : Answer Stored) (used : ℕ) → after_reply used (result_of given_of a) (λ (x : given.Stored). x.used) ≡ used_after used a
used_handed (refused why) used = refl
used_handed (answered s) used = refl

entry_handed : (a : Answer Stored) (entry : ℕ) → after_reply entry (result_of given_of a) (λ (x : given.Stored). x.entry) ≡ entry_after entry a
entry_handed (refused why) entry = refl
entry_handed (answered s) entry = refl

number_handed : (a : Answer ℕ) (number : ℕ) → after_reply number (result_of (λ (n : ℕ). n) a) (λ (n : ℕ). n) ≡ number_after number a
number_handed (refused why) number = refl
number_handed (answered n) number = refl

-- a call that stores
pub stored_call : {before after : Columns} {used : ℕ} {a : Answer Stored} {result : Result given.Stored Refusal} (entry used' entry' : ℕ) {number : ℕ}
    → StoredAs before after a result
    → (number ≡ result_number result) × (used' ≡ after_reply used result (λ (x : given.Stored). x.used)) × (entry' ≡ after_reply entry result (λ (x : given.Stored). x.entry))
    → StoredCall before after used used' entry entry' a number
stored_call {used = used} {a = a} entry used' entry' s g = record {
  number_is = g.0 ∙ ap {B = ℕ} result_number s.result_is ∙ result_number_lem given_of a;
  columns_are = s.columns_are;
  used_is = g.1 ∙ ap (λ (x : Result given.Stored Refusal). after_reply used x (λ (y : given.Stored). y.used)) s.result_is ∙ used_handed a used;
  entry_is = g.2 ∙ ap (λ (x : Result given.Stored Refusal). after_reply entry x (λ (y : given.Stored). y.entry)) s.result_is ∙ entry_handed a entry;
}

-- a question
pub told_call : {a : Answer ℕ} {result : Result ℕ Refusal} (told told' : ℕ) {number : ℕ}
    → ToldAs a result → (number ≡ result_number result) × (told' ≡ after_reply told result (λ (n : ℕ). n))
    → ToldCall told told' a number
told_call {a} told told' s g = record {
  number_is = g.0 ∙ ap {B = ℕ} result_number s.result_is ∙ result_number_lem (λ (n : ℕ). n) a;
  told_is = g.1 ∙ ap (λ (x : Result ℕ Refusal). after_reply told x (λ (n : ℕ). n)) s.result_is ∙ number_handed a told;
}

-- a fresh table
pub fresh_call_lem : {before after : Columns} {a : Answer Stored} {reply : Reply} {number : ℕ}
    → (reply ≡ reply_of a) × (after ≡ columns_after before a) → number ≡ reply_number reply → FreshCall before after a number
fresh_call_lem {a = a} s n = record { number_is = n ∙ ap reply_number s.0 ∙ reply_number_lem a; columns_are = s.1 }
