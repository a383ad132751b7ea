-- What the answer of saving says of the call.
use Rattle.std.proofs.Common.{Result}
use mathlib.Core.Path.{◌≡◌, refl, ◌∙◌, ap}
use mathlib.Core.List.{List}
use Prim.Native.Nat.{ℕ}
use Rattle.refusal.specs.declared.Refusal.{Refusal}
use Rattle.refusal.specs.Answer.{Answer, refused, answered, answer_number}
use Rattle.format.specs.Saved.{length_after}
use Rattle.writer.specs.Saving.{saving, Saves}
use Rattle.editor.specs.Functions.{result_number, after_reply}
use Rattle.editor.specs.Saves.{SaveCall}

saving_number : (a : Answer (List ℕ)) → result_number (saving a) ≡ answer_number a
unfolding saving
saving_number (refused why) = refl
saving_number (answered file) = refl

saving_length : (told : ℕ) (a : Answer (List ℕ)) → after_reply told (saving a) (λ (n : ℕ). n) ≡ length_after told a
unfolding saving
saving_length told (refused why) = refl
saving_length told (answered file) = refl

-- the number and the length that are handed over with a result are the answer's
pub save_call : (answer : Answer (List ℕ)) (given : Result ℕ Refusal) {out out' : List ℕ} {told told' number : ℕ} → Saves out out' answer given
    → number ≡ result_number given → told' ≡ after_reply told given (λ (n : ℕ). n) → SaveCall out out' told told' answer number
save_call answer given {told = told} s n t = record {
  number_is = n ∙ ap {B = ℕ} result_number s.given_is ∙ saving_number answer;
  bytes_are = s.bytes_are;
  length_is = t ∙ ap (λ (x : Result ℕ Refusal). after_reply told x (λ (n : ℕ). n)) s.given_is ∙ saving_length told answer;
}
