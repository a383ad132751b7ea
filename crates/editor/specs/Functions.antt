-- The calls on a table of functions: what the editor is given, by the answers of crate diagram's definitions (its specs/Call.antt).
use Rattle.std.specs.Prelude.{◌≡◌, ℕ, Result, Ok, Err}
use Rattle.refusal.specs.declared.Refusal.{Refusal}
use Rattle.refusal.specs.Number.{refusal_number}
use Rattle.refusal.specs.Answer.{Answer, answer_number}
use Rattle.diagram.specs.Store.{Stored}
use Rattle.diagram.specs.Call.{Columns, columns_after, used_after, entry_after, number_after}

-- a call that makes a table: the columns before and after, and the number
pub record FreshCall (before after : Columns) (answer : Answer Stored) (number : ℕ) : Type 0 where
  pub number_is : number ≡ answer_number answer
  pub columns_are : after ≡ columns_after before answer

-- a call that stores: the columns, the used count and the entry before and after, and the number; a refusal leaves all as it was
pub record StoredCall (before after : Columns) (used used' entry entry' : ℕ) (answer : Answer Stored) (number : ℕ) : Type 0 where
  pub number_is : number ≡ answer_number answer
  pub columns_are : after ≡ columns_after before answer
  pub used_is : used' ≡ used_after used answer
  pub entry_is : entry' ≡ entry_after entry answer

-- a question: the number asked for before and after, and the call's number
pub record ToldCall (told told' : ℕ) (answer : Answer ℕ) (number : ℕ) : Type 0 where
  pub number_is : number ≡ answer_number answer
  pub told_is : told' ≡ number_after told answer

-- the number of a result: 0 is no refusal
abbrev pub result_number : {A : Type 0} → Result A Refusal → ℕ
result_number (Ok a) = 0
result_number (Err why) = refusal_number why

-- what is handed over with a result: what is taken from its value, the old one with a refusal
abbrev pub after_reply : {A B : Type 0} → B → Result A Refusal → (A → B) → B
after_reply old (Ok a) new = new a
after_reply old (Err why) new = old
