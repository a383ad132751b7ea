-- What a call leaves, by the answer that the definitions give it.
use Rattle.std.specs.Prelude.{◌≡◌, List, true, false, ℕ, length, Result, Ok, Err}
use Rattle.refusal.specs.declared.Refusal.{Refusal}
use Rattle.refusal.specs.declared.Refusal.TheVariants.{Full}
use Rattle.refusal.specs.Number.{Reply}
use Rattle.refusal.specs.Answer.{Answer, reply_of, result_of}
use Rattle.diagram.specs.Store.{Stored}
use Rattle.diagram.specs.Call.{columns, Columns, lengths_legal, columns_sound, columns_after}
use Rattle.diagram.specs.Held.{held}
use Rattle.table.specs.declared.Stop.{Stop}
use Rattle.table.specs.Stop.{stopped}
use Rattle.table.specs.Holds.{zero_from}
use Rattle.functions.specs.Open.{Open}
use Rattle.calls.specs.declared.Stored as given
use Rattle.calls.specs.declared.opening.Call.{Call}
use Rattle.calls.specs.Call.{question, opening}

-- the used count and the entry that a call that stored gives
abbrev pub given_of : Stored → given.Stored
given_of s = record { used = length s.table; entry = s.entry }

-- a call that stores: the columns before and after, and its result. A refusal leaves the used count, by giving no other.
pub record StoredAs (before after : Columns) (answer : Answer Stored) (result : Result given.Stored Refusal) : Type 0 where
  pub result_is : result ≡ result_of given_of answer
  pub columns_are : after ≡ columns_after before answer

-- a question
pub record ToldAs (answer : Answer ℕ) (result : Result ℕ Refusal) : Type 0 where
  pub result_is : result ≡ result_of (λ (n : ℕ). n) answer

-- 8 and 7 are past
pub record Passed (letters : ℕ) (l w h : List ℕ) (used : ℕ) : Type 0 where
  pub lengths : lengths_legal (columns l w h) ≡ true
  pub sound : columns_sound letters (columns l w h) used ≡ true

-- whether 8, 7 or 9 refuses a call; where none does, the table is open to storing
pub record Opened (call : Call) (letters : ℕ) (l w h : List ℕ) (used : ℕ) (ix : List ℕ) (reply : Reply) : Type 0 where
  pub is : reply ≡ reply_of (opening call letters (columns l w h) used)
  pub opened : reply ≡ Ok tt → Open letters l w h ix used
  pub asked : reply ≡ Ok tt → question call letters used (held l w h used) ≡ true

-- the end of a call that stores: the columns before and after it, the old used count, whether it stopped, the entry and the
-- used count that storing gave, and its result
pub record Closed (l w h l' w' h' : List ℕ) (used : ℕ) (stop : Stop) (entry next : ℕ) (result : Result given.Stored Refusal) : Type 0 where
  pub cleared : stopped stop ≡ true → columns l' w' h' ≡ columns (zero_from used l) (zero_from used w) (zero_from used h)
  pub refused : stopped stop ≡ true → result ≡ Err Full
  pub kept : stopped stop ≡ false → columns l' w' h' ≡ columns l w h
  pub done : stopped stop ≡ false → result ≡ Ok record { used = next; entry = entry }
