-- What a call that saves answers, and what it leaves.
use Rattle.std.specs.Prelude.{◌≡◌, List, ℕ, length, Result}
use Rattle.refusal.specs.declared.Refusal.{Refusal}
use Rattle.refusal.specs.Answer.{Answer, result_of}
use Rattle.format.specs.Saved.{out_after}

-- the answer as a value: the file's length, or the refusal
unfoldable pub saving : Answer (List ℕ) → Result ℕ Refusal
saving a = result_of length a

-- the answer, and the lent bytes before and after
pub record Saves (before after : List ℕ) (answer : Answer (List ℕ)) (given : Result ℕ Refusal) : Type 0 where
  pub given_is : given ≡ saving answer
  pub bytes_are : after ≡ out_after before answer
