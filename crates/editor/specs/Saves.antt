-- sts_save and sts_small: what the editor is given, by the answer of the definition (crate format's specs/Saved.antt, crate catalog's specs/Small.antt).
use Rattle.std.specs.Prelude.{◌≡◌, List, ℕ}
use Rattle.refusal.specs.Answer.{Answer, answer_number}
use Rattle.format.specs.Saved.{out_after, length_after}

-- the lent bytes and the length before and after, and the number; a refusal leaves bytes and length as they were
pub record SaveCall (out out' : List ℕ) (told told' : ℕ) (answer : Answer (List ℕ)) (number : ℕ) : Type 0 where
  pub number_is : number ≡ answer_number answer
  pub bytes_are : out' ≡ out_after out answer
  pub length_is : told' ≡ length_after told answer
