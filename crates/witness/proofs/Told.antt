-- The two numbers of a question's answer, one by one.
use mathlib.Core.Path.{◌≡◌, refl, ◌∙◌, ap}
use mathlib.Core.List.{List, [], ◌∷◌}
use Prim.Native.Nat.{ℕ}
use native.Mathlib.Omega.{arith}
use lib.ListN.{length, get_or}
use Rattle.refusal.specs.Answer.{Answer, refused, answered}
use Rattle.rules.specs.Call.{Wire}
use Rattle.editor.specs.Runs.{told_after, AskDone}

-- a list of two numbers
two_numbers : (l : List ℕ) → length l ≡ 2 → get_or l 0 0 ∷ get_or l 1 0 ∷ [] ≡ l
two_numbers [] h = absurd (omega arith)
two_numbers (x ∷ []) h = absurd (omega arith)
two_numbers (x ∷ y ∷ []) h = refl
two_numbers (x ∷ y ∷ z ∷ l) h = absurd (omega arith)

told_length : (told : List ℕ) (answer : Answer Wire) → length told ≡ 2 → length (told_after told answer) ≡ 2
told_length told (refused why) h = h
told_length told (answered w) h = refl

pub asked_two : (told told' : List ℕ) (answer : Answer Wire) (number : ℕ) → length told ≡ 2 → AskDone told told' answer number
    → AskDone told (get_or told' 0 0 ∷ get_or told' 1 0 ∷ []) answer number
asked_two told told' answer number h done = record {
  number_is = done.number_is;
  told_is = two_numbers told' (ap length done.told_is ∙ told_length told answer h) ∙ done.told_is;
}
