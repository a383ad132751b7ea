-- The operations make the same in every extension of a table, so what a cache of them knows stays true.
use Prim.Native.Nat.{ℕ}
use Rattle.diagram.specs.declared.Operation.{Operation}
use Rattle.diagram.specs.Pattern.{with_letter}
use Rattle.diagram.specs.Operation.{applied, letter_fixed}
use Rattle.diagram.proofs.Number.{number_at_extends}
use Rattle.functions.proofs.Known.{Stable}

-- the operation on two entries
pub apply_stable : (letters : ℕ) (o : Operation) → Stable letters (λ t a b _. applied letters t o a b)
apply_stable letters o = record { same = λ few s x a b c p ha hb hc. rw (number_at_extends a p few s x ha, number_at_extends b p few s x hb) }

-- and a letter that is fixed
pub fix_stable : (letters j bit : ℕ) → Stable letters (λ t e _ _. letter_fixed letters t e j bit)
fix_stable letters j bit = record { same = λ few s x a b c p ha hb hc. number_at_extends a (with_letter j bit p) few s x ha }
