-- Whether the step of a moment is admitted, and if not, with which number it is refused. A reason to refuse a step is a field of `Admitted`
-- and a case of `Barred`. The laws of runs go by the names and laws of this file; they look at a field only where they speak of the size.
use mathlib.Core.Path.{◌≡◌, sym, ◌∙◌}
use mathlib.Core.Bool.{true, false}
use mathlib.Core.Logic.{◌⊎◌, inl, inr, ⊎_elim}
use Prim.Native.Nat.{ℕ, ◌<◌, ◌≤◌}
use lib.ListN.{length}
use borrow.Author.Tests.{le-leb, lt-leb}
use Rattle.refusal.specs.declared.Refusal.{Refusal}
use Rattle.refusal.specs.declared.Refusal.TheVariants.{Full, Ceiling}
use Rattle.refusal.specs.Answer.{Answer, refused, answered}
use Rattle.refusal.proofs.Answer.{refused_not_answered, same_answer}
use Rattle.lists.proofs.Cases.{bool_cases, lt_or_ge}
use Rattle.format.specs.Circuit.{Circuit}
use Rattle.rules.specs.Run.{Moment, step_moment, step_within, step_answer, fitting}

-- what fits is kept
pub fitting_fits : (size : ℕ) (m : Moment) → length m.table ≤ size → fitting size m ≡ answered m
fitting_fits size m h = rw (le-leb (length m.table) size h)

-- what does not is refused
pub fitting_full : (size : ℕ) (m : Moment) → size < length m.table → fitting size m ≡ refused Full
fitting_full size m h = rw (lt-leb (length m.table) size h)

-- the step of a moment is admitted into a table of some size
pub record Admitted (c : Circuit) (size : ℕ) (m : Moment) : Type 0 where
  pub within : step_within c m ≡ true
  pub fits : length (step_moment c m).table ≤ size

-- it is not, and this is why
pub data Barred (c : Circuit) (size : ℕ) (m : Moment) : Refusal → Type 0 where
  exceeding : step_within c m ≡ false → Barred c size m Ceiling
  crowded : step_within c m ≡ true → size < length (step_moment c m).table → Barred c size m Full

-- the answer of a step, where there is one to take
abbrev pub admitting : Circuit → ℕ → Moment → Answer Moment
admitting c size m = step_answer c size m

-- one or the other
pub admitted_or_barred : (c : Circuit) (size : ℕ) (m : Moment) → Admitted c size m ⊎ ((why : Refusal) × Barred c size m why)
admitted_or_barred c size m =
    ⊎_elim
    (λ (e : step_within c m ≡ true).
    ⊎_elim
    (λ (l : size < length (step_moment c m).table). inr (Full, crowded e l))
    (λ (l : length (step_moment c m).table ≤ size). inl (record { within = e; fits = l }))
    (lt_or_ge size (length (step_moment c m).table)))
    (λ (e : step_within c m ≡ false). inr (Ceiling, exceeding e))
    (bool_cases (step_within c m))

module _ {c : Circuit} {size : ℕ} {m : Moment} where
  -- an admitted step is answered
  pub admitted_answer : Admitted c size m → admitting c size m ≡ answered (step_moment c m)
  admitted_answer a = rw a.within (fitting_fits size (step_moment c m) a.fits)

  -- a barred one is refused, with its number
  pub barred_answer : {why : Refusal} → Barred c size m why → admitting c size m ≡ refused why
  barred_answer (exceeding e) = rw e
  barred_answer (crowded e l) = rw e (fitting_full size (step_moment c m) l)

  -- so not both
  pub admitted_not_barred : {why : Refusal} → Admitted c size m → Barred c size m why → ⊥
  admitted_not_barred a b = refused_not_answered (sym (barred_answer b) ∙ admitted_answer a)

  -- and an answered step was admitted
  pub answer_admitted : {after : Moment} → admitting c size m ≡ answered after → Admitted c size m × (after ≡ step_moment c m)
  answer_admitted {after} e =
      ⊎_elim
      (λ (a : Admitted c size m). (a, same_answer (sym e ∙ admitted_answer a)))
      (λ (b : (why : Refusal) × Barred c size m why). refused_not_answered (sym (barred_answer b.1) ∙ e))
      (admitted_or_barred c size m)
