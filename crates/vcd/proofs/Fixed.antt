-- The dump's run is that of the cell with its letters fixed as a pattern's bits: the cell's own run at that pattern.
use mathlib.Core.Path.{◌≡◌, refl, sym, ◌∙◌, ap, ap₂}
use mathlib.Core.Logic.{⊎_elim}
use mathlib.Core.Bool.{Bool, true, not, ◌&&◌, cond}
use mathlib.Core.List.{List, [], ◌++◌}
use Prim.Native.Nat.{ℕ, zero, suc, ◌-◌, ◌<◌}
use native.Mathlib.Omega.{arith}
use lib.ListN.{length}
use lib.Dec.{ltb}
use lib.Pow.{pow_pos}
use borrow.Author.Tests.{eq-eqb, ne_eqb}
use Rattle.lists.proofs.Cases.{eq_or_ne}
use Rattle.refusal.specs.Answer.{answered}
use Rattle.format.specs.Circuit.{Circuit}
use Rattle.format.specs.Legal.{check_circuit}
use Rattle.format.specs.Fixing.{Fixing, fixed}
use Rattle.diagram.specs.Pattern.{patterns, letter_at}
use Rattle.diagram.specs.Table.{never}
use Rattle.diagram.proofs.Pattern.{pattern_ext}
use Rattle.rules.specs.State.{value_at}
use Rattle.rules.specs.Step.{stepped, step_exceeds}
use Rattle.commute.specs.Demand.{fixed_pattern}
use Rattle.commute.specs.Alone.{Alone, own_time, start_alone, step_alone}
use Rattle.commute.proofs.Fixed.{set_bit, pattern_letter, pattern_lt, fixed_alike, pattern_time_fixed, started_fixed, stepped_fixed, start_exceeds_fixed, step_exceeds_fixed}
use Rattle.commute.proofs.Alone.{alone_is}
use Rattle.vcd.specs.Lines.{declarations, time_line, value_lines, moment_lines}
use Rattle.vcd.specs.Dump.{over_steps, step_lines, step_within, lines_after, within_after, start_lines, run_lines, run_within, as_bits, dump, fixed_as}

-- a letter that is set as its bit in a pattern
set_as : (p k other : ℕ) → set_bit (as_bits p k) other ≡ letter_at k p
set_as p k other =
    ⊎_elim
    (λ (e : letter_at k p ≡ 0). rw (eq-eqb (letter_at k p) 0 e) (sym e))
    (λ (ne : letter_at k p ≡ 0 → ⊥). rw (ne_eqb (letter_at k p) 0 ne) (omega arith))
    (eq_or_ne (letter_at k p) 0)

-- every pattern with all letters fixed as the bits of one is that one
pub bits_pattern : (letters p q : ℕ) → p < patterns letters → q < patterns letters → fixed_pattern (as_bits p) letters q ≡ p
bits_pattern letters p q hp hq =
    pattern_ext letters (fixed_pattern (as_bits p) letters q) p (pattern_lt (as_bits p) letters letters q (omega arith) hq) hp
    (λ k l. pattern_letter (as_bits p) letters q k l ∙ set_as p k (letter_at k q))

module _ (φ : Fixing) (c : Circuit) (legal : check_circuit c ≡ answered c) (q : ℕ) where
  abbrev d : Circuit
  d = fixed φ c

  abbrev r : ℕ
  r = fixed_pattern φ c.letters q

  own_fixed : (a : Alone) → own_time d a ≡ own_time c a
  own_fixed a = pattern_time_fixed φ c a.time a.state

  -- a step of the fixed cell is the cell's at the pattern with the letters fixed
  pub step_fixed : (a : Alone) → step_alone d q a ≡ step_alone c r a
  step_fixed a =
      alone_is (own_fixed a)
      (stepped_fixed φ c legal (own_time d a) q a.state ∙ ap (λ (t : ℕ). stepped c t r a.state) (own_fixed a))

  nodes_fixed : length d.nodes ≡ length c.nodes
  nodes_fixed = (fixed_alike φ c).wired.count_same

  -- so are its lines, and whether it exceeds the ceiling
  lines_fixed : (a : Alone) → step_lines d q a ≡ step_lines c r a
  unfolding step_lines
  lines_fixed a =
      ap₂ (λ (n t : ℕ). moment_lines n t (value_at a.state) (value_at (step_alone d q a).state)) nodes_fixed (own_fixed a)
      ∙ ap (λ (b : Alone). moment_lines (length c.nodes) (own_time c a) (value_at a.state) (value_at b.state)) (step_fixed a)

  within_fixed : (a : Alone) → step_within d q a ≡ step_within c r a
  unfolding step_within
  within_fixed a =
      ap not (step_exceeds_fixed φ c legal (own_time d a) q a.state ∙ ap (λ (t : ℕ). step_exceeds c t r a.state) (own_fixed a))

  -- and what is gathered over all steps
  over_fixed : {A : Type 0} (gather gather' : Alone → A → A) (none : A) → ((a : Alone) (rest : A) → gather a rest ≡ gather' a rest)
      → (k : ℕ) (a : Alone) → over_steps gather none k d q a ≡ over_steps gather' none k c r a
  unfolding over_steps
  over_fixed gather gather' none e zero a = refl
  over_fixed {A} gather gather' none e (suc k) a =
      ap₂ (λ (t : ℕ) (x : A). cond (ltb t never) x none) (own_fixed a)
      (e a (over_steps gather none k d q (step_alone d q a))
      ∙ ap (gather' a) (over_fixed gather gather' none e k (step_alone d q a) ∙ ap (over_steps gather' none k c r) (step_fixed a)))

  pub lines_after_fixed : (a : Alone) → lines_after d q a ≡ lines_after c r a
  unfolding lines_after fixed
  lines_after_fixed a = over_fixed _ _ [] (λ b rest. ap (λ (l : List ℕ). l ++ rest) (lines_fixed b)) (c.horizon.0 - a.time) a

  pub within_after_fixed : (a : Alone) → within_after d q a ≡ within_after c r a
  unfolding within_after fixed
  within_after_fixed a = over_fixed _ _ true (λ b rest. ap (λ (x : Bool). x && rest) (within_fixed b)) (c.horizon.0 - a.time) a

  start_fixed : start_alone d q ≡ start_alone c r
  start_fixed = alone_is refl (started_fixed φ c legal q)

  start_lines_fixed : start_lines d q ≡ start_lines c r
  unfolding start_lines
  start_lines_fixed =
      ap₂ (λ (n : ℕ) (a : Alone). declarations n ++ time_line 0 ++ value_lines n (value_at a.state)) nodes_fixed start_fixed

  -- the whole run
  pub run_lines_fixed : run_lines d q ≡ run_lines c r
  unfolding run_lines
  run_lines_fixed =
      ap₂ (λ (x y : List ℕ). x ++ y) start_lines_fixed
      (ap (lines_after d q) start_fixed ∙ lines_after_fixed (start_alone c r))

  pub run_within_fixed : run_within d q ≡ run_within c r
  unfolding run_within
  run_within_fixed =
      ap₂ (λ (x y : Bool). not x && y) (start_exceeds_fixed φ c legal q)
      (ap (within_after d q) start_fixed ∙ within_after_fixed (start_alone c r))

-- the dump of a cell at a pattern is that of the cell's own run at it
module _ (c : Circuit) (legal : check_circuit c ≡ answered c) (p : ℕ) (h : p < patterns c.letters) where
  pattern_is : fixed_pattern (as_bits p) c.letters 0 ≡ p
  pattern_is = bits_pattern c.letters p 0 h (pow_pos c.letters)

  pub dump_own : dump c p ≡ run_lines c p
  unfolding dump
  dump_own = run_lines_fixed (as_bits p) c legal 0 ∙ ap (run_lines c) pattern_is

  pub within_own : run_within (fixed_as c p) 0 ≡ run_within c p
  within_own = run_within_fixed (as_bits p) c legal 0 ∙ ap (run_within c) pattern_is
