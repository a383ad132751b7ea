-- The letters from the least one on are those that are left.
use mathlib.Core.Path.{◌≡◌}
use mathlib.Core.List.{List}
use Prim.Native.Nat.{ℕ, ◌-◌, ◌<◌, ◌≤◌}
use native.Mathlib.Omega.{arith}
use lib.ListN.{get_or}
use Rattle.diagram.specs.Table.{terminal_letter}
use Rattle.diagram.specs.Held.{held}
use Rattle.functions.specs.Open.{Open}
use Rattle.functions.proofs.Carry.{letter_at_lem}
use Rattle.descent.specs.Descend.{Least}
use Rattle.attempt.specs.Entries.{Evaluable}
use Rattle.evaluate.specs.Left.{Left}

module _ {k : ℕ} {l es : List ℕ} {m : ℕ} (f : Least l es m) where
  -- none, where the least one is past all
  pub left_none : k ≤ m → Left k l es 0
  left_none past = record { most = omega arith; last = λ j h. omega (arith, f.least j h); least = λ left g. omega arith }

  pub left_some : m < k → k ≤ 12 → Left k l es (k - m)
  left_some before few = record {
    most = omega arith;
    last = λ j h. omega (arith, f.least j h);
    least = λ left g.
        let at = f.taken (λ (e : m ≡ terminal_letter). omega arith) in
        omega (arith, g at.0 at.1, at.2);
  }

module _ {k : ℕ} {l w h ix : List ℕ} {used left : ℕ} {es : List ℕ} (o : Open k l w h ix used) (e : Evaluable k (held l w h used) used left es) {r : ℕ} (f : Left k l es r) where
  -- a node is evaluated with them
  pub left_evaluable : Evaluable k (held l w h used) used r es
  left_evaluable = record {
    long = e.long;
    operand = λ j g.
        let in-columns : get_or es j 0 < used = (e.operand j g).within in
        record { within = in-columns; from = omega (arith, f.last j g, letter_at_lem o.legible (get_or es j 0) in-columns) };
    ground_before = e.ground_before;
    supply_before = e.supply_before;
    ground_after = e.ground_after;
    supply_after = e.supply_after;
    bits = e.bits;
  }

  -- and no more were given
  pub left_fewer : r ≤ left
  left_fewer = f.least left (λ j g. omega (arith, (e.operand j g).from, letter_at_lem o.legible (get_or es j 0) (e.operand j g).within))
