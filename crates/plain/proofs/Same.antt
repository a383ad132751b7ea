-- What the walks and the next change read of a state: its values, and the considered node's next change.
use mathlib.Core.Path.{◌≡◌, sym, ◌∙◌, ap, ap₂}
use mathlib.Core.Bool.{Bool, cond}
use mathlib.Core.Option.{Option, none}
use mathlib.Core.List.{List}
use Prim.Native.Nat.{ℕ}
use lib.ListN.{length}
use Rattle.units.specs.Rules as units
use Rattle.format.specs.Circuit.{Circuit}
use Rattle.rules.specs.State.{State, value_at, change_at}
use Rattle.rules.specs.Kept.{Channel}
use Rattle.rules.specs.Sum.{Sum, node_sum, undriven}
use Rattle.rules.specs.Delay.{Load, node_load, in_ohms}
use Rattle.rules.specs.Step.{target, exceeds, delay_by, delay_to, next_change}
use Rattle.rules.proofs.Walk.{sum_walk, load_walk}
use Rattle.plain.specs.Exceeded.{change_or_exceeded}

module _ (c : Circuit) (s t : State) (ks : List Channel) (e : s.values ≡ t.values) where
  -- states of the same values have the same node sums
  pub same_sum : (a : ℕ) (from : Option ℕ) (n : ℕ) → node_sum a c s ks from n ≡ node_sum a c t ks from n
  same_sum a from n =
      ap (λ (vs : List ℕ). node_sum a c (record { values = vs; changes = s.changes }) ks from n) e
      ∙ sum_walk c (record { values = t.values; changes = s.changes }) ks a from n
      ∙ sym (sum_walk c t ks a from n)

  -- the same delay walks
  pub same_load : (a : ℕ) (sharing : Bool) (new : ℕ) (from : Option ℕ) (n : ℕ) → node_load a sharing new c s ks from n ≡ node_load a sharing new c t ks from n
  same_load a sharing new from n =
      ap (λ (vs : List ℕ). node_load a sharing new c (record { values = vs; changes = s.changes }) ks from n) e
      ∙ load_walk sharing new c (record { values = t.values; changes = s.changes }) ks a from n
      ∙ sym (load_walk sharing new c t ks a from n)

  same_value : (n : ℕ) → value_at s n ≡ value_at t n
  same_value n = ap (λ (vs : List ℕ). value_at (record { values = vs; changes = s.changes }) n) e

  -- and go to the same values
  pub same_target : (n : ℕ) → target c s ks n ≡ target c t ks n
  unfolding target
  same_target n = rw (same_sum (length c.nodes) none n, same_value n)

  -- after the same delays
  pub same_delay : (new n : ℕ) → delay_to c s ks new n ≡ delay_to c t ks new n
  unfolding delay_to delay_by
  same_delay new n =
      ap (λ (v : Sum). delay_by c s ks (undriven v) new n) (same_sum (length c.nodes) none n)
      ∙ ap (λ (load : Load). (units.delay (in_ohms load.resistance) load.charge).0) (same_load (length c.nodes) (undriven (node_sum (length c.nodes) c t ks none n)) new none n)

  -- and, where the node's pending change is the same too, have the same next change
  pub same_change : (time n : ℕ) → change_at s n ≡ change_at t n → next_change c time s ks n ≡ next_change c time t ks n
  unfolding next_change
  same_change time n k = rw (same_target n, same_value n, k, same_delay (target c t ks n) n)

  -- exceed the ceiling alike
  pub same_exceeds : (n : ℕ) → exceeds c s ks n ≡ exceeds c t ks n
  unfolding exceeds
  same_exceeds n = ap (λ (v : Sum). v.exceeds) (same_sum (length c.nodes) none n)

  -- and so have the same next change, or exceed both
  pub same_or_exceeded : (time n : ℕ) → change_at s n ≡ change_at t n → change_or_exceeded c time s ks n ≡ change_or_exceeded c time t ks n
  unfolding change_or_exceeded
  same_or_exceeded time n k = ap₂ (λ (b : Bool) (v : ℕ). cond b 0 v) (same_exceeds n) (same_change time n k)
