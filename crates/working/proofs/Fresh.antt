-- A fresh working table.
use mathlib.Core.Path.{◌≡◌, sym, ◌∙◌, ap}
use mathlib.Core.List.{List}
use mathlib.Core.Bool.{Bool}
use Prim.Native.Nat.{ℕ, ◌-◌, ◌≤◌}
use lib.ListN.{length, replicate, length-replicate}
use Rattle.diagram.specs.Store.{fresh}
use Rattle.diagram.specs.Held.{HeldIn}
use Rattle.diagram.proofs.Held.{held_test, held_sound_lem}
use Rattle.diagram.proofs.Calls.{fresh_sound}
use Rattle.table.specs.Holds.{Sized, Judged, zero_from, Empty}
use Rattle.functions.specs.Open.{Open}
use Rattle.functions.proofs.Carry.{judged_open}

-- zeros from the first place on
pub empty_zeros : (old : List ℕ) {new : List ℕ} → new ≡ zero_from 0 old → Empty new
empty_zeros old {new} e =
    let long : length new ≡ length old - 0 = ap length e ∙ length-replicate (length old - 0) 0 in
    e ∙ ap (λ (n : ℕ). replicate n 0) (sym long)

-- the fresh table passes the check
pub begin_open : {letters : ℕ} {l0 w0 h0 ix0 l w h ix : List ℕ} {r : Bool} → Sized l0 w0 h0 ix0 → letters ≤ 12 → HeldIn (length l0) fresh l w h → Judged letters l w h 3 ix r → Open letters l w h ix 3
begin_open {letters} {l = l} {w} {h} s few g j = judged_open j (j.is ∙ held_test letters l w h 3 (held_sound_lem g s.least (fresh_sound letters))) few
