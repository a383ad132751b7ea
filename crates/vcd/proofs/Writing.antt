-- Pieces of a dump written one behind the other.
use mathlib.Core.Path.{◌≡◌}
use mathlib.Core.List.{List, []}
use mathlib.Core.Bool.{Bool, true, false, cond}
use Prim.Native.Nat.{ℕ, ◌+◌, ◌≤◌}
use lib.ListN.{length}
use Rattle.text.specs.Written.{Wrote}
use Rattle.text.proofs.Lines.{wrote_none}

-- what is written where a test fails, and there is room for it
module _ (x : List ℕ) {test : Bool} (at room : ℕ) where
  pub unless_room : test ≡ false → at + length (cond test [] x) ≤ room → at + length x ≤ room
  unless_room e h = rw e at h

-- nothing is written where it passes
pub unless_none : (x out : List ℕ) (at : ℕ) {test : Bool} → test ≡ true → Wrote out out at (cond test [] x) at
unless_none x out at e = rw e (wrote_none out at)

pub unless_wrote : {x before after : List ℕ} {at end : ℕ} {test : Bool} → test ≡ false → Wrote before after at x end → Wrote before after at (cond test [] x) end
unless_wrote e w = rw e w
