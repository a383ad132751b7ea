-- Whether a stored run has a next change of 0, which says that a walk exceeds the ceiling.
use Rattle.std.specs.Prelude.{◌≡◌, List, Bool, not, cond, ℕ, ◌<◌, ◌≤◌, length, get_or, eqb}
use Rattle.refusal.specs.declared.Refusal.{Refusal}
use Rattle.refusal.specs.declared.Refusal.TheVariants.{Full, Ceiling}
use Rattle.diagram.specs.Held.{held}
use Rattle.net.specs.Net.{nodes_place, letters_place, at}
use Rattle.plain.specs.Exceeded.{exceeded}
use Rattle.record.specs.declared.Run.{Run}
use Rattle.record.specs.Numbers.{least_among}
use Rattle.record.specs.Leasts.{Leasts}

-- why a full table is refused: 11 before 6
abbrev pub crowding : Bool → Refusal
crowding within = cond within Full Ceiling

-- whether no next change is 0 at any pattern, and the column of least numbers is whole
pub record Judged (net l w h : List ℕ) (r : Run) (least least' : List ℕ) (x : Bool) : Type 0 where
  pub is : x ≡ not (eqb (least_among (at net letters_place) (held l w h r.used) r.changes (at net nodes_place)) exceeded)
  pub long : length least' ≡ length least
  pub leasts : Leasts (at net letters_place) (held l w h r.used) r.used least'

-- what judging asks: entries of the table for next changes, and a column long enough that has the least numbers of the first entries
pub record Judgeable (net l w h : List ℕ) (r : Run) (least : List ℕ) (done : ℕ) : Type 0 where
  pub changes : (i : ℕ) → i < at net nodes_place → get_or r.changes i 0 < r.used
  pub first : done ≤ r.used
  pub room : r.used ≤ length least
  pub leasts : Leasts (at net letters_place) (held l w h r.used) done least
