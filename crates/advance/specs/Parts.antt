-- What the parts of a task leave in lent columns.
use Rattle.std.specs.Prelude.{◌≡◌, List, Bool, true, false, ℕ, Result, is_err}
use Rattle.refusal.specs.declared.Refusal.{Refusal}
use Rattle.diagram.specs.Call.{columns}
use Rattle.rules.specs.Call.{sound_together}
use Rattle.table.specs.Holds.{zero_from}
use Rattle.functions.specs.Open.{Open}
use Rattle.net.specs.Net.{letters_place, at, net_circuit}
use Rattle.record.specs.declared.Run.{Run}
use Rattle.record.specs.Record.{run_of}

-- whether run and table are sound together; where they are, the columns are open to storing
pub record Together (net l w h ix : List ℕ) (r : Run) (x : Bool) : Type 0 where
  pub is : x ≡ sound_together (net_circuit net) (columns l w h) (run_of (net_circuit net) r)
  pub opened : x ≡ true → Open (at net letters_place) l w h ix r.used

-- the end of a task: the columns before and after it, the old used count, what was reached, and the result
pub record Closed (l w h l' w' h' : List ℕ) (used : ℕ) (next result : Result Run Refusal) : Type 0 where
  pub result_is : result ≡ next
  pub cleared : is_err next ≡ true → columns l' w' h' ≡ columns (zero_from used l) (zero_from used w) (zero_from used h)
  pub kept : is_err next ≡ false → columns l' w' h' ≡ columns l w h
