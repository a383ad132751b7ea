-- Entries by node number, as the next changes are made from them.
use Rattle.std.specs.Prelude.{◌≡◌, List, false, ℕ, ◌+◌, ◌≤◌, ◌<◌, length, get_or}
use Rattle.table.specs.declared.Stop.{Stop}
use Rattle.table.specs.Stop.{stopped}
use Rattle.record.specs.declared.Run.{Run}

-- the rails' entries, then those of the first node records, then 0
pub record ByNode (low supply : ℕ) (entries : List ℕ) (count : ℕ) (out : List ℕ) : Type 0 where
  pub long : length out ≡ 26
  pub ground_is : get_or out 0 0 ≡ low
  pub supply_is : get_or out 1 0 ≡ supply
  pub node_is : (i : ℕ) → i < count → get_or out (2 + i) 0 ≡ get_or entries i 0
  pub past_is : (j : ℕ) → 2 + count ≤ j → get_or out j 0 ≡ 0

-- the run of values and next changes that were stored
pub record Gathers (time : ℕ) (values : List ℕ) (stop : Stop) (used : ℕ) (changes : List ℕ) (none : Stop) (r : Run) : Type 0 where
  pub none_is : none ≡ stop
  pub run_is : stopped stop ≡ false → r ≡ record { time = time; used = used; values = values; changes = changes }
