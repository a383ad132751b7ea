-- The first node records' functions, stored one after the other.
use Rattle.std.specs.Prelude.{map, ℕ}
use Rattle.format.specs.Circuit.{first_node_number}
use Rattle.diagram.specs.Table.{Table}
use Rattle.rules.specs.State.{up_from}
use Rattle.rules.specs.Run.{StoredAll, store_all}

-- of the first i node records; for all of them this is what a start or a step stores
abbrev pub first_stored : ℕ → (ℕ → ℕ → ℕ) → ℕ → Table → StoredAll
first_stored letters g i t = store_all letters (map g (up_from i first_node_number)) t
