-- The value of a run states the run.
use mathlib.Core.Path.{◌≡◌}
use Prim.Native.Nat.{◌≤◌}
use lib.ListN.{length, take}
use Rattle.lists.specs.Padded.{padded}
use Rattle.lists.proofs.Padded.{padded_first, padded_length}
use Rattle.format.specs.Circuit.{Circuit}
use Rattle.format.specs.Legal.{most_nodes}
use Rattle.rules.specs.Run.{Run}
use Rattle.record.specs.Record.{run_of, record_of}

-- a run with an entry for each node record comes back from its value
pub run_of_record : (c : Circuit) (r : Run) → length r.values ≡ length c.nodes → length r.changes ≡ length c.nodes → run_of c (record_of r) ≡ r
run_of_record c r p q =
    let vs : take (length c.nodes) (padded most_nodes 0 r.values) ≡ r.values = padded_first most_nodes (length c.nodes) 0 r.values p in
    let cs : take (length c.nodes) (padded most_nodes 0 r.changes) ≡ r.changes = padded_first most_nodes (length c.nodes) 0 r.changes q in
    λ i. record { time = r.time; used = r.used; values = vs i; changes = cs i }

-- the value's arrays are full
pub record_long : (r : Run) → length r.values ≤ most_nodes → length r.changes ≤ most_nodes
    → (length (record_of r).values ≡ most_nodes) × (length (record_of r).changes ≡ most_nodes)
record_long r p q = (padded_length most_nodes 0 r.values p, padded_length most_nodes 0 r.changes q)
