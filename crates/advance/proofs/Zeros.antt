-- The first entries of an array, and zeros past them.
use mathlib.Core.Path.{◌≡◌}
use mathlib.Core.List.{List}
use Prim.Native.Nat.{ℕ}
use lib.ListN.{length, take}
use Rattle.lists.specs.Padded.{padded}
use Rattle.net.specs.Net.{nodes_place, at, net_circuit}
use Rattle.net.proofs.Laying.{nodes_length}
use Rattle.record.specs.declared.Run.{Run}
use Rattle.record.specs.Record.{run_of, record_of}

-- the run with the first entries of its arrays, as many as there are node records
pub run_firsts : (net : List ℕ) (r : Run) (vs cs : List ℕ) → vs ≡ padded 24 0 (take (at net nodes_place) r.values) → cs ≡ padded 24 0 (take (at net nodes_place) r.changes)
    → ◌≡◌ {A = Run} (record { time = r.time; used = r.used; values = vs; changes = cs }) (record_of (run_of (net_circuit net) r))
run_firsts net r vs cs p q =
    let n : length (net_circuit net).nodes ≡ at net nodes_place = nodes_length net in
    let v : vs ≡ padded 24 0 (take (length (net_circuit net).nodes) r.values) = rw n p in
    let c : cs ≡ padded 24 0 (take (length (net_circuit net).nodes) r.changes) = rw n q in
    λ i. record { time = r.time; used = r.used; values = v i; changes = c i }
