-- `records_at` meets its contract. Invariant: the first k places are those of the first k records.
use Rattle.std.proofs.Common.{◌≡◌, map, take}
use Rattle.lists.specs.Padded.{padded}
use Rattle.records.proofs.kinds.records_at.Given as goal

abbrev pub invariant-loop-k : goal.invariant-loop-k
invariant-loop-k g l = let r = g.R.FileRecord in l.found ≡ padded g.row.N r.NONE (map (r.at l.file) (take l.k l.records))
