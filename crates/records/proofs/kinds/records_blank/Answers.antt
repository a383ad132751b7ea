-- `records_blank` meets its contract: `all` asks each of the first n records.
use Rattle.std.proofs.Common.{ℕ, ◌≡◌, ◌+◌, ◌*◌, ◌<◌, ◌≤◌, length, true, get_or, take, rules}
use Rattle.std.specs.Prelude.{IsTrue, ◌↔◌, EachIndex}
use Rattle.std.proofs.iter.Serving.{serving}
use Rattle.records.proofs.All.{all_every, taken_inside}
use Rattle.records.proofs.kinds.records_blank.Goals as goal

pub all-requires-clause-callable : goal.all-requires-clause-callable
all-requires-clause-callable g c =
    let rest = c.iter.result.rest.now in
    let same : rest ≡ take c.args.n c.args.records = search rules in
    let within : (k d : ℕ) → k < length rest → 16 * get_or rest k d + 16 ≤ length c.args.file.now = rw same (taken_inside c.args.file.now c.args.n c.args.records c.requires.1) in
    grind (serving, within)

pub returns : goal.returns
returns g c =
    let run = take c.args.n c.args.records in
    let test = g.R.FileRecord.blank c.args.file.now in
    let e : IsTrue c.all.result ↔ EachIndex run (λ k. test (get_or run k 0) ≡ true) = search rules in
    all_every test 0 run c.all.result e
