-- `legal::entries_legal` meets its contract: `all` asks each of them. Assumes nothing.
use Rattle.std.proofs.Common.{◌≡◌, true, get_or, take, rules}
use Rattle.std.specs.Prelude.{IsTrue, ◌↔◌, EachIndex}
use Rattle.format.specs.Circuit.{no_entry}
use Rattle.format.specs.Legal.{entry_legal}
use Rattle.cell.specs.Value.{circuit_of}
use Rattle.cell.proofs.Loops.{all_firsts}
use Rattle.cell.proofs.legal.entries_legal.Goals as goal

pub returns : goal.returns
unfolding circuit_of
returns c =
    let run = take c.args.cell.header.entries c.args.cell.schedule in
    let e : IsTrue c.all.result ↔ EachIndex run (λ k. entry_legal (circuit_of c.args.cell) (get_or run k no_entry) ≡ true) = search rules in
    all_firsts (entry_legal (circuit_of c.args.cell)) _ no_entry c.args.cell.schedule c.all.result (search rules) e
