-- `legal::transistors_legal` meets its contract: `all` asks each of them. Assumes nothing.
use Rattle.std.proofs.Common.{◌≡◌, true, get_or, take, rules}
use Rattle.std.specs.Prelude.{IsTrue, ◌↔◌, EachIndex}
use Rattle.format.specs.Circuit.{no_transistor}
use Rattle.format.specs.Legal.{transistor_legal}
use Rattle.cell.proofs.Loops.{all_firsts}
use Rattle.cell.proofs.legal.transistors_legal.Goals as goal

pub returns : goal.returns
returns c =
    let run = take c.args.count c.args.transistors in
    let e : IsTrue c.all.result ↔ EachIndex run (λ k. transistor_legal c.args.nodes (get_or run k no_transistor) ≡ true) = search rules in
    all_firsts (transistor_legal c.args.nodes) _ no_transistor c.args.transistors c.all.result (search rules) e
