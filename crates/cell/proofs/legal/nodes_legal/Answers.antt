-- `legal::nodes_legal` meets its contract: `all` asks each of them. Assumes nothing.
use Rattle.std.proofs.Common.{◌≡◌, true, get_or, take, rules}
use Rattle.std.specs.Prelude.{IsTrue, ◌↔◌, EachIndex}
use Rattle.format.specs.Circuit.{no_node}
use Rattle.format.specs.Legal.{node_legal}
use Rattle.cell.proofs.Loops.{all_firsts}
use Rattle.cell.proofs.legal.nodes_legal.Goals as goal

pub returns : goal.returns
returns c =
    let run = take c.args.count c.args.nodes in
    let e : IsTrue c.all.result ↔ EachIndex run (λ k. node_legal c.args.letters (get_or run k no_node) ≡ true) = search rules in
    all_firsts (node_legal c.args.letters) _ no_node c.args.nodes c.all.result (search rules) e
