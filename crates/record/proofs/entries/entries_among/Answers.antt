use mathlib.Core.Path.{◌∙◌}
use lib.ListN.{take}
use native.Mathlib.Omega.{arith}
use Rattle.std.proofs.Common.{rules, tests}
use Rattle.std.proofs.lemmas.Iterator.{YieldsList-from_slice}
use Rattle.std.proofs.lemmas.Iterator.Search.{all_from_yields_List}
use Rattle.diagram.specs.Held.{held}
use Rattle.record.specs.Numbers.{entry_among}
use Rattle.record.proofs.Loops.{all_below}
use Rattle.record.proofs.entries.entries_among.Goals as goal

pub returns : goal.returns
returns c =
    let test = entry_among c.args.k (held c.args.letter.now c.args.low.now c.args.high.now c.args.used) c.args.after c.args.most c.args.other in
    all_from_yields_List test _ _ c.all.result c.all.ensures.ran (YieldsList-from_slice (take c.args.n c.args.entries) cc) (λ x b q k. search (rules, tests))
    ∙ all_below test c.args.n c.args.entries (omega arith)
