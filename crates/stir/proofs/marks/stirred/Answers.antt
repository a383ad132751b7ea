-- `marks::stirred` meets its contract: what is asked of the numbers of the transistors is asked of them. Assumes nothing.
use Rattle.std.proofs.Common.{true, false, arith, rules, tests, refl}
use Rattle.std.proofs.lemmas.Iterator.{cases_from_any, YieldsList-from_range}
use Rattle.net.specs.Net.{at}
use Rattle.stir.proofs.Marking.{stirs, stirred_any}
use Rattle.stir.proofs.marks.stirred.Goals as goal

pub returns : goal.returns
returns c =
    let count = at c.args.net.now 1 in
    let stir = stirs c.args.net.now c.args.before.now c.args.after.now in
    stirred_any _ _ _ _ (cases_from_any _ _ _ (stir true) (stir false) c.any.ensures.ran (YieldsList-from_range 0 count count refl (omega arith)) (λ x q k. search (rules, tests)) (λ x q k. search (rules, tests)))
