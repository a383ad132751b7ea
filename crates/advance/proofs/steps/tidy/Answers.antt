-- `tidy` meets its contract: as many entries as there are node records are kept. Assumes nothing.
use Rattle.advance.proofs.Zeros.{run_firsts}
use Rattle.advance.proofs.steps.tidy.Goals as goal

pub returns : goal.returns
returns c = run_firsts c.args.net.now c.args.r c.firsts.result c.firsts-2.result c.firsts.ensures c.firsts-2.ensures
