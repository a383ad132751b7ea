-- `save_cell` meets its contract: the check decides.
use Rattle.std.proofs.Common.{◌≡◌, Err, rules}
use Rattle.cell.proofs.Answers.{check_refused, check_legal, legal_counted}
use Rattle.writer.proofs.Saves.{saves_refused, saves_as}
use Rattle.writer.proofs.save_cell.Goals as goal
use Rattle.format.specs.Saved.{saved_in}
use mathlib.Core.Path.{ap}
use lib.ListN.{length}

pub returns-in_err-check : goal.returns-in_err-check
unfolding saved_in
returns-in_err-check c =
    let e : c.from_residual.result ≡ Err c.in_err-check.field-0.0 = search rules in
    rw e (saves_refused c.args.out.now _ _ (ap (saved_in (length c.args.out.now)) (check_refused c.args.cell _ c.check.ensures _ c.in_err-check.was)))

pub save_legal-requires : goal.save_legal-requires
save_legal-requires c = legal_counted _ (check_legal c.args.cell _ c.check.ensures c.in_ok-check.was)

pub returns : goal.returns
returns c = saves_as (ap (saved_in (length c.args.out.now)) (check_legal c.args.cell _ c.check.ensures c.in_ok-check.was)) c.save_legal.ensures
