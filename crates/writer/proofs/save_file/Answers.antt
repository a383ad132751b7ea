-- `save_file` meets its contract: the reading decides.
use Rattle.std.proofs.Common.{◌≡◌, Err, rules}
use Rattle.cell.proofs.Answers.{reading_refused, reading_done, reading_legal, legal_counted}
use Rattle.writer.proofs.Saves.{saves_refused, saves_as}
use Rattle.writer.proofs.save_file.Goals as goal
use Rattle.format.specs.Saved.{saved_in}
use mathlib.Core.Path.{ap}
use lib.ListN.{length}

pub returns-in_err-cell : goal.returns-in_err-cell
unfolding saved_in
returns-in_err-cell c =
    let e : c.from_residual.result ≡ Err c.in_err-cell.field-0.0 = search rules in
    rw e (saves_refused c.args.out.now _ _ (ap (saved_in (length c.args.out.now)) (reading_refused c.args.file.now _ c.read.ensures _ c.in_err-cell.was)))

pub save_legal-requires : goal.save_legal-requires
save_legal-requires c = legal_counted _ (reading_legal c.args.file.now _ c.read.ensures _ c.in_ok-cell.was)

pub returns : goal.returns
returns c = saves_as (ap (saved_in (length c.args.out.now)) (reading_done c.args.file.now _ c.read.ensures _ c.in_ok-cell.was)) c.save_legal.ensures
