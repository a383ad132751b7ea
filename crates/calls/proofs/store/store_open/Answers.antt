-- `store_open` meets its contract. Assumes nothing.
use Rattle.std.proofs.Common.{◌≡◌, Err, rules}
use native.Mathlib.Omega.{arith}
use Rattle.calls.proofs.Answers.{stored_refused, stored_closed}
use Rattle.calls.proofs.store.store_open.Goals as goal

pub make-put-requires : goal.make-put-requires
make-put-requires c = (c.opened.ensures.opened c.in_ok-opened.was, c.opened.ensures.asked c.in_ok-opened.was)

pub returns-in_err-opened : goal.returns-in_err-opened
returns-in_err-opened c = let e : c.from_residual.result ≡ Err c.in_err-opened.field-0.0 = search rules in rw e (stored_refused _ _ _ _ _ _ c.opened.ensures _ c.in_err-opened.was)

pub returns : goal.returns
returns c = stored_closed _ _ _ _ _ _ c.opened.ensures c.in_ok-opened.was (omega (arith, c.make-put.auto.letter)) c.make-put.ensures c.closed.ensures
