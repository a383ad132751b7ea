-- `put_saving` meets its contract: the refusal's line, where there is one.
use native.Mathlib.Omega.{arith}
use Rattle.output.proofs.Buffers.{refusal_printed}
use Rattle.output.proofs.put_saving.Goals as goal

pub returns-in-Err : goal.returns-in-Err
returns-in-Err c =
    let w = c.put_refused-end.ensures in
    refusal_printed c.in-Err.why _ _ _ _ c.in-Err.is (omega (arith, c.requires, w.short)) w
