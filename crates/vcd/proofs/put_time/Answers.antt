-- `put_time` meets its contract. The mark, then the digits.
use native.Mathlib.Omega.{arith}
use Rattle.text.proofs.Written.{wrote_then}
use Rattle.vcd.proofs.put_time.Goals as goal

pub returns : goal.returns
returns c = wrote_then c.put_byte-mark.ensures c.put_ended.ensures (omega (arith, c.requires))
