-- `source` meets its contract. Assumes nothing.
use native.Mathlib.Omega.{arith}
use Rattle.values.proofs.Arriving.{source_bit, source_branch}
use Rattle.values.proofs.source.source.Goals as goal

pub returns-then-byte-lt2 : goal.returns-then-byte-lt2
returns-then-byte-lt2 c = source_bit c.requires.0 c.args.byte c.if-byte-lt2.true

pub returns : goal.returns
returns c = source_branch c.requires.0 c.args.byte (omega (arith, c.if-byte-lt2.false)) c.requires.1 c.join.ensures
