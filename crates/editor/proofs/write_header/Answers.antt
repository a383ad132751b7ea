-- `write_header` writes five numbers over five.
use native.Mathlib.Omega.{arith}
use lib.ListN.{length-set}
use Rattle.editor.proofs.Five.{five}
use Rattle.editor.proofs.write_header.Goals as goal

pub bounds-header-4 : goal.bounds-header-4
bounds-header-4 c = simp length-set (omega arith)

pub shape_of-header : goal.shape_of-header
shape_of-header c = simp length-set

pub returns : goal.returns
returns c = five c.args.header.now _ _ _ _ _ c.requires.0
