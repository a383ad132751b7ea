use mathlib.Core.Path.{sym}
use native.Mathlib.Omega.{arith}
use lib.Seq.{length-take-le}
use Rattle.descent.specs.Memo.{slots}
use Rattle.descent.proofs.Slots.{freed}
use Rattle.descent.proofs.memo.forget.Goals as goal

pub slice_bounds-fill-end-2 : goal.slice_bounds-fill-end-2
slice_bounds-fill-end-2 c = sym (length-take-le slots c.args.memo.now (omega (arith, c.requires)))

pub returns : goal.returns
returns c = freed c.args.memo.now c.fill.new.self c.requires (c.fill.ensures.after (λ y e. e))
