use mathlib.Core.Path.{◌∙◌}
use native.Mathlib.Omega.{arith}
use Rattle.vcd.specs.Lines.{unchanged}
use Rattle.vcd.proofs.Same.{same_part}
use Rattle.vcd.proofs.is_unchanged.Goals as goal

pub returns : goal.returns
unfolding unchanged
returns c = c.eq.ensures ∙ same_part c.args.before.now c.args.after.now 2 c.args.nodes (omega (arith, c.requires.0.few, c.requires.0.long)) (omega (arith, c.requires.0.few, c.requires.1.long))
