-- `input_changed` meets its contract: a rail is no input. Assumes nothing.
use native.Mathlib.Omega.{arith}
use mathlib.Core.Path.{◌∙◌}
use borrow.Author.Tests.{eq-eqb, ne_eqb}
use Rattle.net.proofs.Laying.{input_at}
use Rattle.prepare.proofs.Reading.{laid_rail, if_so, if_not}
use Rattle.prepare.proofs.seeds.input_changed.Goals as goal

pub returns-then-at-lt2 : goal.returns-then-at-lt2
returns-then-at-lt2 c = if_not _ _ (laid_rail _ c.requires.0 _ c.if-at-lt2.true)

pub overflow_add-role : goal.overflow_add-role
overflow_add-role c = omega (arith, c.requires.1, c.requires.0.within.nodes)

pub offset_bounds-net-at : goal.offset_bounds-net-at
offset_bounds-net-at c = omega (arith, c.requires.1, c.requires.0.within.nodes)

pub bounds-net-at : goal.bounds-net-at
bounds-net-at c = omega (arith, c.requires.1, c.requires.0.within.nodes, c.requires.0.long)

pub offset_bounds-changed-at : goal.offset_bounds-changed-at
offset_bounds-changed-at c = omega (arith, c.requires.1, c.requires.0.within.nodes)

pub bounds-changed-at : goal.bounds-changed-at
bounds-changed-at c = omega (arith, c.requires.1, c.requires.0.within.nodes)

pub returns-then-role-eq1 : goal.returns-then-role-eq1
returns-then-role-eq1 c = if_so _ _ (input_at _ _ c.if-at-lt2.false c.requires.1 ∙ eq-eqb _ 1 c.if-role-eq1.true)

pub returns-else-role-eq1 : goal.returns-else-role-eq1
returns-else-role-eq1 c = if_not _ _ (input_at _ _ c.if-at-lt2.false c.requires.1 ∙ ne_eqb _ 1 c.if-role-eq1.false)
