-- `keep_open` meets its contract: where it conducts, unless its group is not active.
use native.Mathlib.Omega.{arith}
use lib.ListN.{get_or}
use Rattle.net.specs.Net.{net_transistor}
use Rattle.prepare.proofs.Opening.{open_nowhere, open_conducts}
use Rattle.prepare.proofs.open.keep_open.Goals as goal

pub group_of-g-requires : goal.group_of-g-requires
group_of-g-requires c = c.requires.laid

pub offset_bounds-active-g : goal.offset_bounds-active-g
offset_bounds-active-g c = omega (arith, c.group_of-g.ensures.1)

pub bounds-active-g : goal.bounds-active-g
bounds-active-g c = c.group_of-g.ensures.1

pub returns-then-e-eq0 : goal.returns-then-e-eq0
returns-then-e-eq0 c = rw (← c.group_of-g.ensures.0) (open_nowhere c.requires.fact.0 (net_transistor c.args.net.now c.args.i).polarity _ (get_or c.args.values (net_transistor c.args.net.now c.args.i).gate 0) c.if-e-eq0.true)

pub conducts-requires : goal.conducts-requires
conducts-requires c = record { laid = c.requires.laid; fact = (c.requires.fact.0, c.requires.fact.1) }

pub shape_of-letter : goal.shape_of-letter
shape_of-letter c = omega (arith, c.conducts.auto.letter)

pub shape_of-low : goal.shape_of-low
shape_of-low c = omega (arith, c.conducts.auto.low)

pub shape_of-high : goal.shape_of-high
shape_of-high c = omega (arith, c.conducts.auto.high)

pub shape_of-index : goal.shape_of-index
shape_of-index c = omega (arith, c.conducts.auto.index)

pub returns : goal.returns
returns c = rw (← c.group_of-g.ensures.0) (open_conducts c.requires.fact.0 (net_transistor c.args.net.now c.args.i).polarity _ (get_or c.args.values (net_transistor c.args.net.now c.args.i).gate 0) c.if-e-eq0.false c.conducts.ensures)
