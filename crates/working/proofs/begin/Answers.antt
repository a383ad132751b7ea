-- `begin` meets its contract: the fresh table passes the check, which builds its index. Assumes nothing.
use native.Mathlib.Omega.{arith}
use Rattle.table.proofs.Entering.{sized_again}
use Rattle.working.proofs.Fresh.{begin_open}
use Rattle.working.proofs.begin.Goals as goal

pub renew-requires : goal.renew-requires
renew-requires c =
    let s = c.requires.0 in (s.least, s.low_long, s.high_long)

pub sound-requires : goal.sound-requires
sound-requires c = (sized_again c.requires.0 (omega (arith, c.renew.auto.letter)) (omega (arith, c.renew.auto.low)) (omega (arith, c.renew.auto.high)) (omega (arith, c.blank.auto.index)), c.blank.ensures)

pub shape_of-letter : goal.shape_of-letter
shape_of-letter c = omega (arith, c.renew.auto.letter)

pub shape_of-low : goal.shape_of-low
shape_of-low c = omega (arith, c.renew.auto.low)

pub shape_of-high : goal.shape_of-high
shape_of-high c = omega (arith, c.renew.auto.high)

pub shape_of-index : goal.shape_of-index
shape_of-index c = omega (arith, c.blank.auto.index, c.sound.auto.index)

pub returns : goal.returns
returns c = begin_open c.requires.0 c.requires.1 c.renew.ensures c.sound.ensures
