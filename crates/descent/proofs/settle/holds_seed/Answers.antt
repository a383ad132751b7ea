use Rattle.descent.proofs.Seeds.{piece_reached, piece_none}
use Rattle.descent.proofs.settle.holds_seed.Goals as goal

pub returns-then-marks-m : goal.returns-then-marks-m
returns-then-marks-m c =
    let l = c.loop-m in
    piece_reached c.requires.0 c.requires.1 l.m c.if-marks-m.true

pub returns : goal.returns
returns c =
    let l = c.loop-m in
    piece_none c.requires.0 c.requires.1 l.m c.loop-m-test.false l.invariant
