-- `reads::at_marked` meets its contract. Assumes nothing.
use native.Mathlib.Omega.{arith}
use Rattle.prepare.proofs.Reading.{laid_first, laid_second}
use Rattle.stir.proofs.reads.at_marked.Goals as goal

pub overflow_cast-first : goal.overflow_cast-first
overflow_cast-first c = omega (arith, laid_first _ c.requires.0 _ c.requires.1)

pub overflow_cast-second : goal.overflow_cast-second
overflow_cast-second c = omega (arith, laid_second _ c.requires.0 _ c.requires.1)

pub offset_bounds-marks-first : goal.offset_bounds-marks-first
offset_bounds-marks-first c = omega (arith, laid_first _ c.requires.0 _ c.requires.1)

pub bounds-marks-first : goal.bounds-marks-first
bounds-marks-first c = laid_first _ c.requires.0 _ c.requires.1

pub offset_bounds-marks-second : goal.offset_bounds-marks-second
offset_bounds-marks-second c = omega (arith, laid_second _ c.requires.0 _ c.requires.1)

pub bounds-marks-second : goal.bounds-marks-second
bounds-marks-second c = laid_second _ c.requires.0 _ c.requires.1
