-- `try_first` meets its contract: the first entries of working are lent. Assumes nothing.
use mathlib.Core.Path.{sym}
use lib.Seq.{length-take-le}
use Rattle.attempt.proofs.First.{letter_fits, low_fits, high_fits, first_roomy}
use Rattle.marked.proofs.tries.try_first.Goals as goal

pub slice_bounds-try_in-end-2 : goal.slice_bounds-try_in-end-2
slice_bounds-try_in-end-2 c = sym (length-take-le c.smaller-size.result c.args.wletter.now (letter_fits c.smaller-size.ensures c.requires.laid.2))

pub slice_bounds-try_in-end-4 : goal.slice_bounds-try_in-end-4
slice_bounds-try_in-end-4 c = sym (length-take-le c.smaller-size.result c.args.wlow.now (low_fits c.smaller-size.ensures c.requires.laid.2))

pub slice_bounds-try_in-end-6 : goal.slice_bounds-try_in-end-6
slice_bounds-try_in-end-6 c = sym (length-take-le c.smaller-size.result c.args.whigh.now (high_fits c.smaller-size.ensures c.requires.laid.2))

pub try_in-requires : goal.try_in-requires
try_in-requires c = record { laid = (c.requires.laid.0, c.requires.laid.1, first_roomy c.smaller-size.ensures c.requires.laid.2); value_entries = c.requires.value_entries }
