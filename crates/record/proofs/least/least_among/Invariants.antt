-- `least::least_among` meets its contract. The loop's invariant: the least number so far. Assumes nothing.
use mathlib.Core.Path.{◌≡◌}
use Rattle.record.specs.Numbers.{least_listed}
use Rattle.record.proofs.least.least_among.Given as goal

abbrev pub invariant-loop-e : goal.invariant-loop-e
invariant-loop-e l = l.all ≡ least_listed l.least l.fn.entries l.e-index
