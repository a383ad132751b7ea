-- `bucket`: the number stays small.
use Prim.Native.Nat.{◌<◌}
use Rattle.descent.proofs.memo.bucket.Given as goal

abbrev pub invariant-loop-place : goal.invariant-loop-place
invariant-loop-place l = l.h < 1048576
