use native.Mathlib.Omega.{arith}
use Rattle.plain.proofs.Values.{row_copied}
use Rattle.plain.proofs.keep.copy.Goals as goal
use Rattle.std.proofs.Common.{length-take}

pub slice_bounds-copy_from_slice-end-2 : goal.slice_bounds-copy_from_slice-end-2
slice_bounds-copy_from_slice-end-2 c = simp length-take (omega (arith, c.requires.0))

pub copy_from_slice-requires : goal.copy_from_slice-requires
copy_from_slice-requires c = simp length-take (omega (arith, c.requires.0, c.requires.1))

pub returns : goal.returns
returns c = rw c.copy_from_slice.ensures.after (row_copied c.args.leaf.now c.args.values.now (omega (arith, c.requires.0)) c.requires.1)
