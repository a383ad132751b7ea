use mathlib.Core.Path.{◌∙◌}
use Prim.Native.Nat.{◌+◌, ◌*◌}
use native.Mathlib.Omega.{arith}
use Rattle.std.proofs.lemmas.Slice.{put_mid-paste}
use Rattle.std.proofs.lemmas.List.Edits.{paste_all}
use Rattle.net.specs.Roots.{roots_length}
use Rattle.descent.specs.Memo.{slots}
use Rattle.descent.proofs.Slots.{kept_all}
use Rattle.descent.proofs.memo.keep.Goals as goal

pub returns : goal.returns
returns c =
    let from = slots + roots_length * c.args.slot in
    let long = c.requires.memo_length_in_bounds.1 in
    kept_all _ _ _ _ c.requires.memo_length_in_bounds.0 c.requires.slot_lt_slots.0 long (put_mid-paste from _ c.args.memo.now _ c.args.roots.now roots_length c.copy_from_slice.ensures.after (omega arith) (omega (arith, long)) ∙ paste_all c.args.memo.now from c.args.roots.now roots_length (omega (arith, long))) c.args.e
