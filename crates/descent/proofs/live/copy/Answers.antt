use mathlib.Core.Path.{◌≡◌, refl, ◌∙◌}
use Prim.Native.Nat.{◌-◌}
use native.Mathlib.Omega.{arith}
use lib.ListN.{length, take, length-append, length-drop}
use lib.Seq.{length-take-le}
use borrow.Rule.Slice.PartMut.{post_of}
use Rattle.descent.proofs.Listed.{at_none, at_next, copied}
use Rattle.descent.proofs.live.copy.Goals as goal

pub loop-place-init : goal.loop-place-init
loop-place-init c = at_none _ c.requires.1

pub loop-place-preserved : goal.loop-place-preserved
loop-place-preserved c = at_next c.loop-place.invariant c.requires.0.places c.loop-place-test.true _ refl

pub returns : goal.returns
returns c =
    let list = c.args.list.now in
    let few = c.requires.0.places.few in
    let tail : length (post_of 0 c.args.count list) ≡ length list - c.args.count = length-drop c.args.count list in
    let front : length (take c.args.count list) ≡ c.args.count = length-take-le c.args.count list (omega (arith, few, c.requires.2)) in
    copied _ c.requires.0 c.loop-place.invariant c.loop-place-test.false c.copy_from_slice.ensures.after
    (length-append c.copy_from_slice.new.self (post_of 0 c.args.count list) ∙ omega (arith, c.copy_from_slice.ensures.len, front, tail, few, c.requires.2))
