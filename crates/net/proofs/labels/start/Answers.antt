use Prim.Native.Nat.{ℕ}
use mathlib.Core.Path.{◌≡◌, refl}
use native.Mathlib.Omega.{arith}
use Rattle.net.proofs.Joins.{row_none, row_more}
use Rattle.net.proofs.labels.start.Goals as goal

pub loop-n-init : goal.loop-n-init
loop-n-init c = row_none c.args.place (λ (i : ℕ). i) c.args.column.now

pub loop-n-preserved : goal.loop-n-preserved
loop-n-preserved c =
    let l = c.loop-n in
    let long = l.invariant.rest.long in
    row_more c.args.place (λ (i : ℕ). i) l.n l.n c.args.column.now l.column l.invariant (omega arith) refl

pub returns : goal.returns
returns c =
    let l = c.loop-n in
    let done : l.n ≡ 26 = omega arith in
    rw done at l.invariant
