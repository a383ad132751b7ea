use Prim.Native.Nat.{◌+◌}
use borrow.Author.Tests.{eq-eqb, ne_eqb}
use mathlib.Core.Path.{◌≡◌, ◌∙◌, sym}
use native.Mathlib.Omega.{arith}
use Rattle.net.specs.Net.{at}
use Rattle.net.specs.Written.{relabelled}
use Rattle.net.proofs.Joins.{row_none, row_more, row_kept}
use Rattle.net.proofs.labels.relabel.Goals as goal
use Rattle.net.proofs.labels.relabel.Goals.{then-column-place, else-column-place}

pub loop-n-init : goal.loop-n-init
loop-n-init c =
    row_none c.args.place (relabelled c.args.column.now c.args.place c.args.old c.args.new) c.args.column.now

pub loop-n-preserved : goal.loop-n-preserved
loop-n-preserved c =
    let l = c.loop-n in
    let label = relabelled c.args.column.now c.args.place c.args.old c.args.new in
    let stays = l.invariant.rest.above (c.args.place + l.n) (omega arith) in
    let long = l.invariant.rest.long in
    elim c.if-column-place.branch [
      | then-column-place w ↦
          let value : c.args.new ≡ label l.n = rw (eq-eqb _ _ (sym stays ∙ w.if-column-place.true)) in
          rw w.column-is (row_more c.args.place label l.n c.args.new c.args.column.now l.column l.invariant (omega arith) value)
      | else-column-place w ↦
          let value : at l.column (c.args.place + l.n) ≡ label l.n = rw (ne_eqb _ _ (λ e. w.if-column-place.false (stays ∙ e))) stays in
          rw w.column-is (row_kept c.args.place label l.n c.args.column.now l.column l.invariant value)
    ]

pub returns : goal.returns
returns c =
    let l = c.loop-n in
    let done : l.n ≡ 26 = omega arith in
    rw done at l.invariant
