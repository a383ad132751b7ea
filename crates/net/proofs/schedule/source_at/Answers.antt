use mathlib.Core.Path.{◌≡◌, ◌∙◌, sym, ap}
use mathlib.Core.Bool.{and-false}
use Prim.Native.Nat.{◌+◌}
use native.Mathlib.Omega.{arith}
use borrow.Author.Tests.{eq-eqb, ne_eqb}
use Rattle.lists.proofs.Cases.{and_both}
use Rattle.units.specs.declared.Picoseconds.{Picoseconds}
use Rattle.net.specs.Net.{time_place, at}
use Rattle.net.proofs.Due.{none_first, none_next, due_found, due_none}
use Rattle.net.proofs.schedule.source_at.Goals as goal
use Rattle.net.proofs.schedule.source_at.Goals.{else-at-time-via-then-at-time+else-net-i, else-at-time-via-else-at-time}

pub loop-i-init : goal.loop-i-init
loop-i-init c = none_first c.args.net.now c.args.time c.args.n

pub entry_time-at-requires : goal.entry_time-at-requires
entry_time-at-requires c = (c.requires, c.loop-i-test.true)

pub returns-then-net-i : goal.returns-then-net-i
returns-then-net-i c =
    let l = c.loop-i in
    let read = c.entry_time-at in
    let e : read.result.0 ≡ at c.args.net.now (time_place + l.i) = ap (λ (t : Picoseconds). t.0) read.ensures.0 in
    due_found c.requires.within c.args.time c.args.n l.i (omega (arith, c.loop-i-test.true)) l.invariant
    (and_both _ _ (eq-eqb _ _ (sym e ∙ c.if-at-time.true)) (eq-eqb _ _ c.if-net-i.true))

pub loop-i-preserved : goal.loop-i-preserved
loop-i-preserved c =
    let l = c.loop-i in
    let read = c.entry_time-at in
    let e : read.result.0 ≡ at c.args.net.now (time_place + l.i) = ap (λ (t : Picoseconds). t.0) read.ensures.0 in
    none_next c.args.net.now c.args.time c.args.n l.i l.invariant
    (elim c.else-at-time.branch [
      | else-at-time-via-then-at-time+else-net-i w ↦ rw (ne_eqb _ _ w.if-net-i.false) (and-false _)
      | else-at-time-via-else-at-time w ↦ rw (ne_eqb _ _ (λ t. w.if-at-time.false (e ∙ t)))
    ])

pub returns : goal.returns
returns c =
    let l = c.loop-i in
    due_none c.requires.within c.args.time c.args.n l.i (omega (arith, c.loop-i-test.false)) l.invariant
