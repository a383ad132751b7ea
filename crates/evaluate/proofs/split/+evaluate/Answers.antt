use mathlib.Core.Path.{refl, sym, ◌∙◌}
use native.Mathlib.Omega.{arith}
use Rattle.net.specs.Net.{net_circuit}
use Rattle.evaluate.proofs.Entries.{evaluable_entries, evaluable_more}
use Rattle.evaluate.proofs.Remaining.{left_evaluable, left_fewer}
use Rattle.table.proofs.Entering.{lent_again}
use Rattle.evaluate.proofs.Step.{again_open, again_entries, lows_evaluable, lows_full, next_open, highs_evaluable, highs_full, both_hold, root_stored}
use Rattle.evaluate.proofs.split.+evaluate.Goals as goal

pub letters_left-some-requires : goal.letters_left-some-requires
letters_left-some-requires t c = (c.requires.0.cell, evaluable_entries c.requires.1 c.requires.2 _ refl)

pub leaf-requires : goal.leaf-requires
leaf-requires t c =
    let g = c.letters_left-some.ensures in
    let e = left_evaluable c.requires.1 c.requires.2 g in
    (c.requires.0, c.requires.1, evaluable_more (omega (arith, c.if-some-eq0.true)) e)

pub shape_of-letter-then-some-eq0 : goal.shape_of-letter-then-some-eq0
shape_of-letter-then-some-eq0 t c = omega (arith, c.leaf.auto.letter)

pub shape_of-low-then-some-eq0 : goal.shape_of-low-then-some-eq0
shape_of-low-then-some-eq0 t c = omega (arith, c.leaf.auto.low)

pub shape_of-high-then-some-eq0 : goal.shape_of-high-then-some-eq0
shape_of-high-then-some-eq0 t c = omega (arith, c.leaf.auto.high)

pub shape_of-index-then-some-eq0 : goal.shape_of-index-then-some-eq0
shape_of-index-then-some-eq0 t c = omega (arith, c.leaf.auto.index)

pub returns-then-some-eq0 : goal.returns-then-some-eq0
returns-then-some-eq0 t c = c.leaf.ensures

pub tried-a-requires : goal.tried-a-requires
tried-a-requires t c = (c.requires.0, c.requires.1, evaluable_more c.requires.4 c.requires.2, c.requires.3)

pub shape_of-letter-then-a : goal.shape_of-letter-then-a
shape_of-letter-then-a t c = omega (arith, c.tried-a.auto.letter)

pub shape_of-low-then-a : goal.shape_of-low-then-a
shape_of-low-then-a t c = omega (arith, c.tried-a.auto.low)

pub shape_of-high-then-a : goal.shape_of-high-then-a
shape_of-high-then-a t c = omega (arith, c.tried-a.auto.high)

pub shape_of-index-then-a : goal.shape_of-index-then-a
shape_of-index-then-a t c = omega (arith, c.tried-a.auto.index)

pub shape_of-wletter-then-a : goal.shape_of-wletter-then-a
shape_of-wletter-then-a t c = omega (arith, c.tried-a.auto.wletter)

pub shape_of-wlow-then-a : goal.shape_of-wlow-then-a
shape_of-wlow-then-a t c = omega (arith, c.tried-a.auto.wlow)

pub shape_of-whigh-then-a : goal.shape_of-whigh-then-a
shape_of-whigh-then-a t c = omega (arith, c.tried-a.auto.whigh)

pub shape_of-windex-then-a : goal.shape_of-windex-then-a
shape_of-windex-then-a t c = omega (arith, c.tried-a.auto.windex)

pub returns-then-a : goal.returns-then-a
returns-then-a t c = c.tried-a.ensures.0 c.if-a.true

pub bounds-net-3 : goal.bounds-net-3
bounds-net-3 t c = omega (arith, c.requires.0.cell.long)

pub overflow_sub-m : goal.overflow_sub-m
overflow_sub-m t c = c.letters_left-some.ensures.most

pub halves-lows-requires : goal.halves-lows-requires
halves-lows-requires t c =
    let s = c.tried-a.ensures.1 c.if-a.false in
    (again_entries c.requires.1 c.requires.2 s _ refl, (again_open c.requires.1 c.requires.2 s).legible.low_long)

pub halves-highs-requires : goal.halves-highs-requires
halves-highs-requires t c =
    let s = c.tried-a.ensures.1 c.if-a.false in
    (again_entries c.requires.1 c.requires.2 s _ refl, (again_open c.requires.1 c.requires.2 s).legible.high_long)

pub overflow_sub-some : goal.overflow_sub-some
overflow_sub-some t c = omega (arith, c.if-some-eq0.false)

pub evaluate-p-requires : goal.evaluate-p-requires
evaluate-p-requires t c =
    let g = c.letters_left-some.ensures in
    let e = left_evaluable c.requires.1 c.requires.2 g in
    let s = c.tried-a.ensures.1 c.if-a.false in
    let f = c.if-some-eq0.false in
    let a = c.halves-lows.ensures in
    let b = c.halves-highs.ensures in
    (omega (arith, c.decreases, f, left_fewer c.requires.1 c.requires.2 g), (c.requires.0, again_open c.requires.1 e s, lows_evaluable c.requires.1 e s f g.most refl a b, (lent_again c.requires.3 c.tried-a.auto.wletter c.tried-a.auto.wlow c.tried-a.auto.whigh c.tried-a.auto.windex), omega (arith, g.most)))

pub shape_of-letter-then-stopped : goal.shape_of-letter-then-stopped
shape_of-letter-then-stopped t c = omega (arith, c.evaluate-p.auto.letter, c.tried-a.auto.letter)

pub shape_of-low-then-stopped : goal.shape_of-low-then-stopped
shape_of-low-then-stopped t c = omega (arith, c.evaluate-p.auto.low, c.tried-a.auto.low)

pub shape_of-high-then-stopped : goal.shape_of-high-then-stopped
shape_of-high-then-stopped t c = omega (arith, c.evaluate-p.auto.high, c.tried-a.auto.high)

pub shape_of-index-then-stopped : goal.shape_of-index-then-stopped
shape_of-index-then-stopped t c = omega (arith, c.evaluate-p.auto.index, c.tried-a.auto.index)

pub shape_of-wletter-then-stopped : goal.shape_of-wletter-then-stopped
shape_of-wletter-then-stopped t c = omega (arith, c.evaluate-p.auto.wletter, c.tried-a.auto.wletter)

pub shape_of-wlow-then-stopped : goal.shape_of-wlow-then-stopped
shape_of-wlow-then-stopped t c = omega (arith, c.evaluate-p.auto.wlow, c.tried-a.auto.wlow)

pub shape_of-whigh-then-stopped : goal.shape_of-whigh-then-stopped
shape_of-whigh-then-stopped t c = omega (arith, c.evaluate-p.auto.whigh, c.tried-a.auto.whigh)

pub shape_of-windex-then-stopped : goal.shape_of-windex-then-stopped
shape_of-windex-then-stopped t c = omega (arith, c.evaluate-p.auto.windex, c.tried-a.auto.windex)

pub returns-then-stopped : goal.returns-then-stopped
returns-then-stopped t c =
    let g = c.letters_left-some.ensures in
    let e = left_evaluable c.requires.1 c.requires.2 g in
    let s = c.tried-a.ensures.1 c.if-a.false in
    let f = c.if-some-eq0.false in
    let a = c.halves-lows.ensures in
    let b = c.halves-highs.ensures in
    lows_full c.requires.1 e s f g.most refl a b (net_circuit c.args.net.now) c.args.time c.args.all c.args.n c.evaluate-p.ensures (sym c.stopped.ensures ∙ c.if-stopped.true)

pub overflow_sub-some-2 : goal.overflow_sub-some-2
overflow_sub-some-2 t c = omega (arith, c.if-some-eq0.false)

pub evaluate-q-requires : goal.evaluate-q-requires
evaluate-q-requires t c =
    let g = c.letters_left-some.ensures in
    let e = left_evaluable c.requires.1 c.requires.2 g in
    let s = c.tried-a.ensures.1 c.if-a.false in
    let f = c.if-some-eq0.false in
    let a = c.halves-lows.ensures in
    let b = c.halves-highs.ensures in
    let o = c.evaluate-p.ensures in
    let r = (sym c.stopped.ensures ∙ c.if-stopped.false) in
    (omega (arith, c.decreases, f, left_fewer c.requires.1 c.requires.2 g), (c.requires.0, next_open c.requires.1 e s f g.most refl a b (net_circuit c.args.net.now) c.args.time c.args.all c.args.n o r, highs_evaluable c.requires.1 e s f g.most refl a b (net_circuit c.args.net.now) c.args.time c.args.all c.args.n o r, (lent_again c.requires.3 (omega (arith, c.evaluate-p.auto.wletter, c.tried-a.auto.wletter)) (omega (arith, c.evaluate-p.auto.wlow, c.tried-a.auto.wlow)) (omega (arith, c.evaluate-p.auto.whigh, c.tried-a.auto.whigh)) (omega (arith, c.evaluate-p.auto.windex, c.tried-a.auto.windex))), omega (arith, g.most)))

pub shape_of-letter-then-stopped-2 : goal.shape_of-letter-then-stopped-2
shape_of-letter-then-stopped-2 t c = omega (arith, c.evaluate-q.auto.letter, c.evaluate-p.auto.letter, c.tried-a.auto.letter)

pub shape_of-low-then-stopped-2 : goal.shape_of-low-then-stopped-2
shape_of-low-then-stopped-2 t c = omega (arith, c.evaluate-q.auto.low, c.evaluate-p.auto.low, c.tried-a.auto.low)

pub shape_of-high-then-stopped-2 : goal.shape_of-high-then-stopped-2
shape_of-high-then-stopped-2 t c = omega (arith, c.evaluate-q.auto.high, c.evaluate-p.auto.high, c.tried-a.auto.high)

pub shape_of-index-then-stopped-2 : goal.shape_of-index-then-stopped-2
shape_of-index-then-stopped-2 t c = omega (arith, c.evaluate-q.auto.index, c.evaluate-p.auto.index, c.tried-a.auto.index)

pub shape_of-wletter-then-stopped-2 : goal.shape_of-wletter-then-stopped-2
shape_of-wletter-then-stopped-2 t c = omega (arith, c.evaluate-q.auto.wletter, c.evaluate-p.auto.wletter, c.tried-a.auto.wletter)

pub shape_of-wlow-then-stopped-2 : goal.shape_of-wlow-then-stopped-2
shape_of-wlow-then-stopped-2 t c = omega (arith, c.evaluate-q.auto.wlow, c.evaluate-p.auto.wlow, c.tried-a.auto.wlow)

pub shape_of-whigh-then-stopped-2 : goal.shape_of-whigh-then-stopped-2
shape_of-whigh-then-stopped-2 t c = omega (arith, c.evaluate-q.auto.whigh, c.evaluate-p.auto.whigh, c.tried-a.auto.whigh)

pub shape_of-windex-then-stopped-2 : goal.shape_of-windex-then-stopped-2
shape_of-windex-then-stopped-2 t c = omega (arith, c.evaluate-q.auto.windex, c.evaluate-p.auto.windex, c.tried-a.auto.windex)

pub returns-then-stopped-2 : goal.returns-then-stopped-2
returns-then-stopped-2 t c =
    let g = c.letters_left-some.ensures in
    let e = left_evaluable c.requires.1 c.requires.2 g in
    let s = c.tried-a.ensures.1 c.if-a.false in
    let f = c.if-some-eq0.false in
    let a = c.halves-lows.ensures in
    let b = c.halves-highs.ensures in
    let o = c.evaluate-p.ensures in
    let r = (sym c.stopped.ensures ∙ c.if-stopped.false) in
    let q = c.evaluate-q.ensures in
    highs_full c.requires.1 e s f g.most refl a b (net_circuit c.args.net.now) c.args.time c.args.all c.args.n o r q (sym c.stopped-2.ensures ∙ c.if-stopped-2.true)

pub join-requires : goal.join-requires
join-requires t c =
    let g = c.letters_left-some.ensures in
    let e = left_evaluable c.requires.1 c.requires.2 g in
    let s = c.tried-a.ensures.1 c.if-a.false in
    let f = c.if-some-eq0.false in
    let a = c.halves-lows.ensures in
    let b = c.halves-highs.ensures in
    let o = c.evaluate-p.ensures in
    let r = (sym c.stopped.ensures ∙ c.if-stopped.false) in
    let q = c.evaluate-q.ensures in
    both_hold c.requires.1 e s f g.most refl a b (net_circuit c.args.net.now) c.args.time c.args.all c.args.n o r q (sym c.stopped-2.ensures ∙ c.if-stopped-2.false)

pub shape_of-letter : goal.shape_of-letter
shape_of-letter t c = omega (arith, c.join.auto.letter, c.evaluate-q.auto.letter, c.evaluate-p.auto.letter, c.tried-a.auto.letter)

pub shape_of-low : goal.shape_of-low
shape_of-low t c = omega (arith, c.join.auto.low, c.evaluate-q.auto.low, c.evaluate-p.auto.low, c.tried-a.auto.low)

pub shape_of-high : goal.shape_of-high
shape_of-high t c = omega (arith, c.join.auto.high, c.evaluate-q.auto.high, c.evaluate-p.auto.high, c.tried-a.auto.high)

pub shape_of-index : goal.shape_of-index
shape_of-index t c = omega (arith, c.join.auto.index, c.evaluate-q.auto.index, c.evaluate-p.auto.index, c.tried-a.auto.index)

pub shape_of-wletter : goal.shape_of-wletter
shape_of-wletter t c = omega (arith, c.evaluate-q.auto.wletter, c.evaluate-p.auto.wletter, c.tried-a.auto.wletter)

pub shape_of-wlow : goal.shape_of-wlow
shape_of-wlow t c = omega (arith, c.evaluate-q.auto.wlow, c.evaluate-p.auto.wlow, c.tried-a.auto.wlow)

pub shape_of-whigh : goal.shape_of-whigh
shape_of-whigh t c = omega (arith, c.evaluate-q.auto.whigh, c.evaluate-p.auto.whigh, c.tried-a.auto.whigh)

pub shape_of-windex : goal.shape_of-windex
shape_of-windex t c = omega (arith, c.evaluate-q.auto.windex, c.evaluate-p.auto.windex, c.tried-a.auto.windex)

pub returns : goal.returns
returns t c =
    let g = c.letters_left-some.ensures in
    let e = left_evaluable c.requires.1 c.requires.2 g in
    let s = c.tried-a.ensures.1 c.if-a.false in
    let f = c.if-some-eq0.false in
    let a = c.halves-lows.ensures in
    let b = c.halves-highs.ensures in
    let o = c.evaluate-p.ensures in
    let r = (sym c.stopped.ensures ∙ c.if-stopped.false) in
    let q = c.evaluate-q.ensures in
    root_stored c.requires.1 e s f g.most refl a b (net_circuit c.args.net.now) c.args.time c.args.all c.args.n o r q (sym c.stopped-2.ensures ∙ c.if-stopped-2.false) c.join.ensures
