-- `run_sound` meets its contract: its tests, one after the other, are those of the definition. Assumes nothing.
use borrow.Author.Rules.{rules}
use mathlib.Core.Path.{◌≡◌, ap}
use native.Mathlib.Omega.{arith}
use lib.ListN.{length}
use borrow.Author.Tests.{not-true, not-false}
use Rattle.units.specs.declared.Picoseconds.{Picoseconds}
use Rattle.net.specs.Net.{net_circuit}
use Rattle.record.proofs.Read.{sound_late, sound_values, sound_changes, sound_inputs}
use Rattle.record.proofs.run_sound.Goals as goal

pub horizon-last-requires : goal.horizon-last-requires
horizon-last-requires c = c.requires.0

pub returns-then-most-time : goal.returns-then-most-time
unfolding net_circuit
returns-then-most-time c =
    let full : (length c.args.r.values ≡ 24) × (length c.args.r.changes ≡ 24) = ((search rules, search rules)) in
    let e : c.horizon-last.result.0 ≡ (net_circuit c.args.net.now).horizon.0 = ap (λ (t : Picoseconds). t.0) c.horizon-last.ensures.0 in
    sound_late c.args.net.now c.args.letter.now c.args.low.now c.args.high.now c.args.r (full).0 (full).1 c.requires.0.within.nodes (omega (arith, e, c.if-most-time.true))

pub entries_among-requires : goal.entries_among-requires
entries_among-requires c = (c.requires.1, c.requires.0.within.nodes)

pub returns-then-not-entries_among : goal.returns-then-not-entries_among
unfolding net_circuit
returns-then-not-entries_among c =
    let full : (length c.args.r.values ≡ 24) × (length c.args.r.changes ≡ 24) = ((search rules, search rules)) in
    let e : c.horizon-last.result.0 ≡ (net_circuit c.args.net.now).horizon.0 = ap (λ (t : Picoseconds). t.0) c.horizon-last.ensures.0 in
    sound_values c.args.net.now c.args.letter.now c.args.low.now c.args.high.now c.args.r (full).0 (full).1 c.requires.0.within.nodes (omega (arith, e, c.if-most-time.false)) c.entries_among.ensures (not-true _ c.if-not-entries_among.true-raw)

pub entries_among-requires-2 : goal.entries_among-requires-2
entries_among-requires-2 c = (c.requires.1, c.requires.0.within.nodes)

pub returns-then-not-entries_among-2 : goal.returns-then-not-entries_among-2
unfolding net_circuit
returns-then-not-entries_among-2 c =
    let full : (length c.args.r.values ≡ 24) × (length c.args.r.changes ≡ 24) = ((search rules, search rules)) in
    let e : c.horizon-last.result.0 ≡ (net_circuit c.args.net.now).horizon.0 = ap (λ (t : Picoseconds). t.0) c.horizon-last.ensures.0 in
    sound_changes c.args.net.now c.args.letter.now c.args.low.now c.args.high.now c.args.r (full).0 (full).1 c.requires.0.within.nodes (omega (arith, e, c.if-most-time.false)) c.entries_among.ensures (not-false _ c.if-not-entries_among.false-raw) (rw e at c.entries_among-2.ensures) (not-true _ c.if-not-entries_among-2.true-raw)

pub inputs_rest-requires : goal.inputs_rest-requires
inputs_rest-requires c = c.requires.0

pub returns : goal.returns
unfolding net_circuit
returns c =
    let full : (length c.args.r.values ≡ 24) × (length c.args.r.changes ≡ 24) = ((search rules, search rules)) in
    let e : c.horizon-last.result.0 ≡ (net_circuit c.args.net.now).horizon.0 = ap (λ (t : Picoseconds). t.0) c.horizon-last.ensures.0 in
    sound_inputs c.args.net.now c.args.letter.now c.args.low.now c.args.high.now c.args.r (full).0 (full).1 c.requires.0.within.nodes (omega (arith, e, c.if-most-time.false)) c.entries_among.ensures (not-false _ c.if-not-entries_among.false-raw) (rw e at c.entries_among-2.ensures) (not-false _ c.if-not-entries_among-2.false-raw) c.inputs_rest.ensures
