-- `change_to` follows the definition's two cases; T + delay fits 64 bits because a delay fits 55.
use mathlib.Core.Path.{◌≡◌, sym, ◌∙◌, ap, ap₂}
use mathlib.Core.Bool.{Bool, cond}
use mathlib.Core.Option.{none}
use Prim.Native.Nat.{ℕ, ◌+◌, min}
use native.Mathlib.Omega.{arith}
use lib.Dec.{leb}
use Rattle.units.specs.declared.Picoseconds.{Picoseconds}
use Rattle.rules.specs.Sum.{undriven, new_value}
use Rattle.net.specs.Net.{nodes_place, horizon_place, at}
use Rattle.net.proofs.Laying.{horizon_at}
use Rattle.plain.specs.Leaf.{leaf_sum, leaf_target, leaf_delay}
use Rattle.plain.proofs.Changing.{target_sum, next_keeps, next_moves}
use Rattle.plain.proofs.change.change_to.Goals as goal

pub returns-then-new-present : goal.returns-then-new-present
returns-then-new-present c =
    let goes : c.new_value-new.result ≡ leaf_target c.args.net.now c.args.leaf.now c.args.n = (c.new_value-new.ensures
    ∙ ap₂ new_value c.requires.noded.1 c.read-present.ensures
    ∙ sym (target_sum c.args.net.now c.args.leaf.now c.requires.ready c.args.n c.requires.noded.0.most)) in
    sym (next_keeps c.args.net.now c.args.leaf.now c.requires.ready c.args.n c.requires.noded.0 c.args.time c.args.pending
    (sym (goes) ∙ c.if-new-present.true ∙ c.read-present.ensures))

pub delay_to-d-requires : goal.delay_to-d-requires
delay_to-d-requires c = record { ready = c.requires.ready; n_bound = c.requires.noded.0.most }

pub later-at-requires : goal.later-at-requires
later-at-requires c = omega (arith, c.delay_to-d.ensures.1, c.ranges.time)

pub in_horizon-requires : goal.in_horizon-requires
in_horizon-requires c = omega (arith, c.horizon-last.ensures.1)

pub returns : goal.returns
returns c =
    let goes : c.new_value-new.result ≡ leaf_target c.args.net.now c.args.leaf.now c.args.n = (c.new_value-new.ensures
    ∙ ap₂ new_value c.requires.noded.1 c.read-present.ensures
    ∙ sym (target_sum c.args.net.now c.args.leaf.now c.requires.ready c.args.n c.requires.noded.0.most)) in
    let net = c.args.net.now in
    let leaf = c.args.leaf.now in
    let n = c.args.n in
    let first : ℕ → ℕ = λ (at : ℕ). min c.args.pending at in
    let to : c.new_value-new.result ≡ leaf_target net leaf n = goes in
    let sharing : Bool = undriven (leaf_sum net leaf (at net nodes_place) none n) in
    let delay : c.delay_to-d.result.0 ≡ leaf_delay net leaf sharing (leaf_target net leaf n) n =
    c.delay_to-d.ensures.0
    ∙ ap₂ (λ (b : Bool) (new : ℕ). leaf_delay net leaf b new n) (c.undriven.ensures ∙ ap undriven c.requires.noded.1) to in
    let later : c.later-at.result.0 ≡ c.args.time + leaf_delay net leaf sharing (leaf_target net leaf n) n = ap (λ (t : Picoseconds). t.0) c.later-at.ensures ∙ ap (λ (d : ℕ). c.args.time + d) delay in
    let last : c.horizon-last.result.0 ≡ at net horizon_place = ap (λ (t : Picoseconds). t.0) c.horizon-last.ensures.0 ∙ horizon_at net in
    c.in_horizon.ensures
    ∙ ap₂ (λ (t horizon : ℕ). cond (leb (first t) horizon) (first t) 4294967295) later last
    ∙ sym (next_moves net leaf c.requires.ready n c.requires.noded.0 c.args.time c.args.pending
    (λ e. c.if-new-present.false (to ∙ e ∙ sym c.read-present.ensures)))
