use mathlib.Core.Path.{sym, ◌∙◌, ap, subst}
use Prim.Native.Nat.{ℕ, ◌+◌, ◌<◌, ◌≤◌}
use native.Mathlib.Omega.{arith}
use lib.ListN.{length}
use Rattle.format.specs.Circuit.{node_record}
use Rattle.rules.specs.Sum.{driven_sum, own_sum, join_sums}
use Rattle.rules.proofs.Walk.{sum_driven, sum_own}
use Rattle.net.specs.Net.{net_circuit, net_arms}
use Rattle.plain.specs.declared.Sum.{Sum}
use Rattle.plain.specs.Leaf.{leaf_channels, leaf_state, from_of, leaf_sum, sum_of}
use Rattle.plain.specs.Ready.{Divided, Joinable}
use Rattle.plain.proofs.Cell.{inner_least}
use Rattle.plain.proofs.Turn.{turn_passes, turn_ends}
use Rattle.plain.proofs.Walks.{SumTurn, value_here, sum_divided, sum_starts, sum_joins, sum_turns, sum_exceeds}
use Rattle.plain.proofs.Passing.{gives_err}
use Rattle.plain.proofs.sums.+arm_node_sum.Goals as goal
use Rattle.plain.proofs.sums.+arm_node_sum.Goals.{node_sum-then-is_arm+in_ok-arm, node_sum-else-is_arm}

pub arm-far_end-far-requires : goal.arm-far_end-far-requires
arm-far_end-far-requires t c = record { net = c.requires.ready.cell; i_bound = c.requires.i_bound }

pub node_sum-is_driven-requires : goal.node_sum-is_driven-requires
node_sum-is_driven-requires t c = record { net = c.requires.ready.cell; n_bound = c.requires.n_bound }

pub node_sum-read-requires : goal.node_sum-read-requires
node_sum-read-requires t c = omega (arith, c.requires.ready.numbers.long, c.requires.ready.cell.within.nodes, c.requires.n_bound)

pub node_sum-returns-then-is_driven : goal.node_sum-returns-then-is_driven
node_sum-returns-then-is_driven t c =
    let net = c.args.net.now in
    let leaf = c.args.leaf.now in
    let n = c.args.n in
    let driven = sym c.is_driven.ensures ∙ c.if-is_driven.true in
    c.driven_sum.ensures
    ∙ ap driven_sum (c.read.ensures ∙ sym (value_here net leaf c.requires.ready n c.requires.n_bound))
    ∙ sym (sum_driven (net_circuit net) (leaf_state (net_circuit net) 0 leaf) (leaf_channels (net_circuit net) leaf) c.args.allowance (from_of c.args.from) n driven)

pub node_sum-own_sum-sum-requires : goal.node_sum-own_sum-sum-requires
node_sum-own_sum-sum-requires t c = record { ready = c.requires.ready; noded = record { least = inner_least c.args.net.now c.args.n (sym c.is_driven.ensures ∙ c.if-is_driven.false); most = c.requires.n_bound } }

pub node_sum-returns-then-allowance-eq0 : goal.node_sum-returns-then-allowance-eq0
node_sum-returns-then-allowance-eq0 t c =
    let net = c.args.net.now in
    let leaf = c.args.leaf.now in
    let n = c.args.n in
    let inner = sym c.is_driven.ensures ∙ c.if-is_driven.false in
    c.own_sum-sum.ensures
    ∙ ap (own_sum (node_record (net_circuit net) n).capacitance) (sym (value_here net leaf c.requires.ready n c.requires.n_bound))
    ∙ sym (sum_own (net_circuit net) (leaf_state (net_circuit net) 0 leaf) (leaf_channels (net_circuit net) leaf) (from_of c.args.from) n inner)
    ∙ ap (λ (a : ℕ). leaf_sum net leaf a (from_of c.args.from) n) (sym c.if-allowance-eq0.true)

pub node_sum-degree_of-k-end-requires : goal.node_sum-degree_of-k-end-requires
node_sum-degree_of-k-end-requires t c = record { net = c.requires.ready.cell; n_bound = c.requires.n_bound }

pub node_sum-loop-k-init : goal.node_sum-loop-k-init
node_sum-loop-k-init t c =
    let net = c.args.net.now in
    let leaf = c.args.leaf.now in
    let inner = sym c.is_driven.ensures ∙ c.if-is_driven.false in
    let some_left : 1 ≤ c.args.allowance = omega (arith, c.if-allowance-eq0.false) in
    subst (SumTurn net leaf c.args.allowance c.args.from c.args.n 0)
    (sym c.own_sum-sum.ensures)
    (sum_starts net leaf c.requires.ready c.args.allowance c.args.from c.args.n some_left c.requires.n_bound inner)

pub node_sum-arm_at-i-requires : goal.node_sum-arm_at-i-requires
node_sum-arm_at-i-requires t c =
    let node-sum-left : c.loop-k.k < length (net_arms c.args.net.now c.args.n) = (omega (arith, c.loop-k-test.true, c.degree_of-k-end.ensures)) in
    record { net = c.requires.ready.cell; n_bound = c.requires.n_bound; k_in_bounds = node-sum-left }

pub node_sum-is_arm-requires : goal.node_sum-is_arm-requires
node_sum-is_arm-requires t c = record { leaf_len = c.requires.ready.numbers.long; i_bound = omega (arith, c.arm_at-i.ensures.1, c.requires.ready.cell.within.transistors) }

pub node_sum-overflow_sub-allowance : goal.node_sum-overflow_sub-allowance
node_sum-overflow_sub-allowance t c = omega (arith, c.if-allowance-eq0.false)

pub node_sum-returns : goal.node_sum-returns
node_sum-returns t c = turn_ends c.loop-k.invariant (omega (arith, c.loop-k-test.false, c.degree_of-k-end.ensures))

pub arm-before_sum-requires-clause-divided : goal.arm-before_sum-requires-clause-divided
arm-before_sum-requires-clause-divided t c =
    subst Divided (sym c.in_ok-sum.ensures) (sum_divided c.args.net.now c.args.leaf.now c.requires.ready c.args.allowance (from_of c.args.i) c.far_end-far.result)

pub node_sum-join_sums-sum-requires : goal.node_sum-join_sums-sum-requires
node_sum-join_sums-sum-requires t c =
    let loop = c.loop-k in
    let left : loop.k < length (net_arms c.args.net.now c.args.n) = omega (arith, c.loop-k-test.true, c.degree_of-k-end.ensures) in
    let some_left : 1 ≤ c.args.allowance = omega (arith, c.if-allowance-eq0.false) in
    subst (Joinable (sum_of loop.sum))
    (sym c.in_ok-arm.ensures)
    (sum_joins c.args.net.now c.args.leaf.now c.requires.ready c.args.allowance c.args.from c.args.n some_left c.requires.n_bound
    loop.k c.arm_at-i.result c.is_arm.result left c.arm_at-i.ensures.0 c.arm_at-i.ensures.1
    c.is_arm.ensures c.if-is_arm.true (sum_of loop.sum) loop.invariant)

-- an arm that exceeds makes the node exceed
pub node_sum-returns-in_err-arm : goal.node_sum-returns-in_err-arm
node_sum-returns-in_err-arm t c =
    let loop = c.loop-k in
    let left : loop.k < length (net_arms c.args.net.now c.args.n) = omega (arith, c.loop-k-test.true, c.degree_of-k-end.ensures) in
    let some_left : 1 ≤ c.args.allowance = omega (arith, c.if-allowance-eq0.false) in
    gives_err c.from_residual.result c.from_residual.ensures.0 _
    (sum_exceeds c.args.net.now c.args.leaf.now c.requires.ready c.args.allowance c.args.from c.args.n some_left c.requires.n_bound
    loop.k c.arm_at-i.result c.is_arm.result left c.arm_at-i.ensures.0 c.arm_at-i.ensures.1
    c.is_arm.ensures c.if-is_arm.true (sum_of loop.sum) loop.invariant
    c.in_err-arm.ensures)

pub node_sum-loop-k-preserved : goal.node_sum-loop-k-preserved
node_sum-loop-k-preserved t c =
    let loop = c.loop-k in
    let left : loop.k < length (net_arms c.args.net.now c.args.n) = omega (arith, c.loop-k-test.true, c.degree_of-k-end.ensures) in
    let some_left : 1 ≤ c.args.allowance = omega (arith, c.if-allowance-eq0.false) in
    let Goal : Sum → Type 0 = λ v. SumTurn c.args.net.now c.args.leaf.now c.args.allowance c.args.from c.args.n (loop.k + 1) (sum_of v) in
    elim c.if-is_arm.branch [
      | node_sum-then-is_arm+in_ok-arm w ↦ subst Goal (sym w.sum-is)
          (subst (SumTurn c.args.net.now c.args.leaf.now c.args.allowance c.args.from c.args.n (loop.k + 1))
          (sym (w.join_sums-sum.ensures ∙ ap (join_sums (sum_of loop.sum)) w.in_ok-arm.ensures))
          (sum_turns c.args.net.now c.args.leaf.now c.requires.ready c.args.allowance c.args.from c.args.n some_left c.requires.n_bound
          loop.k c.arm_at-i.result c.is_arm.result left c.arm_at-i.ensures.0 c.arm_at-i.ensures.1
          c.is_arm.ensures w.if-is_arm.true (sum_of loop.sum) loop.invariant))
      | node_sum-else-is_arm w ↦ subst Goal (sym w.sum-is) (turn_passes loop.invariant left c.arm_at-i.result c.arm_at-i.ensures.0 c.is_arm.result c.is_arm.ensures w.if-is_arm.false)
    ]
