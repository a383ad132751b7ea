use mathlib.Core.Path.{sym, ◌∙◌, ap, subst}
use mathlib.Core.Option.{Option, some}
use Prim.Native.Nat.{ℕ, ◌+◌, ◌-◌, ◌<◌, ◌≤◌}
use native.Mathlib.Omega.{arith}
use lib.ListN.{length}
use Rattle.units.specs.Rules.{ceiling}
use Rattle.units.specs.Range.{AtMost}
use Rattle.format.specs.Circuit.{node_record}
use Rattle.rules.specs.Delay.{driven_load, own_load, load_arm, join_loads}
use Rattle.rules.specs.Delay as rules
use Rattle.rules.proofs.Walk.{load_end, load_own, not_end_inner}
use Rattle.net.specs.Net.{net_transistor, net_circuit, net_arms}
use Rattle.plain.specs.declared.Load.{Load}
use Rattle.plain.specs.Leaf.{leaf_channels, leaf_state, from_of, leaf_load, load_of}
use Rattle.plain.specs.Ready.{JoinableLoads}
use Rattle.plain.proofs.Cell.{inner_least, from_some}
use Rattle.plain.proofs.Arms.{leaf_load_most}
use Rattle.plain.proofs.Turn.{turn_passes, turn_ends}
use Rattle.plain.proofs.Walks.{LoadTurn, arm_load, value_here, far_in, load_starts, load_joins, load_turns}
use Rattle.plain.proofs.loads.+load_arm_node_load.Goals as goal
use Rattle.plain.proofs.loads.+load_arm_node_load.Goals.{node_load-then-is_arm, node_load-else-is_arm}

pub load_arm-far_end-far-requires : goal.load_arm-far_end-far-requires
load_arm-far_end-far-requires t c = record { net = c.requires.ready.cell; i_bound = c.requires.i_bound }

pub load_arm-node_load-load-requires : goal.load_arm-node_load-load-requires
load_arm-node_load-load-requires t c =
    let in_Cell = far_in c.args.net.now c.args.leaf.now c.requires.ready c.args.n c.args.i c.requires.i_bound in
    (omega (arith, c.decreases), (c.requires.ready, (omega (arith, c.far_end-far.ensures, in_Cell), c.requires.allowance_le_most_nodes)))

pub load_arm-before_load-requires : goal.load_arm-before_load-requires
load_arm-before_load-requires t c =
    let most = leaf_load_most c.args.net.now c.requires.ready.cell c.args.leaf.now c.args.allowance c.args.sharing c.args.new (from_of c.args.i) c.far_end-far.result c.requires.allowance_le_most_nodes in
    record { net = c.requires.ready.cell; i_bound = c.requires.i_bound; at_most = subst (λ (v : rules.Load). AtMost ceiling v.resistance) (sym c.node_load-load.ensures) most }

pub load_arm-returns : goal.load_arm-returns
load_arm-returns t c =
    let net = c.args.net.now in
    let leaf = c.args.leaf.now in
    let i = c.args.i in
    let small : i < 64 = omega (arith, c.requires.ready.cell.within.transistors, c.requires.i_bound) in
    c.before_load.ensures
    ∙ ap (load_arm (net_transistor net i))
    (c.node_load-load.ensures
    ∙ ap (λ (from : Option ℕ). leaf_load net leaf c.args.allowance c.args.sharing c.args.new from c.far_end-far.result) (from_some i small)
    ∙ ap (leaf_load net leaf c.args.allowance c.args.sharing c.args.new (some i)) c.far_end-far.ensures)

pub node_load-is_end-requires : goal.node_load-is_end-requires
node_load-is_end-requires t c = record { ready = c.requires.ready; n_bound = c.requires.n_bound }

pub node_load-read-requires : goal.node_load-read-requires
node_load-read-requires t c = omega (arith, c.requires.ready.numbers.long, c.requires.ready.cell.within.nodes, c.requires.n_bound)

pub node_load-returns-then-is_end : goal.node_load-returns-then-is_end
node_load-returns-then-is_end t c =
    let net = c.args.net.now in
    let leaf = c.args.leaf.now in
    let n = c.args.n in
    let driven = sym c.is_end.ensures ∙ c.if-is_end.true in
    c.driven_load.ensures
    ∙ ap (driven_load c.args.new) (c.read.ensures ∙ sym (value_here net leaf c.requires.ready n c.requires.n_bound))
    ∙ sym (load_end (net_circuit net) (leaf_state (net_circuit net) 0 leaf) (leaf_channels (net_circuit net) leaf) c.args.sharing c.args.new c.args.allowance (from_of c.args.from) n driven)

pub node_load-own_load-load-requires : goal.node_load-own_load-load-requires
node_load-own_load-load-requires t c = record { ready = c.requires.ready; noded = record { least = inner_least c.args.net.now c.args.n (not_end_inner c.args.sharing c.args.new (net_circuit c.args.net.now) (leaf_state (net_circuit c.args.net.now) 0 c.args.leaf.now) c.args.n (sym c.is_end.ensures ∙ c.if-is_end.false)); most = c.requires.n_bound } }

pub node_load-returns-then-allowance-eq0 : goal.node_load-returns-then-allowance-eq0
node_load-returns-then-allowance-eq0 t c =
    let net = c.args.net.now in
    let leaf = c.args.leaf.now in
    let n = c.args.n in
    let inner = sym c.is_end.ensures ∙ c.if-is_end.false in
    c.own_load-load.ensures
    ∙ ap (own_load c.args.new (node_record (net_circuit net) n).capacitance) (sym (value_here net leaf c.requires.ready n c.requires.n_bound))
    ∙ sym (load_own (net_circuit net) (leaf_state (net_circuit net) 0 leaf) (leaf_channels (net_circuit net) leaf) c.args.sharing c.args.new (from_of c.args.from) n inner)
    ∙ ap (λ (a : ℕ). leaf_load net leaf a c.args.sharing c.args.new (from_of c.args.from) n) (sym c.if-allowance-eq0.true)

pub node_load-degree_of-k-end-requires : goal.node_load-degree_of-k-end-requires
node_load-degree_of-k-end-requires t c = record { net = c.requires.ready.cell; n_bound = c.requires.n_bound }

pub node_load-loop-k-init : goal.node_load-loop-k-init
node_load-loop-k-init t c =
    let net = c.args.net.now in
    let leaf = c.args.leaf.now in
    let inner = sym c.is_end.ensures ∙ c.if-is_end.false in
    let some_left : 1 ≤ c.args.allowance = omega (arith, c.if-allowance-eq0.false) in
    subst (LoadTurn net leaf c.args.allowance c.args.sharing c.args.new c.args.from c.args.n 0)
    (sym c.own_load-load.ensures)
    (load_starts net leaf c.requires.ready c.args.allowance c.args.from c.args.n some_left c.requires.n_bound c.args.sharing c.args.new inner)

pub node_load-arm_at-i-requires : goal.node_load-arm_at-i-requires
node_load-arm_at-i-requires t c =
    let node-load-left : c.loop-k.k < length (net_arms c.args.net.now c.args.n) = (omega (arith, c.loop-k-test.true, c.degree_of-k-end.ensures)) in
    record { net = c.requires.ready.cell; n_bound = c.requires.n_bound; k_in_bounds = node-load-left }

pub node_load-is_arm-requires : goal.node_load-is_arm-requires
node_load-is_arm-requires t c = record { leaf_len = c.requires.ready.numbers.long; i_bound = omega (arith, c.arm_at-i.ensures.1, c.requires.ready.cell.within.transistors) }

pub node_load-overflow_sub-allowance : goal.node_load-overflow_sub-allowance
node_load-overflow_sub-allowance t c = omega (arith, c.if-allowance-eq0.false)

pub node_load-load_arm-requires : goal.node_load-load_arm-requires
node_load-load_arm-requires t c = (omega (arith, c.decreases, c.if-allowance-eq0.false), (c.requires.ready, (c.arm_at-i.ensures.1, omega (arith, c.requires.allowance_le_most_nodes))))

pub node_load-join_loads-load-requires : goal.node_load-join_loads-load-requires
node_load-join_loads-load-requires t c =
    let node-load-left : c.loop-k.k < length (net_arms c.args.net.now c.args.n) = (omega (arith, c.loop-k-test.true, c.degree_of-k-end.ensures)) in
    let node-load-goes : let loop = c.loop-k in
    let one = arm_load c.args.net.now c.args.leaf.now (c.args.allowance - 1) c.args.sharing c.args.new c.args.n c.arm_at-i.result in
    JoinableLoads (load_of loop.load) one × LoadTurn c.args.net.now c.args.leaf.now c.args.allowance c.args.sharing c.args.new c.args.from c.args.n (loop.k + 1) (join_loads (load_of loop.load) one) = (let loop = c.loop-k in
    let some_left : 1 ≤ c.args.allowance = omega (arith, c.if-allowance-eq0.false) in (
      load_joins c.args.net.now c.args.leaf.now c.requires.ready c.args.allowance c.args.from c.args.n some_left c.requires.n_bound
          loop.k c.arm_at-i.result c.is_arm.result (node-load-left) c.arm_at-i.ensures.0 c.arm_at-i.ensures.1
          c.is_arm.ensures c.if-is_arm.true c.args.sharing c.args.new (load_of loop.load) loop.invariant,
      load_turns c.args.net.now c.args.leaf.now c.requires.ready c.args.allowance c.args.from c.args.n some_left c.requires.n_bound
          loop.k c.arm_at-i.result c.is_arm.result (node-load-left) c.arm_at-i.ensures.0 c.arm_at-i.ensures.1
          c.is_arm.ensures c.if-is_arm.true c.args.sharing c.args.new (load_of loop.load) loop.invariant,
    )) in
    subst (JoinableLoads (load_of c.loop-k.load)) (sym c.load_arm.ensures) (node-load-goes).0

pub node_load-loop-k-preserved : goal.node_load-loop-k-preserved
node_load-loop-k-preserved t c =
    let loop = c.loop-k in
    let left : loop.k < length (net_arms c.args.net.now c.args.n) = omega (arith, c.loop-k-test.true, c.degree_of-k-end.ensures) in
    let some_left : 1 ≤ c.args.allowance = omega (arith, c.if-allowance-eq0.false) in
    let Goal : Load → Type 0 = λ v. LoadTurn c.args.net.now c.args.leaf.now c.args.allowance c.args.sharing c.args.new c.args.from c.args.n (loop.k + 1) (load_of v) in
    elim c.if-is_arm.branch [
      | node_load-then-is_arm w ↦ subst Goal (sym w.load-is)
          (subst (LoadTurn c.args.net.now c.args.leaf.now c.args.allowance c.args.sharing c.args.new c.args.from c.args.n (loop.k + 1))
          (sym (w.join_loads-load.ensures ∙ ap (join_loads (load_of loop.load)) w.load_arm.ensures))
          (load_turns c.args.net.now c.args.leaf.now c.requires.ready c.args.allowance c.args.from c.args.n some_left c.requires.n_bound
          loop.k c.arm_at-i.result c.is_arm.result left c.arm_at-i.ensures.0 c.arm_at-i.ensures.1
          c.is_arm.ensures w.if-is_arm.true c.args.sharing c.args.new (load_of loop.load) loop.invariant))
      | node_load-else-is_arm w ↦ subst Goal (sym w.load-is) (turn_passes loop.invariant left c.arm_at-i.result c.arm_at-i.ensures.0 c.is_arm.result c.is_arm.ensures w.if-is_arm.false)
    ]

pub node_load-returns : goal.node_load-returns
node_load-returns t c = turn_ends c.loop-k.invariant (omega (arith, c.loop-k-test.false, c.degree_of-k-end.ensures))
