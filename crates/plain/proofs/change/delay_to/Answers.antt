-- `delay_to` gives the walk one of allowance for each node record.
use mathlib.Core.Path.{◌≡◌, sym, ◌∙◌, ap}
use mathlib.Core.Option.{none}
use Prim.Native.Nat.{ℕ}
use native.Mathlib.Omega.{arith}
use Rattle.units.specs.declared.Ohms.{Ohms}
use Rattle.units.specs.declared.Picoseconds.{Picoseconds}
use Rattle.units.specs.Rules.{delay}
use Rattle.rules.specs.Delay.{Load, in_ohms}
use Rattle.rules.specs.Step.{delay_by}
use Rattle.net.proofs.Laying.{nodes_length}
use Rattle.plain.specs.Leaf.{leaf_load, leaf_delay}
use Rattle.plain.proofs.Changing.{delay_small}
use Rattle.plain.proofs.change.delay_to.Goals as goal

pub node_load-load-requires : goal.node_load-load-requires
node_load-load-requires c = record { ready = c.requires.ready; n_bound = c.requires.n_bound; allowance_le_most_nodes = omega (arith, c.read-nodes.ensures, c.requires.ready.cell.within.nodes) }

pub returns : goal.returns
unfolding delay_by
returns c =
    let net = c.args.net.now in
    let leaf = c.args.leaf.now in
    let sharing = c.args.sharing in
    let new = c.args.new in
    let n = c.args.n in
    let e : c.delay.result.0 ≡ leaf_delay net leaf sharing new n =
    ap (λ (d : Picoseconds). d.0) c.delay.ensures
    ∙ ap (λ (r : Ohms). (delay r c.node_load-load.result.charge).0) c.in_ohms-ohms.ensures
    ∙ ap (λ (load : Load). (delay (in_ohms load.resistance) load.charge).0)
    (c.node_load-load.ensures
    ∙ ap (λ (a : ℕ). leaf_load net leaf a sharing new none n) (c.read-nodes.ensures ∙ sym (nodes_length net))) in
    (e, omega (arith, e, delay_small net leaf c.requires.ready n c.requires.n_bound sharing new))
