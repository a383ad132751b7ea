-- `moved`: the next change by the leaf or that its walk exceeds, with the pending one after T.
use mathlib.Core.Path.{◌∙◌, ap}
use Prim.Native.Nat.{ℕ}
use Rattle.plain.specs.Exceeded.{number_of}
use Rattle.plain.specs.Leaf.{leaf_next}
use Rattle.plain.specs.Settle.{pending_after}
use Rattle.plain.proofs.Exceeding.{number_change}
use Rattle.plain.proofs.settle.moved.Goals as goal

pub next_change-requires : goal.next_change-requires
next_change-requires c = record { ready = c.requires.0; noded = c.requires.1 }

pub returns : goal.returns
returns c =
    let net = c.args.net.now in
    let leaf = c.args.leaf.now in
    c.as_number.ensures ∙ ap number_of c.next_change.ensures
    ∙ ap (λ (q : ℕ). number_of (leaf_next net leaf c.args.time q c.args.n)) c.pending_after-rest.ensures
    ∙ number_change net leaf c.args.time (pending_after c.args.time c.args.pending) c.args.n
