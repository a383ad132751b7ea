-- The next change of a node between two states, by the leaf of the values after T.
use mathlib.Core.Path.{◌≡◌, sym, ◌∙◌, ap}
use mathlib.Core.List.{List}
use mathlib.Core.Bool.{Bool, false, cond}
use Prim.Native.Nat.{ℕ}
use native.Mathlib.Omega.{arith}
use Rattle.format.specs.Circuit.{Circuit}
use Rattle.rules.specs.State.{State, change_at}
use Rattle.rules.specs.Kept.{Channel, kept}
use Rattle.net.specs.Net.{net_circuit}
use Rattle.net.proofs.Laying.{nodes_length}
use Rattle.plain.specs.Exceeded.{change_or_exceeded}
use Rattle.plain.specs.Leaf.{leaf_state, leaf_change}
use Rattle.plain.specs.Ready.{Noded, Ready}
use Rattle.plain.specs.Shown.{Shows}
use Rattle.plain.specs.Leaves.{KeptLeaf}
use Rattle.plain.specs.Settle.{considers, change_between, Between}
use Rattle.plain.proofs.Cell.{leaf_change_lem}
use Rattle.plain.proofs.Same.{same_or_exceeded}
use Rattle.plain.proofs.Ready.{leaf_shows, kept_ready}

module _ {net old new : List ℕ} (b : Between net old new) where
  -- the leaf is ready for the walks
  pub between_ready : {leaf : List ℕ} → KeptLeaf net new leaf → Ready net leaf
  between_ready {leaf} l = kept_ready net new leaf b.cell b.after b.bits l

  module _ {n : ℕ} (k : Noded net n) (s t : State) (shows : Shows (net_circuit net) new t) (time pending : ℕ) (waits : change_at t n ≡ pending) (all : Bool) where
    abbrev c : Circuit
    c = net_circuit net

    -- by its leaf a node has the next change that the rules give, or exceeds as there
    leaf_next_lem : {leaf : List ℕ} → KeptLeaf net new leaf → leaf_change net leaf time pending n ≡ change_or_exceeded c time t (kept c t) n
    leaf_next_lem {leaf} l =
        ap (λ (ks : List Channel). change_or_exceeded c time (leaf_state c pending leaf) ks n) (l.channels t shows)
        ∙ same_or_exceeded c (leaf_state c pending leaf) t (kept c t) (leaf_shows net new leaf b.cell b.after l ∙ sym shows) time n
        (leaf_change_lem c leaf pending n k.least (omega (arith, nodes_length net, k.most)) ∙ sym waits)

    -- reconsidered or not
    pub settles : {leaf : List ℕ} → KeptLeaf net new leaf → (moves : Bool) (v : ℕ) → moves ≡ considers (net_circuit net) all s t n
        → v ≡ cond moves (leaf_change net leaf time pending n) pending → v ≡ change_between (net_circuit net) time all s t n
    settles l moves v e f = f ∙ (λ i. cond (e i) (leaf_next_lem l i) (sym waits i))

    -- not reconsidered
    pub rests : (moves : Bool) (v : ℕ) → moves ≡ considers (net_circuit net) all s t n → moves ≡ false → v ≡ pending → v ≡ change_between (net_circuit net) time all s t n
    rests moves v e f q = rw (← e, f) (q ∙ sym waits)
