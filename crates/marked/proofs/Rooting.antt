-- The roots of a descent for a node, among the roots of a step.
use mathlib.Core.Path.{◌≡◌, sym, ◌∙◌, ap, subst}
use mathlib.Core.Logic.{⊎_elim}
use mathlib.Core.List.{List, [], ◌∷◌}
use mathlib.Core.Bool.{true}
use Prim.Native.Nat.{ℕ, ◌+◌, ◌≤◌, ◌<◌}
use native.Mathlib.Omega.{arith}
use lib.ListN.{length, get_or, length-append, get_or-append}
use lib.Seq.{get_or-append-add, ext_get_or}
use Rattle.lists.proofs.Cases.{lt_or_ge}
use Rattle.format.specs.Circuit.{Circuit, first_node_number}
use Rattle.cell.specs.Value.{firsts}
use Rattle.cell.proofs.Firsts.{length_firsts, firsts_at}
use Rattle.diagram.specs.Table.{Table}
use Rattle.diagram.specs.Store.{store}
use Rattle.diagram.specs.Held.{held}
use Rattle.rules.specs.State.{is_inner}
use Rattle.net.specs.Net.{letters_place, at, net_circuit}
use Rattle.net.specs.Roots.{pending_place}
use Rattle.plain.specs.Ready.{Noded}
use Rattle.table.specs.declared.Put.{Put}
use Rattle.table.specs.Holds.{Outcome}
use Rattle.attempt.specs.Places.{RootsFor}
use Rattle.descent.specs.Settle.{settled_by}
use Rattle.descent.specs.Descend.{Rooted}
use Rattle.stir.proofs.Single.{inner_put}
use Rattle.marked.specs.ByRoots.{roots_for, settled_for, StepRoots}

-- they stand in their places
pub roots_for_lem : (roots : List ℕ) (n : ℕ) → RootsFor roots n (roots_for roots n)
roots_for_lem roots n =
    let first : List ℕ = firsts pending_place 0 roots in
    let last : List ℕ = get_or roots (pending_place + n) 0 ∷ [] in
    let long : length first ≡ pending_place = length_firsts 0 pending_place roots in
    let e : pending_place ≡ length first + 0 = omega arith in
    record {
      long = length-append first last ∙ omega arith;
      first = λ j l. get_or-append first last 0 j (omega arith) ∙ firsts_at 0 pending_place roots j l;
      pending = ap (λ (m : ℕ). get_or (roots_for roots n) m 0) e ∙ get_or-append-add first last 0 0;
    }

-- and no others do
roots_same : {roots : List ℕ} {n : ℕ} {a b : List ℕ} → RootsFor roots n a → RootsFor roots n b → a ≡ b
roots_same {roots} {n} {a} {b} x y =
    ext_get_or 0 a b (x.long ∙ sym y.long) λ j h.
    ⊎_elim
    (λ (l : j < pending_place). x.first j l ∙ sym (y.first j l))
    (λ (l : pending_place ≤ j).
    let q : j ≡ pending_place = omega (arith, x.long) in
    rw q (x.pending ∙ sym y.pending))
    (lt_or_ge j pending_place)

module _ {net wl ww wh : List ℕ} {wused : ℕ} {roots : List ℕ} (s : StepRoots net wl ww wh wused roots) {n : ℕ} (node : Noded net n) (inner : is_inner (net_circuit net) n ≡ true)
    {own : List ℕ} (o : RootsFor roots n own) where
  same : own ≡ roots_for roots n
  same = roots_same o (roots_for_lem roots n)

  -- they serve
  pub own_rooted : Rooted net n (at net letters_place) wl ww wh wused own (at net letters_place)
  own_rooted = subst (λ (r : List ℕ). Rooted net n (at net letters_place) wl ww wh wused r (at net letters_place)) (sym same) (s.rooted n node inner)

  -- and settle the node
  pub own_settled : (time : ℕ) {t : Table} {l w h ix : List ℕ} {r : Put}
      → Outcome t (store (at net letters_place) 0 (settled_by (net_circuit net) time n (at net letters_place) (held wl ww wh wused) own) t) l w h ix r
      → Outcome t (store (at net letters_place) 0 (settled_for (net_circuit net) time (at net letters_place) (held wl ww wh wused) roots n) t) l w h ix r
  own_settled time {t} {l} {w} {h} {ix} {r} stored =
      inner_put (at net letters_place) (is_inner (net_circuit net) n) (settled_by (net_circuit net) time n (at net letters_place) (held wl ww wh wused) (roots_for roots n)) inner
      (subst (λ (rs : List ℕ). Outcome t (store (at net letters_place) 0 (settled_by (net_circuit net) time n (at net letters_place) (held wl ww wh wused) rs) t) l w h ix r) same stored)

-- the code counts from record 0, the definition from node 2
pub settled_again : (c : Circuit) (time k : ℕ) (w : Table) (roots : List ℕ) (i p : ℕ) → settled_for c time k w roots (i + 2) p ≡ settled_for c time k w roots (first_node_number + i) p
settled_again c time k w roots i p =
    let e : i + 2 ≡ first_node_number + i = omega arith in
    ap (λ (n : ℕ). settled_for c time k w roots n p) e
