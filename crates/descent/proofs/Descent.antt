-- One step of the descent: the roots that matter, and what is stored by them.
use mathlib.Core.Path.{◌≡◌, sym, ◌∙◌}
use mathlib.Core.List.{List}
use mathlib.Core.Bool.{true}
use Prim.Native.Nat.{ℕ, ◌-◌, ◌≤◌}
use lib.ListN.{get_or}
use Rattle.diagram.specs.Table.{Table, terminal_letter, terminal}
use Rattle.diagram.specs.Store.{add, store}
use Rattle.diagram.specs.Held.{held}
use Rattle.net.specs.Net.{net_circuit}
use Rattle.net.specs.Roots.{pending_place}
use Rattle.table.specs.declared.Put.{Put}
use Rattle.table.specs.Stop.{stopped}
use Rattle.table.specs.Holds.{Outcome}
use Rattle.functions.specs.Open.{Open}
use Rattle.functions.proofs.Carry.{legible_sound}
use Rattle.functions.proofs.Halving.{Halves, low_full}
use Rattle.descent.specs.Settle.{pending_by, settled_at, settled_by}
use Rattle.descent.specs.Piece.{Narrowed}
use Rattle.descent.specs.Descend.{Least, HalfOf, low_of, LeafOf, Rooted, NoSeed}
use Rattle.descent.proofs.Pending.{quiet_stored}
use Rattle.descent.proofs.Going.{half_of, zero_letter, narrow_ready, narrow_store, ready_leaf, leaf_store, going_left, going_halves, low_ready, high_ready}

-- none of the roots that matter is a seed's
pub narrow_quiet : {net : List ℕ} {n k : ℕ} {l w h : List ℕ} {used : ℕ} {roots : List ℕ} {left : ℕ} (r : Rooted net n k l w h used roots left) {kept : List ℕ}
    → Narrowed (net_circuit net) n roots kept → NoSeed kept → (time : ℕ) {u : Table} {l1 w1 h1 ix1 : List ℕ} {p : Put}
    → Outcome u (store k 0 (pending_by time k (held l w h used) (get_or kept pending_place 0)) u) l1 w1 h1 ix1 p
    → Outcome u (store k 0 (settled_by (net_circuit net) time n k (held l w h used) roots) u) l1 w1 h1 ix1 p
narrow_quiet r s none time {u} done = rw (← narrow_store r s time u) (quiet_stored (narrow_ready r s) none time done)

module _ {net : List ℕ} {n k : ℕ} {l w h : List ℕ} {used : ℕ} {roots : List ℕ} {left : ℕ} (r : Rooted net n k l w h used roots left)
    {kept : List ℕ} (s : Narrowed (net_circuit net) n roots kept) {m : ℕ} (least : Least l kept m) where
  -- the roots that matter are terminals
  pub leaf_ready : m ≡ terminal_letter → LeafOf net n w kept
  leaf_ready leaf = ready_leaf (narrow_ready r s) least leaf

  pub leaf_stored : m ≡ terminal_letter → (time : ℕ) {u : Table} {l1 w1 h1 ix1 : List ℕ} {p : Put}
      → Outcome u (add (terminal (settled_at (net_circuit net) time n (low_of w kept))) u) l1 w1 h1 ix1 p
      → Outcome u (store k 0 (settled_by (net_circuit net) time n k (held l w h used) roots) u) l1 w1 h1 ix1 p
  leaf_stored leaf time {u} o = rw (← narrow_store r s time u, leaf_store (narrow_ready r s) least leaf time u) o

  module _ (node : m ≡ terminal_letter → ⊥) where
    pub letter_left : 1 ≤ left
    letter_left = going_left (narrow_ready r s) least node

    -- entry 0 has another
    pub letter_other : get_or l 0 0 ≡ m → ⊥
    letter_other q = node (sym q ∙ zero_letter r.working)

    module _ {a : List ℕ} (low : HalfOf l w kept m a) where
      pub lows_ready : Rooted net n k l w h used a (left - 1)
      lows_ready = low_ready (narrow_ready r s) least node low

      -- the halves make the function in an open table
      pub halves_stored : {b : List ℕ} → HalfOf l h kept m b → (time : ℕ) {l1 w1 h1 ix1 : List ℕ} {used1 : ℕ} → Open k l1 w1 h1 ix1 used1
          → Halves k (held l1 w1 h1 used1) m (settled_by (net_circuit net) time n k (held l w h used) roots) (settled_by (net_circuit net) time n k (held l w h used) a)
          (λ _. settled_by (net_circuit net) time n k (held l w h used) b)
      halves_stored high time {l1} {w1} {h1} {ix1} {used1} o =
          let u : Table = held l1 w1 h1 used1 in
          let g = going_halves (narrow_ready r s) least node low high time u (legible_sound o.legible) in
          record { halved = sym (narrow_store r s time u) ∙ g.halved; stable = g.stable }

      -- there is no room for the low one
      pub low_stopped : (time : ℕ) {l1 w1 h1 ix1 : List ℕ} {used1 : ℕ} → Open k l1 w1 h1 ix1 used1 → {l2 w2 h2 ix2 : List ℕ} {p : Put}
          → Outcome (held l1 w1 h1 used1) (store k 0 (settled_by (net_circuit net) time n k (held l w h used) a) (held l1 w1 h1 used1)) l2 w2 h2 ix2 p → stopped p.stop ≡ true
          → Outcome (held l1 w1 h1 used1) (store k 0 (settled_by (net_circuit net) time n k (held l w h used) roots) (held l1 w1 h1 used1)) l2 w2 h2 ix2 p
      low_stopped time o done full = low_full o (halves_stored (half_of l h kept m s.long) time o) done full

    pub highs_ready : {b : List ℕ} → HalfOf l h kept m b → Rooted net n k l w h used b (left - 1)
    highs_ready high = high_ready (narrow_ready r s) least node high
