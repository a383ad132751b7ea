-- The roots of a prepared step: they serve every inner node, and settle its next change.
use mathlib.Core.Path.{◌≡◌, refl, sym, ◌∙◌, ap}
use mathlib.Core.List.{List, map}
use mathlib.Core.Bool.{Bool, true, false, cond}
use Prim.Native.Nat.{ℕ, ◌+◌, ◌≤◌, ◌<◌}
use native.Mathlib.Omega.{arith}
use lib.ListN.{length, get_or, length-map}
use borrow.Author.Tests.{not-true}
use Rattle.format.specs.Circuit.{first_node_number}
use Rattle.lists.proofs.Map.{map_at}
use Rattle.diagram.specs.Pattern.{patterns}
use Rattle.diagram.specs.Table.{Table}
use Rattle.diagram.specs.Held.{held}
use Rattle.rules.specs.State.{up_from, is_inner}
use Rattle.rules.specs.Run.{store_all}
use Rattle.rules.proofs.State.{up_length, up_at}
use Rattle.rules.proofs.StoreAll.{no_function, store_all_ext}
use Rattle.net.specs.Net.{nodes_place, letters_place, at, net_circuit}
use Rattle.plain.specs.Ready.{Net, Noded}
use Rattle.functions.specs.Open.{Open}
use Rattle.functions.proofs.Carry.{legible_sound}
use Rattle.working.specs.Many.{AllUsed}
use Rattle.prepare.specs.Steps.{Bits}
use Rattle.prepare.specs.Roots.{Roots}
use Rattle.descent.specs.Descend.{Inner}
use Rattle.attempt.specs.Places.{EntriesOf}
use Rattle.attempt.proofs.Prepared.{prepared_rooted, prepared_settles}
use Rattle.marked.specs.Changes.{entries_for, change_of}
use Rattle.marked.specs.ByRoots.{settled_for, StepRoots}
use Rattle.marked.proofs.Placed.{entries_long, entries_before, entries_after, entries_change}
use Rattle.marked.proofs.Rooting.{roots_for_lem}
use Rattle.marked.proofs.Entries.{StepEntries}

-- functions that agree at every node record are stored alike
pub nodes_stored : (k : ℕ) (f g : ℕ → ℕ → ℕ) (m : ℕ) (t : Table) → ((n p : ℕ) → first_node_number ≤ n → n < first_node_number + m → p < patterns k → f n p ≡ g n p)
    → store_all k (map f (up_from m first_node_number)) t ≡ store_all k (map g (up_from m first_node_number)) t
nodes_stored k f g m t same =
    let ns : List ℕ = up_from m first_node_number in
    store_all_ext k (map f ns) (map g ns) t (length-map ns f ∙ sym (length-map ns g))
    (λ i l p h.
    let j : i < length ns = omega (arith, length-map ns f) in
    let e : get_or ns i 0 ≡ first_node_number + i = up_at m first_node_number i 0 (omega (arith, up_length m first_node_number)) in
    ap (λ (u : ℕ → ℕ). u p) (map_at f ns 0 no_function i j)
    ∙ same (get_or ns i 0) p (omega arith) (omega (arith, up_length m first_node_number)) h
    ∙ ap (λ (u : ℕ → ℕ). u p) (sym (map_at g ns 0 no_function i j)))

pub same_cond : (b : Bool) (x y z : ℕ) → (b ≡ true → x ≡ y) → cond b x z ≡ cond b y z
same_cond true x y z e = e refl
same_cond false x y z e = refl

module _ {net l w h ix : List ℕ} {used : ℕ} (cell : Net net) (o : Open (at net letters_place) l w h ix used) {before after pending : List ℕ}
    (e : StepEntries (at net letters_place) (held l w h used) used before after pending) where
  abbrev k : ℕ
  k = at net letters_place

  abbrev t : Table
  t = held l w h used

  few_nodes : at net nodes_place ≤ 24
  few_nodes = cell.within.nodes

  -- what a step is prepared from
  pub before_used : AllUsed (first_node_number + at net nodes_place) before used
  before_used m less = e.first.within m (omega (arith, few_nodes))

  pub after_used : AllUsed (first_node_number + at net nodes_place) after used
  after_used m less = e.second.within m (omega (arith, few_nodes))

  pub pending_used : AllUsed (first_node_number + at net nodes_place) pending used
  pending_used m less = e.third.within m (omega (arith, few_nodes))

  pub after_bits : Bits (at net letters_place) (held l w h used) after (first_node_number + at net nodes_place)
  after_bits n p less q = e.second.bits n p (omega (arith, few_nodes)) q

  entries_of : (n : ℕ) → EntriesOf before after pending n (entries_for before after pending n)
  entries_of n = record {
    long = entries_long before after (get_or pending n 0) e.first.long e.second.long;
    before_at = entries_before before after (get_or pending n 0) e.first.long e.second.long;
    after_at = entries_after before after (get_or pending n 0) e.first.long e.second.long;
    pending_at = entries_change before after (get_or pending n 0) e.first.long e.second.long;
  }

  module _ {all : Bool} {wl ww wh wix : List ℕ} {wused : ℕ} {roots : List ℕ}
      (r : Roots net (at net letters_place) (held l w h used) before after pending all 0 wl ww wh wix wused roots) where
    inner_node_lem : (n : ℕ) → Noded net n → is_inner (net_circuit net) n ≡ true → Inner net n
    inner_node_lem n node inner = record { cell = cell; node = node; inner = not-true _ inner }

    pub step_roots : StepRoots net wl ww wh wused roots
    step_roots = record {
      cell = cell;
      rooted = λ n node inner.
          prepared_rooted o.legible.few (legible_sound o.legible) r e.second.ground e.second.supply after_bits (inner_node_lem n node inner) (roots_for_lem roots n);
    }

    pub step_settles : (time n p : ℕ) → Noded net n → p < patterns (at net letters_place)
        → settled_for (net_circuit net) time (at net letters_place) (held wl ww wh wused) roots n p ≡ change_of (net_circuit net) time all (at net letters_place) (held l w h used) before after pending n p
    step_settles time n p node less =
        same_cond (is_inner (net_circuit net) n) _ _ _
        (λ inner.
        prepared_settles o.legible.few (legible_sound o.legible) r e.second.ground e.second.supply after_bits (inner_node_lem n node inner) (roots_for_lem roots n)
        e.first.ground e.first.supply refl (entries_of n) time p less)
