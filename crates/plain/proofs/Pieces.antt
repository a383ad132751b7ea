-- Laws of a node's piece, and of the search for a transistor that touches it.
use mathlib.Core.Path.{◌≡◌, refl, sym, ◌∙◌, ap, ap₂, subst}
use mathlib.Core.Logic.{⊎_elim}
use mathlib.Core.Bool.{Bool, true, false, ◌&&◌, ◌||◌}
use mathlib.Core.List.{List, [], ◌∷◌}
use Prim.Native.Nat.{ℕ, ◌+◌, ◌≤◌, ◌<◌}
use native.Mathlib.Numerals.{add-one}
use native.Mathlib.Omega.{arith}
use lib.ListN.{length, get_or, take, drop, drop_of_length-le}
use lib.Seq.{take_all, drop-cons}
use lib.Dec.{eqb}
use Rattle.lists.proofs.Cases.{bool_cases}
use Rattle.format.specs.declared.Transistor.{Transistor}
use Rattle.format.specs.Circuit.{Circuit, no_transistor}
use Rattle.format.proofs.Legal.{legal_cell}
use Rattle.rules.specs.State.{State, is_inner, node_numbers}
use Rattle.rules.specs.Label.{Labels, label_at, link_from, pieces, in_piece, of_piece, some, only}
use Rattle.rules.specs.Kept.{conducts, after_kept}
use Rattle.rules.specs.Reach.{disturbed, touched, reconsidered}
use Rattle.rules.proofs.State.{up_length}
use Rattle.rules.proofs.Arrive.{some_same}
use Rattle.rules.proofs.Label.{IsNode, at_each, inner_node_lem, link_length}
use Rattle.rules.proofs.Reach.{one_links, touched_after}
use Rattle.net.specs.Net.{at, net_circuit}
use Rattle.net.specs.Laid.{Laid}
use Rattle.net.specs.Written.{Labelled}
use Rattle.net.proofs.Laying.{nodes_length, transistors_length}
use Rattle.plain.specs.Shown.{Column, Shows, disturbed_at, in_piece_at, of_piece_at}
use Rattle.plain.specs.Leaves.{labels_after, KeptTo, Parted}
use Rattle.plain.proofs.Values.{disturbed_shown, wired}

-- the labels after all transistors are those of the pieces
after_links : (c : Circuit) (s : State) (ts : List Transistor) (ls : Labels) → labels_after c s ls ts ≡ link_from c ls (only (conducts s) ts)
unfolding labels_after link_from only
after_links c s [] ls = refl
after_links c s (t ∷ ts) ls = after_links c s ts (after_kept c s ls t) ∙ one_links c s t ts ls

pub pieces_parted : (net values labels : List ℕ) → length labels ≡ 26 → {before leaf : List ℕ} → KeptTo (net_circuit net) values (at net 1) before leaf labels → Parted net values labels
pieces_parted net values labels long all = record {
  long = long;
  label = λ s shows.
      let whole : take (at net 1) (net_circuit net).transistors ≡ (net_circuit net).transistors = take_all (at net 1) (net_circuit net).transistors (omega (arith, transistors_length net)) in
      subst (Labelled labels 0) (ap (labels_after (net_circuit net) s (node_numbers (net_circuit net))) whole ∙ after_links (net_circuit net) s (net_circuit net).transistors (node_numbers (net_circuit net))) (all.labelled s shows);
}

-- what touches node n's piece, read off two columns and labels
abbrev pub touches : Circuit → List ℕ → List ℕ → List ℕ → ℕ → Transistor → Bool
touches c labels before after n t = of_piece_at c labels n t && disturbed_at c before after t

module _ (test : Transistor → Bool) (ts : List Transistor) where
  -- what is asked of all is what is asked from place i on
  abbrev pub SomeFrom : ℕ → Type 0
  SomeFrom i = some test ts ≡ some test (drop i ts)

  some_cons : (i : ℕ) → i < length ts → some test (drop i ts) ≡ test (get_or ts i no_transistor) || some test (drop (i + 1) ts)
  unfolding some
  some_cons i h = rw (add-one, drop-cons ts i no_transistor h)

  pub some_hit : (i : ℕ) → i < length ts → SomeFrom i → test (get_or ts i no_transistor) ≡ true → some test ts ≡ true
  some_hit i h from e = from ∙ some_cons i h ∙ rw e refl

  pub some_next : (i : ℕ) → i < length ts → SomeFrom i → test (get_or ts i no_transistor) ≡ false → SomeFrom (i + 1)
  some_next i h from e = from ∙ some_cons i h ∙ rw e refl

  pub some_ends : (i : ℕ) → length ts ≤ i → SomeFrom i → some test ts ≡ false
  unfolding some
  some_ends i h from = from ∙ ap (some test) (drop_of_length-le ts {i = i} h)

module _ (net labels before after : List ℕ) (n : ℕ) (laid : Laid (net_circuit net) net) (parted : Parted net after labels) (wb : Column before) (wa : Column after) where
  abbrev c : Circuit
  c = net_circuit net

  module _ (t : State) (sa : Shows c after t) where
    abbrev ls : Labels
    ls = pieces c (only (conducts t) c.transistors)

    label_shown : (m : ℕ) → IsNode (length c.nodes) m → get_or labels m 0 ≡ label_at ls m
    label_shown m h =
        let place : 0 + m ≡ m = omega arith in
        let size : length ls ≡ length c.nodes = link_length c (length c.nodes) (only (conducts t) c.transistors) (node_numbers c) ∙ up_length (length c.nodes) 2 in
        rw place at (parted.label t sa m h.least (omega (arith, h.most)))

    in_shown : IsNode (length c.nodes) n → (m : ℕ) → m < 2 + length c.nodes → in_piece_at c labels n m ≡ in_piece c ls n m
    in_shown hn m lt =
        ⊎_elim
        (λ (e : is_inner c m ≡ true). rw e (ap₂ eqb (label_shown n hn) (label_shown m (inner_node_lem c (length c.nodes) m e lt))))
        (λ (e : is_inner c m ≡ false). rw e)
        (bool_cases (is_inner c m))

  -- an inner node is reconsidered if something touches its piece after T
  pub inner_reconsidered : (r : Bool) → n < 2 + at net 0 → is_inner (net_circuit net) n ≡ true → some (touches (net_circuit net) labels before after n) (net_circuit net).transistors ≡ r
      → (s t : State) → Shows (net_circuit net) before s → Shows (net_circuit net) after t → r ≡ reconsidered (net_circuit net) s t n
  unfolding touched
  inner_reconsidered r most e f s t sb sa =
      let node : IsNode (length c.nodes) n = inner_node_lem c (length c.nodes) n e (omega (arith, nodes_length net)) in
      sym f
      ∙ some_same (touches c labels before after n) (λ (u : Transistor). of_piece c (ls t sa) n u && disturbed c s t u) c.transistors
      (at_each _ no_transistor c.transistors
      (λ i h.
      let w = wired net laid i h in
      let u : Transistor = get_or c.transistors i no_transistor in
      ap₂ ◌&&◌
      (ap₂ ◌||◌ (in_shown t sa node u.first (omega (arith, w.first, nodes_length net))) (in_shown t sa node u.second (omega (arith, w.second, nodes_length net))))
      (sym (disturbed_shown c before after s t wb wa sb sa u w.gate w.first w.second))))
      ∙ sym (touched_after c (legal_cell laid.legal) s t n node)
      ∙ rw e refl

  -- another node is not
  pub other_reconsidered : is_inner (net_circuit net) n ≡ false → (s t : State) → false ≡ reconsidered (net_circuit net) s t n
  other_reconsidered e s t = rw e
