-- What an attempt asks of preparing and of descending, by the entries of its node.
use mathlib.Core.Path.{◌≡◌, refl, sym, ◌∙◌, ap, subst}
use mathlib.Core.List.{List}
use mathlib.Core.Bool.{Bool, true, not}
use Prim.Native.Nat.{ℕ, ◌+◌, ◌<◌, ◌≤◌}
use native.Mathlib.Omega.{arith}
use lib.ListN.{get_or, replicate, get_or-replicate}
use lib.Dec.{eqb}
use borrow.Author.Tests.{eq-eqb}
use Rattle.diagram.specs.Table.{Table}
use Rattle.diagram.specs.Store.{store}
use Rattle.diagram.specs.Held.{held}
use Rattle.table.specs.declared.Put.{Put}
use Rattle.table.specs.Holds.{Outcome}
use Rattle.functions.specs.Open.{Open}
use Rattle.working.specs.Many.{AllUsed}
use Rattle.working.proofs.Grow.{open_few, open_sound}
use Rattle.lists.proofs.Cases.{or_right}
use Rattle.net.specs.Net.{at, net_circuit, net_group}
use Rattle.net.specs.Roots.{change_place}
use Rattle.prepare.specs.Steps.{Bits, considered}
use Rattle.prepare.specs.Roots.{Roots}
use Rattle.prepare.proofs.Reading.{laid_label}
use Rattle.descent.specs.Settle.{settled_by}
use Rattle.descent.specs.Descend.{Inner, Rooted}
use Rattle.attempt.specs.Change.{change_by}
use Rattle.attempt.specs.Entries.{Evaluable}
use Rattle.attempt.specs.Places.{RootsFor, PartOf, EntriesOf}
use Rattle.attempt.proofs.Prepared.{prepared_rooted, prepared_store}

-- an inner node's number and its group's label are small
module _ {net : List ℕ} {n : ℕ} (i : Inner net n) where
  pub node_small : n < 26
  node_small = omega (arith, i.node.most, i.cell.within.nodes)

  pub group_small : net_group net n < 26
  group_small = (laid_label net i.cell n i.node.most (ap not i.inner)).1

-- one entry for all nodes
abbrev pub alike : ℕ → List ℕ
alike e = replicate 26 e

module _ {net l w h ix : List ℕ} {k used n : ℕ} {entries before after : List ℕ} (i : Inner net n) (o : Open k l w h ix used) (e : Evaluable k (held l w h used) used k entries)
    (b : PartOf entries 0 before) (a : PartOf entries 26 after) where
  abbrev t : Table
  t = held l w h used

  few : at net 0 ≤ 24
  few = i.cell.within.nodes

  pub before_used : AllUsed (2 + at net 0) before used
  before_used j lt = subst (λ (x : ℕ). x < used) (sym (b.is j (omega (arith, few)))) (e.operand (0 + j) (omega (arith, few))).within

  pub after_used : AllUsed (2 + at net 0) after used
  after_used j lt = subst (λ (x : ℕ). x < used) (sym (a.is j (omega (arith, few)))) (e.operand (26 + j) (omega (arith, few))).within

  pub pending_used : AllUsed (2 + at net 0) (alike (get_or entries change_place 0)) used
  pending_used j lt = subst (λ (x : ℕ). x < used) (sym (get_or-replicate {A = ℕ} 26 j (get_or entries change_place 0) 0 (omega (arith, few)))) (e.operand change_place (omega arith)).within

  pub after_bits : Bits k (held l w h used) after (2 + at net 0)
  after_bits j p lt hp = rw (a.is j (omega (arith, few))) (e.bits (26 + j) p (omega (arith, few)) hp)

  node_entries : EntriesOf before after (alike (get_or entries change_place 0)) n entries
  node_entries = record {
    long = e.long;
    before_at = λ j lt. let z : 0 + j ≡ j = omega arith in sym (rw z at (b.is j lt));
    after_at = λ j lt. sym (a.is j lt);
    pending_at = sym (get_or-replicate {A = ℕ} 26 n (get_or entries change_place 0) 0 (node_small i));
  }

  own_group : considered (net_group net n) (net_group net n) ≡ true
  own_group = or_right (eqb (net_group net n) 0) (eqb (net_group net n) (net_group net n)) (eq-eqb (net_group net n) (net_group net n) refl)

  module _ {all : Bool} {wl ww wh wix : List ℕ} {wused : ℕ} {roots out : List ℕ} (r : Roots net k (held l w h used) before after (alike (get_or entries change_place 0)) all (net_group net n) wl ww wh wix wused roots) (f : RootsFor roots n out) where
    ground : get_or after 0 0 ≡ 0
    ground = a.is 0 (omega arith) ∙ e.ground_after

    supply : get_or after 1 0 ≡ 1
    supply = a.is 1 (omega arith) ∙ e.supply_after

    -- the descent may take the roots
    pub tried_rooted : Rooted net n k wl ww wh wused out k
    tried_rooted = prepared_rooted (open_few o) (open_sound o) r ground supply after_bits i f

    -- and stores the next change by the entries
    pub tried_outcome : (time : ℕ) {l2 w2 h2 ix2 : List ℕ} {q : Put}
        → Outcome (held l w h used) (store k 0 (settled_by (net_circuit net) time n k (held wl ww wh wused) out) (held l w h used)) l2 w2 h2 ix2 q
        → Outcome (held l w h used) (store k 0 (change_by (net_circuit net) time all n k (held l w h used) entries) (held l w h used)) l2 w2 h2 ix2 q
    tried_outcome time {l2} {w2} {h2} {ix2} {q} s =
        subst (λ (z : _). Outcome t z l2 w2 h2 ix2 q)
        (prepared_store (open_few o) (open_sound o) r ground supply after_bits i f (b.is 0 (omega arith) ∙ e.ground_before) (b.is 1 (omega arith) ∙ e.supply_before) own_group node_entries time t)
        s
