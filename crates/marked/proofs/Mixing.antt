-- Marked nodes by the roots of a step that was prepared from what these are worked out from, the others at rest: each has its next change.
use mathlib.Core.Path.{◌≡◌, refl, ◌∙◌, ap, ap₂, subst}
use mathlib.Core.Logic.{⊎_elim}
use mathlib.Core.List.{List, map}
use mathlib.Core.Bool.{Bool, true, false, cond}
use Prim.Native.Nat.{ℕ, ◌+◌, ◌≤◌, ◌<◌}
use native.Mathlib.Omega.{arith}
use lib.ListN.{length, get_or}
use lib.Dec.{eqb}
use borrow.Author.Tests.{eq-eqb, ne_eqb}
use Rattle.lists.proofs.Cases.{eq_or_ne}
use Rattle.format.specs.Circuit.{Circuit, first_node_number}
use Rattle.diagram.specs.Pattern.{patterns}
use Rattle.diagram.specs.Table.{Table, number_at}
use Rattle.diagram.specs.Held.{held}
use Rattle.table.specs.declared.Stop.{Stop}
use Rattle.rules.specs.State.{is_inner, node_numbers}
use Rattle.rules.specs.Run.{StoredAll, store_all}
use Rattle.net.specs.Net.{letters_place, at, net_circuit}
use Rattle.net.proofs.Laying.{nodes_length}
use Rattle.plain.specs.Ready.{Net, Noded}
use Rattle.functions.specs.Open.{Open}
use Rattle.prepare.specs.Roots.{Roots}
use Rattle.values.specs.All.{OutcomeAll}
use Rattle.values.proofs.Series.{Storing}
use Rattle.stir.specs.Rest.{rest_of}
use Rattle.stir.specs.Marks.{NodeMarks, Needed, Masked}
use Rattle.stir.proofs.Resting.{rest_same}
use Rattle.marked.specs.Changes.{entries_with, change_with, change_of, ValueEntries}
use Rattle.marked.specs.ByRoots.{settled_for}
use Rattle.marked.specs.Mixed.{mixed_with, mixed_of}
use Rattle.marked.proofs.Rooting.{settled_again}
use Rattle.marked.proofs.Entries.{StepEntries}
use Rattle.marked.proofs.Preparing.{nodes_stored, same_cond, step_settles}
use Rattle.marked.proofs.Stirring.{rest_change}
use Rattle.marked.proofs.Masking.{needed_change}

cond_below : (b : Bool) {x y m : ℕ} → x < m → y < m → cond b x y < m
cond_below b {x} {y} {m} = by b
  where
    by : (b : Bool) → x < m → y < m → cond b x y < m
    by true f g = f
    by false f g = g

cond_zero : (b : Bool) {v : ℕ} → v ≡ 0 → cond b 0 v ≡ 0
cond_zero true e = refl
cond_zero false e = e

-- masked values are values
masked_values : {k : ℕ} {t : Table} {used : ℕ} {entries need masked : List ℕ} → ValueEntries k t used entries → (get_or need 1 0 ≡ 0 → ⊥) → Masked need entries masked → ValueEntries k t used masked
masked_values {k} {t} {used} {entries} {need} {masked} e supply s = record {
  long = s.long;
  within = λ j a. rw (s.is j a) (cond_below (eqb (get_or need j 0) 0) (omega (arith, e.within j a)) (e.within j a));
  ground = s.is 0 (omega arith) ∙ cond_zero (eqb (get_or need 0 0) 0) e.ground;
  supply = s.is 1 (omega arith) ∙ ap (λ (b : Bool). cond b 0 (get_or entries 1 0)) (ne_eqb (get_or need 1 0) 0 supply) ∙ e.supply;
  bits = λ j p a q. rw (s.is j a) (either (eqb (get_or need j 0) 0) 0 (get_or entries j 0) p (subst (λ (x : ℕ). number_at k t x p ≤ 1) e.ground (e.bits 0 p (omega arith) q)) (e.bits j p a q));
}
  where
    either : (b : Bool) (x y p : ℕ) → number_at k t x p ≤ 1 → number_at k t y p ≤ 1 → number_at k t (cond b x y) p ≤ 1
    either true x y p f g = f
    either false x y p f g = g

module _ {net l w h ix : List ℕ} {used : ℕ} (cell : Net net) (o : Open (at net letters_place) l w h ix used) {before after pending : List ℕ}
    (e : StepEntries (at net letters_place) (held l w h used) used before after pending) {marks masked need was is : List ℕ}
    (s : Masked marks pending masked) (d : Needed net marks need) (x : Masked need before was) (y : Masked need after is) where
  abbrev k : ℕ
  k = at net letters_place

  abbrev t : Table
  t = held l w h used

  abbrev c : Circuit
  c = net_circuit net

  -- what a step is prepared from
  pub masked_entries : StepEntries (at net letters_place) (held l w h used) used was is masked
  masked_entries = record {
    first = masked_values e.first d.supply x;
    second = masked_values e.second d.supply y;
    third = record {
      long = s.long;
      within = λ j a. rw (s.is j a) (cond_below (eqb (get_or marks j 0) 0) (omega (arith, e.third.within j a)) (e.third.within j a));
    };
  }

  -- a marked node has its own pending change
  masked_same : (n : ℕ) → n < 26 → (get_or marks n 0 ≡ 0 → ⊥) → get_or masked n 0 ≡ get_or pending n 0
  masked_same n small ne = s.is n small ∙ ap (λ (b : Bool). cond b 0 (get_or pending n 0)) (ne_eqb (get_or marks n 0) 0 ne)

  module _ {all : Bool} (m : NodeMarks net before after all marks) {wl ww wh wix : List ℕ} {wused : ℕ} {roots : List ℕ}
      (r : Roots net (at net letters_place) (held l w h used) was is masked all 0 wl ww wh wix wused roots) (time : ℕ) where
    abbrev u : Table
    u = held wl ww wh wused

    mixed_change : (n p : ℕ) → Noded net n → p < patterns k → mixed_of c time k t u roots marks pending n p ≡ change_of c time all k t before after pending n p
    mixed_change n p node less =
        ⊎_elim
        (λ (q : get_or marks n 0 ≡ 0).
        ap (λ (b : Bool). cond b (rest_of c time k t pending n p) (settled_for c time k u roots n p)) (eq-eqb (get_or marks n 0) 0 q)
        ∙ rest_change cell e time n p node all (λ inner. m.rest n node inner q))
        (λ (q : get_or marks n 0 ≡ 0 → ⊥).
        ap (λ (b : Bool). cond b (rest_of c time k t pending n p) (settled_for c time k u roots n p)) (ne_eqb (get_or marks n 0) 0 q)
        ∙ step_settles cell o masked_entries r time n p node less
        ∙ ap (λ (v : ℕ). change_with c time all k t (entries_with was is v) n p) (masked_same n (omega (arith, node.most, cell.within.nodes)) q)
        ∙ same_cond (is_inner c n) _ _ _ (λ inner. needed_change cell m d n node inner q x y e.first.long e.second.long k t (get_or pending n 0) time p))
        (eq_or_ne (get_or marks n 0) 0)

    -- what is stored so is what is stored by the entries
    pub mixed_stored : {l1 w1 h1 ix1 : List ℕ} {stop : Stop} {most : ℕ} {out : List ℕ}
        → OutcomeAll (held l w h used) (store_all (at net letters_place) (map (mixed_of (net_circuit net) time (at net letters_place) (held l w h used) (held wl ww wh wused) roots marks pending) (node_numbers (net_circuit net))) (held l w h used)) l1 w1 h1 ix1 stop most out
        → OutcomeAll (held l w h used) (store_all (at net letters_place) (map (change_of (net_circuit net) time all (at net letters_place) (held l w h used) before after pending) (node_numbers (net_circuit net))) (held l w h used)) l1 w1 h1 ix1 stop most out
    mixed_stored {l1} {w1} {h1} {ix1} {stop} {most} {out} =
        subst (λ (v : StoredAll). OutcomeAll t v l1 w1 h1 ix1 stop most out)
        (nodes_stored k (mixed_of c time k t u roots marks pending) (change_of c time all k t before after pending) (length c.nodes) t
        (λ n p least less q. mixed_change n p (record { least = least; most = omega (arith, nodes_length net) }) q))

-- node record i, in the table as it has grown by the nodes before
pub mixed_same : {m k : ℕ} {g : ℕ → ℕ → ℕ} {l₀ w₀ h₀ ix₀ : List ℕ} {used₀ : ℕ} {l w h ix : List ℕ} {used : ℕ} {out : List ℕ} {i : ℕ} → Storing m k g l₀ w₀ h₀ ix₀ used₀ l w h ix used out i
    → (c : Circuit) (time : ℕ) (u : Table) (roots marks pending : List ℕ) → get_or pending (i + 2) 0 < used₀ → (p : ℕ)
    → mixed_with c time k (held l w h used) u roots (get_or marks (i + 2) 0) (get_or pending (i + 2) 0) (i + 2) p
    ≡ mixed_of c time k (held l₀ w₀ h₀ used₀) u roots marks pending (first_node_number + i) p
mixed_same {k = k} {l₀ = l₀} {w₀} {h₀} {used₀ = used₀} {i = i} s c time u roots marks pending small p =
    let n : i + 2 ≡ first_node_number + i = omega arith in
    ap₂ (λ (a b : ℕ). cond (eqb (get_or marks (i + 2) 0) 0) a b) (rest_same s c time pending small p) (settled_again c time k u roots i p)
    ∙ ap (λ (x : ℕ). cond (eqb (get_or marks x 0) 0) (rest_of c time k (held l₀ w₀ h₀ used₀) pending (first_node_number + i) p) (settled_for c time k u roots (first_node_number + i) p)) n
