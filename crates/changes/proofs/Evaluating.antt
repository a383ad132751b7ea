-- The entries by which the nodes are evaluated, one node after the other in a table that grows.
use mathlib.Core.Path.{◌≡◌, sym, ◌∙◌, ap}
use mathlib.Core.Logic.{⊎_elim}
use mathlib.Core.List.{List}
use mathlib.Core.Bool.{Bool, cond}
use Prim.Native.Nat.{ℕ, ◌+◌, ◌-◌, ◌≤◌, ◌<◌}
use native.Mathlib.Omega.{arith}
use lib.ListN.{get_or}
use Rattle.lists.proofs.Cases.{lt_or_ge}
use Rattle.lists.proofs.Map.{map_same}
use Rattle.format.specs.Circuit.{Circuit, first_node_number}
use Rattle.diagram.specs.Pattern.{patterns}
use Rattle.diagram.specs.Table.{Table, never, number_at}
use Rattle.diagram.specs.Held.{held}
use Rattle.rules.specs.State.{is_inner}
use Rattle.net.specs.Roots.{change_place}
use Rattle.descent.specs.Settle.{leaf_at}
use Rattle.attempt.specs.Change.{change_from}
use Rattle.attempt.specs.Entries.{Evaluable}
use Rattle.values.proofs.Series.{Storing, storing_number, storing_longer}
use Rattle.marked.specs.Changes.{entries_with, entries_for, change_with, change_of, ValueEntries}
use Rattle.marked.proofs.Entries.{StepEntries}
use Rattle.marked.proofs.Placed.{entries_long, entries_before, entries_after, entries_such}

module _ {k : ℕ} {t : Table} {used : ℕ} {before after pending : List ℕ} (s : StepEntries k t used before after pending) {n : ℕ} (small : n < 26) where
  abbrev entries : List ℕ
  entries = entries_for before after pending n

  -- all are entries of the table
  pub entries_within : (j : ℕ) → get_or (entries_for before after pending n) j 0 < used
  entries_within =
      entries_such before after (get_or pending n 0) s.first.long s.second.long (λ (e : ℕ). e < used) s.first.within s.second.within (s.third.within n small) (omega (arith, s.first.within 0 (omega arith)))

  pub entries_evaluable : Evaluable k t used k (entries_for before after pending n)
  entries_evaluable = record {
    long = entries_long before after (get_or pending n 0) s.first.long s.second.long;
    operand = λ j h. record { within = entries_within j; from = omega arith };
    ground_before = entries_before before after (get_or pending n 0) s.first.long s.second.long 0 (omega arith) ∙ s.first.ground;
    supply_before = entries_before before after (get_or pending n 0) s.first.long s.second.long 1 (omega arith) ∙ s.first.supply;
    ground_after = entries_after before after (get_or pending n 0) s.first.long s.second.long 0 (omega arith) ∙ s.second.ground;
    supply_after = entries_after before after (get_or pending n 0) s.first.long s.second.long 1 (omega arith) ∙ s.second.supply;
    bits = bits;
  }
    where
      bits : (j p : ℕ) → j < change_place → p < patterns k → number_at k t (get_or (entries_for before after pending n) j 0) p ≤ 1
      bits j p h l =
          ⊎_elim
          (λ (a : j < 26). rw (entries_before before after (get_or pending n 0) s.first.long s.second.long j a) (s.first.bits j p a l))
          (λ (a : 26 ≤ j).
          let e : j ≡ 26 + (j - 26) = omega arith in
          rw (e, entries_after before after (get_or pending n 0) s.first.long s.second.long (j - 26) (omega arith)) (s.second.bits (j - 26) p (omega arith) l))
          (lt_or_ge j 26)

-- in the table as it has grown by the nodes before
module _ {m k : ℕ} {g : ℕ → ℕ → ℕ} {l₀ w₀ h₀ ix₀ : List ℕ} {used₀ : ℕ} {l w h ix : List ℕ} {used : ℕ} {out : List ℕ} {i : ℕ} (s : Storing m k g l₀ w₀ h₀ ix₀ used₀ l w h ix used out i) where
  abbrev t : Table
  t = held l₀ w₀ h₀ used₀

  abbrev u : Table
  u = held l w h used

  values_grown : {entries : List ℕ} → ValueEntries k t used₀ entries → ValueEntries k u used entries
  values_grown {entries} v = record {
    long = v.long;
    within = λ j a. omega (arith, v.within j a, storing_longer s);
    ground = v.ground;
    supply = v.supply;
    bits = λ j p a b. rw (storing_number s (get_or entries j 0) p (v.within j a)) (v.bits j p a b);
  }

  entries_grown : {before after pending : List ℕ} → StepEntries k t used₀ before after pending → StepEntries k u used before after pending
  entries_grown e = record {
    first = values_grown e.first;
    second = values_grown e.second;
    third = record { long = e.third.long; within = λ j a. omega (arith, e.third.within j a, storing_longer s) };
  }

  module _ {before after pending : List ℕ} (e : StepEntries k (held l₀ w₀ h₀ used₀) used₀ before after pending) (small : i < 24) {entries : List ℕ} (is : entries ≡ entries_with before after (get_or pending (i + 2) 0)) where
    -- node record i may be evaluated
    pub next_evaluable : Evaluable k (held l w h used) used k entries
    next_evaluable = rw is (entries_evaluable (entries_grown e) {n = i + 2} (omega arith))

    -- to what it has by the table as it was at first
    pub next_same : (c : Circuit) (time : ℕ) (all : Bool) (p : ℕ)
        → change_with c time all k (held l w h used) entries (i + 2) p ≡ change_of c time all k (held l₀ w₀ h₀ used₀) before after pending (first_node_number + i) p
    next_same c time all p =
        let n : first_node_number + i ≡ i + 2 = omega arith in
        let numbers : leaf_at k u (entries_for before after pending (i + 2)) p ≡ leaf_at k t (entries_for before after pending (i + 2)) p =
        map_same (λ (x : ℕ). number_at k u x p) (λ (x : ℕ). number_at k t x p) 0 (entries_for before after pending (i + 2)) (λ j _. storing_number s (get_or (entries_for before after pending (i + 2)) j 0) p (entries_within e {n = i + 2} (omega arith) j)) in
        ap (λ (es : List ℕ). change_with c time all k u es (i + 2) p) is
        ∙ ap (λ (ns : List ℕ). cond (is_inner c (i + 2)) (change_from c time all (i + 2) ns) never) numbers
        ∙ ap (λ (x : ℕ). change_of c time all k t before after pending x p) (sym n)
