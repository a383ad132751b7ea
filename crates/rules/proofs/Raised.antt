-- The cell with one capacitance raised (document 02, wish 11): it is legal, wired as the cell is, and differs from it at that node alone.
use mathlib.Core.Path.{◌≡◌, refl, sym, ◌∙◌, ap}
use mathlib.Core.Logic.{⊎_elim}
use mathlib.Core.Bool.{Bool, true, false, ◌&&◌, cond}
use Prim.Native.Nat.{ℕ, ◌+◌, ◌-◌, ◌*◌, ◌≤◌}
use native.Mathlib.Omega.{arith}
use lib.ListN.{length, get_or, length-set}
use lib.Seq.{get_or-set_same, get_or-set_other}
use lib.Dec.{leb, ltb, eqb}
use borrow.Author.Tests.{eq-eqb, le-leb, lt-ltb, ltb-false, not-true}
use Rattle.lists.proofs.Cases.{eq_or_ne, and_both, true_false}
use Rattle.refusal.specs.Answer.{answered}
use Rattle.units.specs.declared.Femtofarads.{Femtofarads}
use Rattle.units.proofs.Growth.{Grown}
use Rattle.format.specs.declared.Node.{Node}
use Rattle.format.specs.declared.Entry.{Entry}
use Rattle.format.specs.Circuit.{Circuit, no_node, no_entry, node_record}
use Rattle.format.specs.Source.{source_legal}
use Rattle.format.specs.Legal.{most_capacitance, within, node_legal, is_input, entry_legal, check_circuit}
use Rattle.format.proofs.Every.{every_at, every_of, every_same}
use Rattle.format.proofs.Check.{Checked, circuit_checked, checked_answered}
use Rattle.format.proofs.Legal.{LegalNode, fields_apart, fields_joined, legal_node}
use Rattle.rules.specs.State.{is_driven}
use Rattle.rules.specs.Sensitivity.{heavier, raised, Loadable}
use Rattle.rules.proofs.Label.{IsNode, inner_node_lem, or_neither}
use Rattle.rules.proofs.Wiring.{Wired}

-- a cell that is wired as another, with up to some femtofarads more at node m
pub record Heavier (c d : Circuit) (m more : ℕ) : Type 0 where
  pub wired : Wired c d
  pub grown : (n : ℕ) → is_driven c n ≡ false → Grown (more * cond (eqb n m) 1 0) (node_record c n).capacitance (node_record d n).capacitance

module _ (c : Circuit) (m : ℕ) (more : Femtofarads) (l : Loadable c m more) where
  place : IsNode (length c.nodes) m
  place = inner_node_lem c (length c.nodes) m l.inner l.node

  -- as many node records
  count_raised : length (raised c m more).nodes ≡ length c.nodes
  unfolding raised
  count_raised = length-set c.nodes (m - 2) (heavier (node_record c m) more)

  -- the record at m's place is heavier
  raised_there : get_or (raised c m more).nodes (m - 2) no_node ≡ heavier (node_record c m) more
  unfolding raised
  raised_there = get_or-set_same c.nodes (m - 2) (heavier (node_record c m) more) no_node (omega (arith, place.least, place.most))

  -- every other is the same
  raised_elsewhere : (i : ℕ) → (i ≡ m - 2 → ⊥) → get_or (raised c m more).nodes i no_node ≡ get_or c.nodes i no_node
  unfolding raised
  raised_elsewhere i ne = get_or-set_other c.nodes (m - 2) i (heavier (node_record c m) more) no_node ne

  -- what holds of a record, and of the heavier one, holds after the raise
  raised_by : (P : Node → Type 0) (i : ℕ) → P (get_or c.nodes i no_node) → (i ≡ m - 2 → P (heavier (node_record c m) more)) → P (get_or (raised c m more).nodes i no_node)
  raised_by P i p q =
      ⊎_elim
      (λ (e : i ≡ m - 2). rw (e, raised_there) (q e))
      (λ (ne : i ≡ m - 2 → ⊥). rw (raised_elsewhere i ne) p)
      (eq_or_ne i (m - 2))

  -- no role changes
  role_raised : (i : ℕ) → (get_or c.nodes i no_node).role ≡ (get_or (raised c m more).nodes i no_node).role
  role_raised i = raised_by (λ (n : Node). (get_or c.nodes i no_node).role ≡ n.role) i refl (λ e. ap (λ (j : ℕ). (get_or c.nodes j no_node).role) e)

  -- the raised cell is wired as the cell is
  pub raised_wired : Wired c (raised c m more)
  unfolding raised
  raised_wired = record {
    count_same = sym count_raised;
    input_same = λ n. ap (λ (r : ℕ). leb 2 n && eqb r 1) (role_raised (n - 2));
    transistors_same = refl;
  }

  -- and has more at node m alone
  pub raised_heavier : Heavier c (raised c m more) m more.0
  raised_heavier = record {
    wired = raised_wired;
    grown = λ n e.
        let i : 2 ≤ n = omega (arith, driven_least n e) in
        raised_by (λ (r : Node). Grown (more.0 * cond (eqb n m) 1 0) (node_record c n).capacitance r.capacitance) (n - 2)
        (record { least = omega arith; most = omega arith })
        (λ q. let same : n ≡ m = omega (arith, place.least) in rw (same, eq-eqb m m refl) (record { least = omega arith; most = omega arith }));
  }
    where
      driven_least : (n : ℕ) → is_driven c n ≡ false → 2 ≤ n
      driven_least n e = ltb-false n 2 (or_neither (ltb n 2) (is_input c n) e).0

  module _ (legal : check_circuit c ≡ answered c) where
    own : LegalNode c.letters (node_record c m)
    own = legal_node legal (m - 2) (omega (arith, place.least, place.most))

    role_inner : (node_record c m).role ≡ 0
    role_inner =
        ⊎_elim
        (λ (e : (node_record c m).role ≡ 0). e)
        (λ (e : (node_record c m).role ≡ 1).
        true_false (is_input c m)
        (and_both (leb 2 m) (eqb (node_record c m).role 1) (le-leb 2 m place.least) (eq-eqb _ 1 e))
        (or_neither (ltb m 2) (is_input c m) (not-true (is_driven c m) l.inner)).1)
        own.role_is

    -- the heavier record is legal: it stays within its limit
    heavier_legal : node_legal c.letters (heavier (node_record c m) more) ≡ true
    unfolding node_legal
    heavier_legal =
        let f : ℕ = (node_record c m).capacitance.0 + more.0 in
        let in-limits : within 1 most_capacitance f ≡ true = and_both (leb 1 f) (leb f most_capacitance) (le-leb 1 f (omega (arith, own.inner_least role_inner))) (le-leb f most_capacitance l.limit) in
        and_both _ _ (lt-ltb _ (2 + 2 * c.letters) own.source) (rw (eq-eqb (node_record c m).role 0 role_inner) in-limits)

    entry_raised : (e : Entry) → entry_legal c e ≡ entry_legal (raised c m more) e
    unfolding entry_legal raised
    entry_raised e = ap (λ (b : Bool). b && source_legal c.letters e.source && within 1 c.horizon.0 e.time.0) (raised_wired.input_same e.input)

    checked_raised : Checked c → Checked (raised c m more)
    unfolding raised
    checked_raised k =
        let f = fields_apart c k.fields in
        let test : Node → Bool = node_legal c.letters in
        record {
          limits = rw count_raised k.limits;
          fields = fields_joined (raised c m more) (record {
            nodes = every_of test (raised c m more).nodes no_node (λ i h.
                raised_by (λ (n : Node). test n ≡ true) i (every_at test c.nodes f.nodes no_node i (omega (arith, count_raised))) (λ e. heavier_legal));
            transistors = rw count_raised f.transistors;
            entries = sym (every_same (entry_legal c) (entry_legal (raised c m more)) no_entry c.schedule (λ i h. entry_raised _)) ∙ f.entries;
          });
          order = k.order;
        }

    -- the raised cell is legal
    pub raised_legal : check_circuit (raised c m more) ≡ answered (raised c m more)
    raised_legal = checked_answered (checked_raised (circuit_checked legal))
