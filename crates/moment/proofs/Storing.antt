-- The next changes by entries of a table, node by node: those that a step and a start leave.
use mathlib.Core.Path.{◌≡◌, refl, sym, ◌∙◌, ap}
use mathlib.Core.Logic.{◌⊎◌, inl, inr, ⊎_elim}
use mathlib.Core.Bool.{Bool, true, false, not, cond}
use mathlib.Core.List.{List, map}
use Prim.Native.Nat.{ℕ, ◌+◌, ◌-◌, ◌≤◌, ◌<◌}
use native.Mathlib.Omega.{arith}
use lib.ListN.{length, get_or, length-map}
use borrow.Author.Tests.{le-ltb}
use Rattle.lists.proofs.Cases.{bool_cases, lt_or_ge}
use Rattle.format.specs.Circuit.{Circuit}
use Rattle.format.specs.Legal.{is_input}
use Rattle.lists.proofs.Map.{map_at}
use Rattle.diagram.specs.Pattern.{most_letters, patterns}
use Rattle.diagram.specs.Table.{Table, never, number_at}
use Rattle.diagram.proofs.Sound.{Sound}
use Rattle.diagram.proofs.Number.{number_zeroth, number_first}
use Rattle.rules.specs.State.{State, value_at, change_at, is_driven, is_inner, node_numbers}
use Rattle.rules.specs.Arrive.{flips, arrived}
use Rattle.rules.specs.Kept.{kept}
use Rattle.rules.specs.Step.{initial}
use Rattle.rules.specs.Run.{store_all}
use Rattle.rules.proofs.State.{Numbered, Shaped, Pending, up_length, up_at, at_place, node_cases}
use Rattle.rules.proofs.Arrive.{arrived_change_lem}
use Rattle.rules.proofs.Step.{input_not_reconsidered, initial_change}
use Rattle.rules.proofs.StoreAll.{no_function, store_all_ext}
use Rattle.plain.specs.Exceeded.{change_or_exceeded}
use Rattle.plain.specs.Settle.{started_or_exceeded, stepped_or_exceeded}
use Rattle.plain.proofs.Exceeding.{started_exceeded_change, stepped_exceeded_change}
use Rattle.descent.specs.Settle.{leaf_at}
use Rattle.stir.specs.Pending.{PendingEntries}
use Rattle.marked.specs.Changes.{entries_for, change_of, ValueEntries}
use Rattle.moment.specs.ByNode.{ByNode}
use Rattle.moment.proofs.Alike.{Shown, shown_step, shown_start}
use Rattle.moment.proofs.Places.{number_before, number_after_lem, number_pending}

-- functions that agree at each node are stored alike
pub stored_alike : (c : Circuit) (letters : ℕ) (f g : ℕ → ℕ → ℕ) (t : Table) → ((n : ℕ) → Numbered c n → (p : ℕ) → p < patterns letters → f n p ≡ g n p)
    → store_all letters (map f (node_numbers c)) t ≡ store_all letters (map g (node_numbers c)) t
stored_alike c letters f g t h =
    let ns : List ℕ = node_numbers c in
    store_all_ext letters (map f ns) (map g ns) t (length-map ns f ∙ sym (length-map ns g))
    (λ i l p k.
    let j : i < length ns = omega (arith, length-map ns f) in
    let m : i < length c.nodes = omega (arith, up_length (length c.nodes) 2) in
    let e : get_or ns i 0 ≡ 2 + i = up_at (length c.nodes) 2 i 0 m in
    ap (λ (u : ℕ → ℕ). u p) (map_at f ns 0 no_function i j)
    ∙ ap (λ (n : ℕ). f n p) e
    ∙ h (2 + i) (at_place c i m) p k
    ∙ ap (λ (n : ℕ). g n p) (sym e)
    ∙ ap (λ (u : ℕ → ℕ). u p) (sym (map_at g ns 0 no_function i j)))

-- the entry of each node has the numbers of a function of pattern and node
pub record Numbering (c : Circuit) (u : Table) (f : ℕ → ℕ → ℕ) (entries : List ℕ) : Type 0 where
  pub number : (m : ℕ) → Numbered c m → (p : ℕ) → p < patterns c.letters → number_at c.letters u (get_or entries m 0) p ≡ f p m

module _ (c : Circuit) {ground supply : ℕ} {entries out : List ℕ} (b : ByNode ground supply entries (length c.nodes) out) where
  -- a node's entry stands at its number
  pub placed_at : (m : ℕ) → Numbered c m → get_or out m 0 ≡ get_or entries (m - 2) 0
  placed_at m h =
      let e : m ≡ 2 + (m - 2) = omega (arith, h.least) in
      ap (λ (j : ℕ). get_or out j 0) e ∙ b.node_is (m - 2) (omega (arith, h.least, h.most))

  -- so entries by node record are entries by node number
  pub placed_numbering : (u : Table) (f : ℕ → ℕ → ℕ)
      → ((m : ℕ) → Numbered c m → (p : ℕ) → p < patterns c.letters → number_at c.letters u (get_or entries (m - 2) 0) p ≡ f p m) → Numbering c u f out
  placed_numbering u f h = record { number = λ m k p l. ap (λ (e : ℕ). number_at c.letters u e p) (placed_at m k) ∙ h m k p l }

  -- and are in a table where the entries of the node records are
  pub placed_within : (used : ℕ) → ground < used → supply < used → ((i : ℕ) → i < length c.nodes → get_or entries i 0 < used) → (j : ℕ) → get_or out j 0 < used
  placed_within used g s h j =
      ⊎_elim
      (λ (rail : j < 2).
      ⊎_elim
      (λ (z : j < 1). let e : j ≡ 0 = omega arith in rw (e, b.ground_is) g)
      (λ (z : 1 ≤ j). let e : j ≡ 1 = omega arith in rw (e, b.supply_is) s)
      (lt_or_ge j 1))
      (⊎_elim
      (λ (k : Numbered c j). rw (placed_at j k) (h (j - 2) (omega (arith, k.least, k.most))))
      (λ (k : 2 + length c.nodes ≤ j). rw (b.past_is j k) (omega arith)))
      (node_cases c j)

module _ (c : Circuit) (u : Table) (s : Sound c.letters u) {entries out : List ℕ} where
  -- values by node number
  pub values_placed : c.letters ≤ most_letters → (f : ℕ → ℕ → ℕ) → ByNode 0 1 entries (length c.nodes) out → ((i : ℕ) → i < length c.nodes → get_or entries i 0 < length u)
      → Numbering c u f out → ((m : ℕ) → Numbered c m → (p : ℕ) → p < patterns c.letters → f p m ≤ 1) → ValueEntries c.letters u (length u) out
  values_placed few f b within is bit = record {
    long = b.long;
    within = λ j _. placed_within c b (length u) (omega (arith, s.three)) (omega (arith, s.three)) within j;
    ground = b.ground_is;
    supply = b.supply_is;
    bits = λ j p _ l.
        let number : ℕ → ℕ = λ (e : ℕ). number_at c.letters u e p in
        ⊎_elim
        (λ (rail : j < 2).
        ⊎_elim
        (λ (z : j < 1). let e : j ≡ 0 = omega arith in let q : number (get_or out j 0) ≡ 0 = rw e (ap number b.ground_is ∙ number_zeroth u p few s) in omega arith)
        (λ (z : 1 ≤ j). let e : j ≡ 1 = omega arith in let q : number (get_or out j 0) ≡ 1 = rw e (ap number b.supply_is ∙ number_first u p few s) in omega arith)
        (lt_or_ge j 1))
        (⊎_elim
        (λ (k : Numbered c j). rw (is.number j k p l) (bit j k p l))
        (λ (k : 2 + length c.nodes ≤ j). let q : number (get_or out j 0) ≡ 0 = ap number (b.past_is j k) ∙ number_zeroth u p few s in omega arith))
        (node_cases c j);
  }

  -- next changes by node number
  pub changes_placed : ByNode 2 2 entries (length c.nodes) out → ((i : ℕ) → i < length c.nodes → get_or entries i 0 < length u) → PendingEntries (length u) out
  changes_placed b within = record {
    long = b.long;
    within = λ j _. placed_within c b (length u) (omega (arith, s.three)) (omega (arith, s.three)) within j;
  }

-- a number of a node record is an inner node's or an input's
node_kind_lem : (c : Circuit) (n : ℕ) → Numbered c n → (is_inner c n ≡ true) ⊎ ((is_inner c n ≡ false) × (is_input c n ≡ true))
node_kind_lem c n h =
    ⊎_elim
    (λ (e : is_inner c n ≡ true). inl e)
    (λ (e : is_inner c n ≡ false). inr (e, rw (le-ltb n 2 h.least) at (not_false (is_driven c n) e)))
    (bool_cases (is_inner c n))
  where
    not_false : (b : Bool) → not b ≡ false → b ≡ true
    not_false true e = refl
    not_false false e = sym e

-- an input has no next change after a step
input_rests : (c : Circuit) (time p now : ℕ) (s : State) → Pending c now s → (n : ℕ) → Numbered c n → is_input c n ≡ true → change_at (stepped_or_exceeded c time p s) n ≡ never
input_rests c time p now s rest n h e =
    stepped_exceeded_change c time p s n h
    ∙ ap (λ (b : Bool). cond b (change_or_exceeded c time (arrived c time p s) (kept c (arrived c time p s)) n) (change_at (arrived c time p s) n)) (input_not_reconsidered c s (arrived c time p s) n e)
    ∙ arrived_change_lem c time p s n h
    ∙ either (flips s time n) (change_at s n) (rest.inputs_rest_lem n h e)
  where
    either : (x : Bool) (a : ℕ) → a ≡ never → cond x never a ≡ never
    either true a e = refl
    either false a e = e

module _ (c : Circuit) (u : Table) (before after pending : List ℕ) (nodes : length c.nodes ≤ 24) (lb : length before ≡ 26) (la : length after ≡ 26) where
  abbrev numbers : ℕ → ℕ → List ℕ
  numbers n p = leaf_at c.letters u (entries_for before after pending n) p

  -- what entries show at a pattern
  shows : (sb sa : ℕ → State) → Numbering c u (λ p m. value_at (sb p) m) before → Numbering c u (λ p m. value_at (sa p) m) after → Numbering c u (λ p m. change_at (sb p) m) pending
      → (n : ℕ) → Numbered c n → (p : ℕ) → p < patterns c.letters → Shown c (sb p) (sa p) n (numbers n p)
  shows sb sa hb ha hp n k p l = record {
    before_is = λ m h. number_before c.letters u before after pending n p lb la m (omega (arith, h.most)) ∙ hb.number m h p l;
    after_is = λ m h. number_after_lem c.letters u before after pending n p lb la m (omega (arith, h.most)) ∙ ha.number m h p l;
    pending_is = number_pending c.letters u before after pending n p lb la ∙ hp.number n k p l;
  }

  -- a step
  pub step_change : (time now : ℕ) (s : ℕ → State) → ((p : ℕ) → p < patterns c.letters → Shaped c (s p)) → ((p : ℕ) → p < patterns c.letters → Pending c now (s p))
      → Numbering c u (λ p m. value_at (s p) m) before → Numbering c u (λ p m. value_at (arrived c time p (s p)) m) after → Numbering c u (λ p m. change_at (s p) m) pending
      → (n : ℕ) → Numbered c n → (p : ℕ) → p < patterns c.letters → change_of c time false c.letters u before after pending n p ≡ change_at (stepped_or_exceeded c time p (s p)) n
  step_change time now s shaped rest hb ha hp n h p l =
      ⊎_elim
      (λ (e : is_inner c n ≡ true). rw e (shown_step c n e h (numbers n p) time p (s p) (shaped p l) (shows s (λ q. arrived c time q (s q)) hb ha hp n h p l)))
      (λ (e : (is_inner c n ≡ false) × (is_input c n ≡ true)). rw e.0 (sym (input_rests c time p now (s p) (rest p l) n h e.1)))
      (node_kind_lem c n h)

  -- the start
  pub start_change : Numbering c u (λ p m. value_at (initial c p) m) before → Numbering c u (λ p m. value_at (initial c p) m) after → Numbering c u (λ p m. change_at (initial c p) m) pending
      → (n : ℕ) → Numbered c n → (p : ℕ) → p < patterns c.letters → change_of c 0 true c.letters u before after pending n p ≡ change_at (started_or_exceeded c p) n
  start_change hb ha hp n h p l =
      ⊎_elim
      (λ (e : is_inner c n ≡ true). rw e (shown_start c n e h (numbers n p) p (shows (initial c) (initial c) hb ha hp n h p l)))
      (λ (e : (is_inner c n ≡ false) × (is_input c n ≡ true)). rw e.0 (sym (started_exceeded_change c p n h ∙ rw e.0 (initial_change c p n h))))
      (node_kind_lem c n h)
