-- Fixing letters in a cell and running it for a pattern is running the cell for the pattern with those letters fixed.
use mathlib.Core.Path.{◌≡◌, refl, sym, ◌∙◌, ap, ap₂, fun_ext}
use mathlib.Core.Logic.{⊎_elim}
use mathlib.Core.Bool.{Bool, ◌&&◌, ◌||◌, cond}
use mathlib.Core.List.{List, [], ◌∷◌, map, map-map}
use mathlib.Core.Option.{Option, some, none}
use Prim.Native.Nat.{ℕ, zero, suc, ◌+◌, ◌-◌, ◌*◌, ◌%◌, ◌≤◌, ◌<◌, min}
use native.Mathlib.Omega.{arith}
use lib.ListN.{length, get_or, length-map}
use lib.Dec.{leb, eqb}
use Rattle.lists.proofs.Cases.{lt_or_ge, eq_or_ne}
use Rattle.refusal.specs.Answer.{answered}
use Rattle.units.specs.declared.Picoseconds.{Picoseconds}
use Rattle.units.specs.declared.Femtofarads.{Femtofarads}
use Rattle.units.specs.Rules as units
use Rattle.format.specs.declared.Node.{Node}
use Rattle.format.specs.declared.Entry.{Entry}
use Rattle.format.specs.Circuit.{Circuit, no_entry, node_record}
use Rattle.format.specs.Source.{letter_of}
use Rattle.format.specs.Legal.{check_circuit}
use Rattle.format.specs.Fixing.{Setting, free, low, high, Fixing, set_source, fixed_source, fixed_node, fixed_entry, fixed}
use Rattle.format.proofs.Legal.{legal_node, legal_entry}
use Rattle.format.proofs.Fixing.{fixed_constant, fixed_letter, fixed_node_record}
use Rattle.diagram.specs.Pattern.{patterns, letter_at}
use Rattle.diagram.specs.Table.{never}
use Rattle.diagram.proofs.Pattern.{with_lt, with_same, with_other}
use Rattle.rules.specs.State.{State, value_at, change_at, node_numbers, is_inner}
use Rattle.rules.specs.Arrive.{source_at, scheduled, flips, arrived_value, arrived_change, arrived}
use Rattle.rules.specs.Label.{some as someOf}
use Rattle.rules.specs.Reach.{reconsidered}
use Rattle.rules.specs.Kept.{Channel, kept}
use Rattle.rules.specs.Sum.{Sum, leads, far_end, over_arms, driven_sum, own_sum, arm_of, join_sums, node_sum, undriven, new_value}
use Rattle.rules.specs.Delay.{Load, driven_load, own_load, load_arm, join_loads, node_load, in_ohms}
use Rattle.rules.specs.Step.{target, exceeds, delay_by, delay_to, in_horizon, next_change, stepped, step_exceeds, initial, started, start_exceeds}
use Rattle.rules.specs.Run.{soonest, pattern_time}
use Rattle.rules.proofs.State.{Numbered, numbers_same}
use Rattle.rules.proofs.Arrive.{source_constant, source_letter, some_same, stepped_change, stepped_from, stepped_from_lem}
use Rattle.rules.proofs.Step.{started_change, started_from, started_from_lem}
use Rattle.rules.proofs.Wiring.{Wired, numbers_alike, driven_alike, inner_alike, reconsidered_alike, kept_alike}
use Rattle.commute.specs.Demand.{set_letter, fixed_pattern}

-- what a setting makes of a letter
abbrev pub set_bit : Setting → ℕ → ℕ
set_bit free bit = bit
set_bit low bit = 0
set_bit high bit = 1

-- a letter that is set in a pattern
set_same : (t : Setting) (k p : ℕ) → letter_at k (set_letter t k p) ≡ set_bit t (letter_at k p)
set_same free k p = refl
set_same low k p = with_same k 0 p (omega arith)
set_same high k p = with_same k 1 p (omega arith)

-- the others
set_other : (t : Setting) (j k p : ℕ) → (j ≡ k → ⊥) → letter_at j (set_letter t k p) ≡ letter_at j p
set_other free j k p ne = refl
set_other low j k p ne = with_other j k 0 p (omega arith) ne
set_other high j k p ne = with_other j k 1 p (omega arith) ne

set_lt : (t : Setting) (letters k p : ℕ) → p < patterns letters → k < letters → set_letter t k p < patterns letters
set_lt free letters k p h l = h
set_lt low letters k p h l = with_lt letters k 0 p h l (omega arith)
set_lt high letters k p h l = with_lt letters k 1 p h l (omega arith)

-- letters from K on stay
pub pattern_past : (φ : Fixing) (letters q k : ℕ) → letters ≤ k → letter_at k (fixed_pattern φ letters q) ≡ letter_at k q
unfolding fixed_pattern
pattern_past φ zero q k h = refl
pattern_past φ (suc m) q k h = set_other (φ m) k m (fixed_pattern φ m q) (λ e. omega arith) ∙ pattern_past φ m q k (omega arith)

-- letters below K are as the fixing says: free, 0 or 1
pub pattern_letter : (φ : Fixing) (letters q k : ℕ) → k < letters → letter_at k (fixed_pattern φ letters q) ≡ set_bit (φ k) (letter_at k q)
unfolding fixed_pattern
pattern_letter φ zero q k h = absurd (omega arith)
pattern_letter φ (suc m) q k h =
    ⊎_elim
    (λ (l : k < m). set_other (φ m) k m (fixed_pattern φ m q) (λ e. omega arith) ∙ pattern_letter φ m q k l)
    (λ (l : m ≤ k).
    let e : k ≡ m = omega arith in
    rw e (set_same (φ m) m (fixed_pattern φ m q) ∙ ap (set_bit (φ m)) (pattern_past φ m q m (omega arith))))
    (lt_or_ge k m)

-- a pattern stays one
pub pattern_lt : (φ : Fixing) (letters most q : ℕ) → letters ≤ most → q < patterns most → fixed_pattern φ letters q < patterns most
unfolding fixed_pattern
pattern_lt φ zero most q l h = h
pattern_lt φ (suc m) most q l h = set_lt (φ m) most m (fixed_pattern φ m q) (pattern_lt φ m most q (omega arith) h) (omega arith)

-- a letter, or its complement
abbrev signed : ℕ → ℕ → ℕ
signed odd bit = cond (eqb odd 0) bit (1 - bit)

signed_constant : (odd : ℕ) → odd < 2 → (odd ≡ signed odd 0) × (1 - odd ≡ signed odd 1)
signed_constant odd h =
    ⊎_elim
    (λ (e : odd ≡ 0). (rw e, rw e))
    (λ (ne : odd ≡ 0 → ⊥). let e : odd ≡ 1 = omega arith in (rw e, rw e))
    (eq_or_ne odd 0)

-- a source that names a letter, with that letter set
set_source_lem : (t : Setting) (s q : ℕ) → 2 ≤ s → source_at (set_source t s) q ≡ signed (s % 2) (set_bit t (letter_at (letter_of s) q))
set_source_lem free s q h = source_letter s q h
set_source_lem low s q h = source_constant (s % 2) q (omega arith) ∙ (signed_constant (s % 2) (omega arith)).0
set_source_lem high s q h = source_constant (1 - s % 2) q (omega arith) ∙ (signed_constant (s % 2) (omega arith)).1

-- a fixed source at a pattern is the source at the pattern with the letters fixed
pub source_fixed : (φ : Fixing) (letters s q : ℕ) → s < 2 + 2 * letters → source_at (fixed_source φ s) q ≡ source_at s (fixed_pattern φ letters q)
source_fixed φ letters s q h =
    ⊎_elim
    (λ (l : s < 2). ap (λ (x : ℕ). source_at x q) (fixed_constant φ s l) ∙ source_constant s q l ∙ sym (source_constant s (fixed_pattern φ letters q) l))
    (λ (l : 2 ≤ s).
    ap (λ (x : ℕ). source_at x q) (fixed_letter φ s l)
    ∙ set_source_lem (φ (letter_of s)) s q l
    ∙ ap (signed (s % 2)) (sym (pattern_letter φ letters q (letter_of s) (omega arith)))
    ∙ sym (source_letter s (fixed_pattern φ letters q) l))
    (lt_or_ge s 2)

-- two cells that differ in their sources only
pub record Alike (c d : Circuit) : Type 0 where
  pub wired : Wired c d
  pub horizon_same : c.horizon ≡ d.horizon
  pub capacitance_same : (n : ℕ) → (node_record c n).capacitance ≡ (node_record d n).capacitance

-- sums over arms that agree are equal
over_same : {A : Type 0} (test : Channel → Bool) {f g : A → Channel → A} {own other : A} (ks : List Channel) → ((a : A) (k : Channel) → f a k ≡ g a k) → own ≡ other
    → over_arms test f own ks ≡ over_arms test g other ks
over_same {A} test ks h e = ap₂ (λ (join : A → Channel → A) (a : A). over_arms test join a ks) (fun_ext (λ a. fun_ext (λ k. h a k))) e

module _ {c d : Circuit} (e : Alike c d) where
  -- the same node sums
  pub sum_alike : (allowance : ℕ) (s : State) (ks : List Channel) (from : Option ℕ) (n : ℕ) → node_sum allowance c s ks from n ≡ node_sum allowance d s ks from n
  unfolding node_sum
  sum_alike zero s ks from n =
      ap₂ (λ (b : Bool) (f : Femtofarads). cond b (driven_sum (value_at s n)) (own_sum f (value_at s n))) (driven_alike e.wired n) (e.capacitance_same n)
  sum_alike (suc allowance) s ks from n =
      ap₂ (λ (b : Bool) (sum : Sum). cond b (driven_sum (value_at s n)) sum) (driven_alike e.wired n)
      (over_same (leads from n) ks
      (λ sum k. ap (λ (far : Sum). join_sums sum (arm_of k.transistor far)) (sum_alike allowance s ks (some k.number) (far_end n k)))
      (ap (λ (f : Femtofarads). own_sum f (value_at s n)) (e.capacitance_same n)))

  -- the same delay walks
  pub load_alike : (allowance : ℕ) (sharing : Bool) (new : ℕ) (s : State) (ks : List Channel) (from : Option ℕ) (n : ℕ) → node_load allowance sharing new c s ks from n ≡ node_load allowance sharing new d s ks from n
  unfolding node_load
  load_alike zero sharing new s ks from n =
      ap₂ (λ (b : Bool) (f : Femtofarads). cond (b || (sharing && eqb (value_at s n) new)) (driven_load new (value_at s n)) (own_load new f (value_at s n))) (driven_alike e.wired n) (e.capacitance_same n)
  load_alike (suc allowance) sharing new s ks from n =
      ap₂ (λ (b : Bool) (load : Load). cond (b || (sharing && eqb (value_at s n) new)) (driven_load new (value_at s n)) load) (driven_alike e.wired n)
      (over_same (leads from n) ks
      (λ load k. ap (λ (far : Load). join_loads load (load_arm k.transistor far)) (load_alike allowance sharing new s ks (some k.number) (far_end n k)))
      (ap (λ (f : Femtofarads). own_load new f (value_at s n)) (e.capacitance_same n)))

  sum_here : (s : State) (ks : List Channel) (n : ℕ) → node_sum (length c.nodes) c s ks none n ≡ node_sum (length d.nodes) d s ks none n
  sum_here s ks n = sum_alike (length c.nodes) s ks none n ∙ ap (λ (m : ℕ). node_sum m d s ks none n) e.wired.count_same

  -- the same new values
  pub target_alike : (s : State) (ks : List Channel) (n : ℕ) → target c s ks n ≡ target d s ks n
  unfolding target
  target_alike s ks n = ap (λ (sum : Sum). new_value sum (value_at s n)) (sum_here s ks n)

  -- the same walks above the ceiling
  pub exceeds_alike : (s : State) (ks : List Channel) (n : ℕ) → exceeds c s ks n ≡ exceeds d s ks n
  unfolding exceeds
  exceeds_alike s ks n = ap (λ (sum : Sum). sum.exceeds) (sum_here s ks n)

  -- the same delays
  pub delay_alike : (s : State) (ks : List Channel) (new n : ℕ) → delay_to c s ks new n ≡ delay_to d s ks new n
  unfolding delay_to delay_by
  delay_alike s ks new n =
      ap (λ (sum : Sum). delay_by c s ks (undriven sum) new n) (sum_here s ks n)
      ∙ ap (λ (load : Load). (units.delay (in_ohms load.resistance) load.charge).0)
      (load_alike (length c.nodes) (undriven (node_sum (length d.nodes) d s ks none n)) new s ks none n
      ∙ ap (λ (m : ℕ). node_load m (undriven (node_sum (length d.nodes) d s ks none n)) new d s ks none n) e.wired.count_same)

  -- the same next changes
  pub next_alike : (time : ℕ) (s : State) (ks : List Channel) (n : ℕ) → next_change c time s ks n ≡ next_change d time s ks n
  unfolding next_change
  next_alike time s ks n =
      ap₂ (λ (h : Picoseconds) (new : ℕ).
      cond (eqb new (value_at s n)) never
      (cond (leb (min (change_at s n) (time + delay_to c s ks new n)) h.0) (min (change_at s n) (time + delay_to c s ks new n)) never))
      e.horizon_same (target_alike s ks n)
      ∙ ap (λ (delay : ℕ).
      cond (eqb (target d s ks n) (value_at s n)) never
      (in_horizon d (min (change_at s n) (time + delay)))) (delay_alike s ks (target d s ks n) n)

  map_alike : (f g : ℕ → ℕ) → ((n : ℕ) → Numbered c n → f n ≡ g n) → map f (node_numbers c) ≡ map g (node_numbers d)
  map_alike f g h = numbers_same c f g h ∙ ap (map g) (numbers_alike e.wired)

  -- so one of the nodes that are looked at exceeds it in both or in neither
  some_exceeds_alike : (s : State) (test other : ℕ → Bool) → ((n : ℕ) → test n ≡ other n)
      → someOf (λ (n : ℕ). test n && exceeds c s (kept c s) n) (node_numbers c) ≡ someOf (λ (n : ℕ). other n && exceeds d s (kept d s) n) (node_numbers d)
  some_exceeds_alike s test other h =
      some_same _ (λ (n : ℕ). other n && exceeds d s (kept d s) n) (node_numbers c)
      (λ n m. ap₂ ◌&&◌ (h n) (exceeds_alike s (kept c s) n ∙ ap (λ (ks : List Channel). exceeds d s ks n) (kept_alike e.wired s)))
      ∙ ap (someOf (λ (n : ℕ). other n && exceeds d s (kept d s) n)) (numbers_alike e.wired)

  initial_alike : (p q : ℕ) → ((n : ℕ) → Numbered c n → source_at (node_record c n).start p ≡ source_at (node_record d n).start q) → initial c p ≡ initial d q
  unfolding initial
  initial_alike p q h = λ i. record {
    values = map_alike (λ (n : ℕ). source_at (node_record c n).start p) (λ (n : ℕ). source_at (node_record d n).start q) h i;
    changes = map_alike (λ (n : ℕ). never) (λ (n : ℕ). never) (λ n k. refl) i;
  }

  started_change_alike : (s : State) (n : ℕ) → started_change c s n ≡ started_change d s n
  started_change_alike s n =
      ap₂ (λ (b : Bool) (t : ℕ). cond b t never) (inner_alike e.wired n)
      (next_alike 0 s (kept c s) n ∙ ap (λ (ks : List Channel). next_change d 0 s ks n) (kept_alike e.wired s))

  -- where sources agree, the same start
  pub started_alike : (p q : ℕ) → ((n : ℕ) → Numbered c n → source_at (node_record c n).start p ≡ source_at (node_record d n).start q) → started c p ≡ started d q
  started_alike p q h =
      started_from_lem c p
      ∙ (λ i. record { values = (initial c p).values; changes = map_alike _ (started_change d (initial c p)) (λ n k. started_change_alike (initial c p) n) i })
      ∙ ap (started_from d) (initial_alike p q h)
      ∙ sym (started_from_lem d q)

  -- which exceeds the ceiling in both or in neither
  pub start_exceeds_alike : (p q : ℕ) → ((n : ℕ) → Numbered c n → source_at (node_record c n).start p ≡ source_at (node_record d n).start q) → start_exceeds c p ≡ start_exceeds d q
  unfolding start_exceeds
  start_exceeds_alike p q h =
      some_exceeds_alike (initial c p) (is_inner c) (is_inner d) (inner_alike e.wired)
      ∙ ap (λ (s : State). someOf (λ (n : ℕ). is_inner d n && exceeds d s (kept d s) n) (node_numbers d)) (initial_alike p q h)

  arrived_alike : (time p q : ℕ) (s : State) → ((n : ℕ) → scheduled c.schedule time n p (value_at s n) ≡ scheduled d.schedule time n q (value_at s n)) → arrived c time p s ≡ arrived d time q s
  unfolding arrived
  arrived_alike time p q s h = λ i. record {
    values = map_alike (arrived_value c time p s) (arrived_value d time q s)
        (λ n k. ap₂ (λ (b : Bool) (v : ℕ). cond b v (cond (flips s time n) (1 - value_at s n) (value_at s n))) (e.wired.input_same n) (h n)) i;
    changes = map_alike (arrived_change time s) (arrived_change time s) (λ n k. refl) i;
  }

  stepped_change_alike : (time : ℕ) (s after : State) (n : ℕ) → stepped_change c time s after n ≡ stepped_change d time s after n
  stepped_change_alike time s after n =
      ap₂ (λ (b : Bool) (t : ℕ). cond b t (change_at after n)) (reconsidered_alike e.wired s after n)
      (next_alike time after (kept c after) n ∙ ap (λ (ks : List Channel). next_change d time after ks n) (kept_alike e.wired after))

  -- where the schedules put the same, the same step
  pub stepped_alike : (time p q : ℕ) (s : State) → ((n : ℕ) → scheduled c.schedule time n p (value_at s n) ≡ scheduled d.schedule time n q (value_at s n)) → stepped c time p s ≡ stepped d time q s
  stepped_alike time p q s h =
      let after : State = arrived c time p s in
      stepped_from_lem c time p s
      ∙ (λ i. record { values = after.values; changes = map_alike _ (stepped_change d time s after) (λ n k. stepped_change_alike time s after n) i })
      ∙ ap (stepped_from d time s) (arrived_alike time p q s h)
      ∙ sym (stepped_from_lem d time q s)

  -- which exceeds the ceiling in both or in neither
  pub step_exceeds_alike : (time p q : ℕ) (s : State) → ((n : ℕ) → scheduled c.schedule time n p (value_at s n) ≡ scheduled d.schedule time n q (value_at s n)) → step_exceeds c time p s ≡ step_exceeds d time q s
  unfolding step_exceeds
  step_exceeds_alike time p q s h =
      let after : State = arrived c time p s in
      some_exceeds_alike after (reconsidered c s after) (reconsidered d s after) (reconsidered_alike e.wired s after)
      ∙ ap (λ (z : State). someOf (λ (n : ℕ). reconsidered d s z n && exceeds d z (kept d z) n) (node_numbers d)) (arrived_alike time p q s h)

module _ (φ : Fixing) (c : Circuit) where
  -- a fixed cell differs from the cell in its sources only
  pub fixed_alike : Alike (fixed φ c) c
  unfolding fixed
  fixed_alike = record {
    wired = record {
      count_same = length-map c.nodes (fixed_node φ);
      input_same = λ n. ap (λ (r : Node). leb 2 n && eqb r.role 1) (fixed_node_record φ c n);
      transistors_same = refl;
    };
    horizon_same = refl;
    capacitance_same = λ n. ap (λ (r : Node). r.capacitance) (fixed_node_record φ c n);
  }

  -- the schedule's times stay
  pub pattern_time_fixed : (now : ℕ) (s : State) → pattern_time (fixed φ c) now s ≡ pattern_time c now s
  unfolding pattern_time fixed
  pattern_time_fixed now s =
      ap (λ (ts : List ℕ). min (soonest now s.changes) (soonest now ts)) (map-map (λ (t : Entry). t.time.0) (fixed_entry φ) c.schedule)

-- a fixed schedule puts at a pattern what the schedule puts at the pattern with the letters fixed
pub scheduled_fixed : (φ : Fixing) (letters : ℕ) (es : List Entry) → ((i : ℕ) → i < length es → (get_or es i no_entry).source < 2 + 2 * letters)
    → (time n q present : ℕ) → scheduled (map (fixed_entry φ) es) time n q present ≡ scheduled es time n (fixed_pattern φ letters q) present
unfolding scheduled
scheduled_fixed φ letters [] legal time n q present = refl
scheduled_fixed φ letters (t ∷ es) legal time n q present =
    ap₂ (cond (eqb t.time.0 time && eqb t.input n))
    (source_fixed φ letters t.source q (legal zero (omega arith)))
    (scheduled_fixed φ letters es (λ i h. legal (suc i) (omega arith)) time n q present)

module _ (φ : Fixing) (c : Circuit) (legal : check_circuit c ≡ answered c) where
  -- each node's source in the fixed cell at a pattern is the cell's at the pattern with the letters fixed
  start_source : (q n : ℕ) → Numbered (fixed φ c) n → source_at (node_record (fixed φ c) n).start q ≡ source_at (node_record c n).start (fixed_pattern φ c.letters q)
  start_source q n h =
      ap (λ (m : Node). source_at m.start q) (fixed_node_record φ c n)
      ∙ source_fixed φ c.letters (node_record c n).start q (legal_node legal (n - 2) (omega (arith, h.least, h.most, (fixed_alike φ c).wired.count_same))).source

  -- and so is what the schedule puts
  put_fixed : (time q : ℕ) (s : State) (n : ℕ) → scheduled (fixed φ c).schedule time n q (value_at s n) ≡ scheduled c.schedule time n (fixed_pattern φ c.letters q) (value_at s n)
  unfolding fixed
  put_fixed time q s n = scheduled_fixed φ c.letters c.schedule (λ i h. (legal_entry legal i h).source_is) time n q (value_at s n)

  -- the start of the fixed cell for a pattern is the cell's for the pattern with the letters fixed
  pub started_fixed : (q : ℕ) → started (fixed φ c) q ≡ started c (fixed_pattern φ c.letters q)
  started_fixed q = started_alike (fixed_alike φ c) q (fixed_pattern φ c.letters q) (start_source q)

  -- and so is each step
  pub stepped_fixed : (time q : ℕ) (s : State) → stepped (fixed φ c) time q s ≡ stepped c time (fixed_pattern φ c.letters q) s
  stepped_fixed time q s = stepped_alike (fixed_alike φ c) time q (fixed_pattern φ c.letters q) s (put_fixed time q s)

  -- the start of the fixed cell exceeds the ceiling at a pattern exactly if the cell's does at the pattern with the letters fixed
  pub start_exceeds_fixed : (q : ℕ) → start_exceeds (fixed φ c) q ≡ start_exceeds c (fixed_pattern φ c.letters q)
  start_exceeds_fixed q = start_exceeds_alike (fixed_alike φ c) q (fixed_pattern φ c.letters q) (start_source q)

  -- and so does each step
  pub step_exceeds_fixed : (time q : ℕ) (s : State) → step_exceeds (fixed φ c) time q s ≡ step_exceeds c time (fixed_pattern φ c.letters q) s
  step_exceeds_fixed time q s = step_exceeds_alike (fixed_alike φ c) time q (fixed_pattern φ c.letters q) s (put_fixed time q s)
