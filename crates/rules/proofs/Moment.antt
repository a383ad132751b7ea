-- Laws of the record of a state for every pattern: what it holds, and when it is sound.
use mathlib.Core.Path.{◌≡◌, refl, sym, ◌∙◌, ap}
use mathlib.Core.Logic.{◌⊎◌, inl, inr, ⊎_elim}
use mathlib.Core.Bool.{Bool, true, false, not, ◌&&◌, ◌||◌}
use mathlib.Core.List.{List, [], ◌∷◌, map}
use Prim.Native.Nat.{ℕ, zero, suc, ◌+◌, ◌-◌, ◌<◌, ◌≤◌}
use native.Mathlib.Omega.{arith}
use lib.ListN.{length, get_or, length-map}
use lib.Seq.{ext_get_or}
use lib.Dec.{leb, ltb, eqb}
use borrow.Author.Tests.{ltb-true, leb-true, eqb-true, lt-ltb, le-leb, eq-eqb}
use Rattle.refusal.specs.Answer.{answered}
use Rattle.lists.proofs.Cases.{and_left, and_right, and_both, or_cases, or_left, or_right}
use Rattle.lists.proofs.Below.{below_each, each_below}
use Rattle.lists.proofs.Map.{map_at}
use Rattle.format.specs.Circuit.{Circuit, first_node_number, every}
use Rattle.format.specs.Legal.{is_input, check_circuit}
use Rattle.format.proofs.Every.{every_at, every_of}
use Rattle.format.proofs.Legal.{legal_limits}
use Rattle.diagram.specs.Pattern.{most_letters, patterns}
use Rattle.diagram.specs.Table.{Table, never, number_at}
use Rattle.diagram.specs.Sound.{sound}
use Rattle.diagram.specs.Operation.{two_valued}
use Rattle.diagram.proofs.Sound.{Sound, sound_record, sound_test}
use Rattle.diagram.specs.Extends.{Extends}
use Rattle.diagram.proofs.Add.{extends_trans}
use Rattle.diagram.proofs.Number.{number_at_extends, number_second}
use Rattle.diagram.proofs.Calls.{two_valued_each, each_two_valued}
use Rattle.rules.specs.State.{State, value_at, change_at, node_numbers}
use Rattle.rules.specs.Step.{started, stepped}
use Rattle.rules.specs.Run.{Run, Moment, state_of, StoredAll, store_all, moment_of, start_moment, time_after, step_moment, never_entry, times_legal, inputs_rest, run_sound}
use Rattle.rules.proofs.State.{Numbered, Shaped, Bits, Pending, up_length, up_at, at_place, value_place, change_place_lem}
use Rattle.rules.proofs.Step.{Later, legal_horizon, started_shaped, started_bits, started_pending, stepped_shaped, stepped_bits}
use Rattle.rules.proofs.Time.{legal_times, next_never, next_later, next_within, next_pending}
use Rattle.rules.proofs.StoreAll.{no_function, AreStored, all_stored, store_all_each, never_stored}

-- what a run keeps true of the states of all patterns
pub record States (c : Circuit) (now : ℕ) (states : ℕ → State) : Type 0 where
  pub shaped : (p : ℕ) → p < patterns c.letters → Shaped c (states p)
  pub bits : (p : ℕ) → p < patterns c.letters → Bits c (states p)
  pub pending : (p : ℕ) → p < patterns c.letters → Pending c now (states p)

-- a moment records states in an extension of a table, place by place
pub record Records (c : Circuit) (states : ℕ → State) (t : Table) (m : Moment) : Type 0 where
  pub sound : Sound c.letters m.table
  pub extends : Extends t m.table
  pub used : m.run.used ≡ length m.table
  pub values_long : length m.run.values ≡ length c.nodes
  pub changes_long : length m.run.changes ≡ length c.nodes
  pub value_within : (i : ℕ) → i < length c.nodes → get_or m.run.values i 0 < length m.table
  pub change_within : (i : ℕ) → i < length c.nodes → get_or m.run.changes i 0 < length m.table
  pub value_is : (i : ℕ) → i < length c.nodes → (p : ℕ) → p < patterns c.letters
      → number_at c.letters m.table (get_or m.run.values i 0) p ≡ value_at (states p) (first_node_number + i)
  pub change_is : (i : ℕ) → i < length c.nodes → (p : ℕ) → p < patterns c.letters
      → number_at c.letters m.table (get_or m.run.changes i 0) p ≡ change_at (states p) (first_node_number + i)
  -- where a next change is never at every pattern, its entry is that of never
  pub change_never : (i : ℕ) → i < length c.nodes → ((p : ℕ) → p < patterns c.letters → change_at (states p) (first_node_number + i) ≡ never)
      → get_or m.run.changes i 0 ≡ never_entry

-- a function of each node number
abbrev pub each_node : Circuit → (State → ℕ → ℕ) → (ℕ → State) → List (ℕ → ℕ)
each_node c f states = map (λ (n : ℕ) (p : ℕ). f (states p) n) (node_numbers c)

each_length : (c : Circuit) (f : State → ℕ → ℕ) (states : ℕ → State) → length (each_node c f states) ≡ length c.nodes
each_length c f states = length-map (node_numbers c) (λ (n : ℕ) (p : ℕ). f (states p) n) ∙ up_length (length c.nodes) 2

each_at : (c : Circuit) (f : State → ℕ → ℕ) (states : ℕ → State) (i : ℕ) → i < length c.nodes → (p : ℕ)
    → get_or (each_node c f states) i no_function p ≡ f (states p) (2 + i)
each_at c f states i h p =
    ap (λ (u : ℕ → ℕ). u p) (map_at {B = ℕ → ℕ} (λ (n : ℕ) (q : ℕ). f (states q) n) (node_numbers c) 0 no_function i (omega (arith, up_length (length c.nodes) 2)))
    ∙ ap (f (states p)) (up_at (length c.nodes) 2 i 0 h)

-- the values of all nodes, stored
abbrev pub stored_values : Circuit → (ℕ → State) → Table → StoredAll
stored_values c states t = store_all c.letters (each_node c value_at states) t

abbrev stored_changes : Circuit → (ℕ → State) → Table → StoredAll
stored_changes c states t = store_all c.letters (each_node c change_at states) t

-- stored values, then stored next changes, as a moment
abbrev joined : ℕ → StoredAll → StoredAll → Moment
joined time vs cs = record {
  run = record { time = time; used = length cs.table; values = vs.entries; changes = cs.entries };
  table = cs.table;
}

module _ (c : Circuit) (time : ℕ) (states : ℕ → State) (t : Table) where
  moment_is : moment_of c time states t ≡ joined time (stored_values c states t) (stored_changes c states (stored_values c states t).table)
  unfolding moment_of
  moment_is = refl

  -- its time
  pub moment_time : (moment_of c time states t).run.time ≡ time
  unfolding moment_of
  moment_time = refl

  -- what the values add comes before what the next changes add: the values' table is the first part of the moment's, and holds the values' entries
  pub values_first : c.letters ≤ most_letters → Sound c.letters t
      → Extends t (stored_values c states t).table × Extends (stored_values c states t).table (moment_of c time states t).table
      × ((moment_of c time states t).run.values ≡ (stored_values c states t).entries)
  values_first few s =
      let a : AreStored c.letters (each_node c value_at states) t (stored_values c states t) = all_stored (each_node c value_at states) t few s in
      rw moment_is (a.extends, (all_stored (each_node c change_at states) (stored_values c states t).table few a.sound).extends, refl)

  -- it records the states
  pub moment_records : c.letters ≤ most_letters → Sound c.letters t → Records c states t (moment_of c time states t)
  moment_records few s =
      let vs : StoredAll = stored_values c states t in
      let cs : StoredAll = stored_changes c states vs.table in
      let a : AreStored c.letters (each_node c value_at states) t vs = all_stored (each_node c value_at states) t few s in
      let b : AreStored c.letters (each_node c change_at states) vs.table cs = all_stored (each_node c change_at states) vs.table few a.sound in
      let nv : length (each_node c value_at states) ≡ length c.nodes = each_length c value_at states in
      let nc : length (each_node c change_at states) ≡ length c.nodes = each_length c change_at states in
      rw moment_is record {
        sound = b.sound;
        extends = extends_trans a.extends b.extends;
        used = refl;
        values_long = a.count ∙ nv;
        changes_long = b.count ∙ nc;
        value_within = λ i h. omega (arith, a.within i (omega arith), b.extends.longer);
        change_within = λ i h. b.within i (omega arith);
        value_is = λ i h p l.
            number_at_extends (get_or vs.entries i 0) p few a.sound b.extends (a.within i (omega arith))
            ∙ a.number i (omega arith) p l
            ∙ each_at c value_at states i h p;
        change_is = λ i h p l. b.number i (omega arith) p l ∙ each_at c change_at states i h p;
        change_never = λ i h all. never_stored few b i (omega arith) (λ p l. each_at c change_at states i h p ∙ all p l);
      }

-- lists of entries whose numbers at a pattern are the state's make the state
state_is : (c : Circuit) (t : Table) (r : Run) (p : ℕ) (s : State) → Shaped c s
    → length r.values ≡ length c.nodes → length r.changes ≡ length c.nodes
    → ((i : ℕ) → i < length c.nodes → number_at c.letters t (get_or r.values i 0) p ≡ value_at s (first_node_number + i))
    → ((i : ℕ) → i < length c.nodes → number_at c.letters t (get_or r.changes i 0) p ≡ change_at s (first_node_number + i))
    → state_of c t r p ≡ s
unfolding state_of
state_is c t r p s sh lv lc hv hc =
    let number : ℕ → ℕ = λ (e : ℕ). number_at c.letters t e p in
    let vs : map number r.values ≡ s.values =
    ext_get_or 0 (map number r.values) s.values (length-map r.values number ∙ lv ∙ sym sh.values_long)
    (λ i l.
    let h : i < length r.values = omega (arith, length-map r.values number) in
    let j : 2 + i - 2 ≡ i = omega arith in
    map_at number r.values 0 0 i h ∙ hv i (omega arith) ∙ value_place s (2 + i) (omega arith) ∙ ap (λ (k : ℕ). get_or s.values k 0) j) in
    let cs : map number r.changes ≡ s.changes =
    ext_get_or never (map number r.changes) s.changes (length-map r.changes number ∙ lc ∙ sym sh.changes_long)
    (λ i l.
    let h : i < length r.changes = omega (arith, length-map r.changes number) in
    let j : 2 + i - 2 ≡ i = omega arith in
    map_at number r.changes 0 never i h ∙ hc i (omega arith) ∙ change_place_lem s (2 + i) (omega arith) ∙ ap (λ (k : ℕ). get_or s.changes k never) j) in
    λ i. record { values = vs i; changes = cs i }

-- a moment that records states holds them
pub records_state : {c : Circuit} {states : ℕ → State} {t : Table} {m : Moment} → Records c states t m → (p : ℕ) → p < patterns c.letters → Shaped c (states p)
    → state_of c m.table m.run p ≡ states p
records_state {c} {states} {t} {m} r p l sh =
    state_is c m.table m.run p (states p) sh r.values_long r.changes_long (λ i h. r.value_is i h p l) (λ i h. r.change_is i h p l)

-- what it means that a run record is sound with a table
pub record RunSound (c : Circuit) (t : Table) (r : Run) : Type 0 where
  pub time_most : r.time ≤ c.horizon.0
  pub values_long : length r.values ≡ length c.nodes
  pub changes_long : length r.changes ≡ length c.nodes
  pub value_within : (i : ℕ) → i < length c.nodes → get_or r.values i 0 < length t
  pub change_within : (i : ℕ) → i < length c.nodes → get_or r.changes i 0 < length t
  pub value_bit : (i : ℕ) → i < length c.nodes → (p : ℕ) → p < patterns c.letters → number_at c.letters t (get_or r.values i 0) p ≤ 1
  pub change_later : (i : ℕ) → i < length c.nodes → (p : ℕ) → p < patterns c.letters
      → Later c r.time (number_at c.letters t (get_or r.changes i 0) p)
  pub inputs_rest_lem : (i : ℕ) → i < length c.nodes → is_input c (first_node_number + i) ≡ true → get_or r.changes i 0 ≡ never_entry

-- a test that must pass where another does
implied : (a b : Bool) → (not a || b) ≡ true → a ≡ true → b ≡ true
implied true b e h = e
implied false b e h = absurd (let z : ◌≡◌ {A = ℕ} 0 1 = cc in omega arith)

implies : (a b : Bool) → (a ≡ true → b ≡ true) → (not a || b) ≡ true
implies true b h = h refl
implies false b h = refl

module _ (c : Circuit) (t : Table) (now e : ℕ) where
  -- the test of a next change's entry, and its facts
  times_each : times_legal c t now e ≡ true → (p : ℕ) → p < patterns c.letters → Later c now (number_at c.letters t e p)
  unfolding times_legal
  times_each h p l =
      let n : ℕ = number_at c.letters t e p in
      ⊎_elim
      (λ (z : eqb n never ≡ true). inl (eqb-true n never z))
      (λ (z : (ltb now n && leb n c.horizon.0) ≡ true). inr (
        ltb-true now n (and_left (ltb now n) (leb n c.horizon.0) z),
        leb-true n c.horizon.0 (and_right (ltb now n) (leb n c.horizon.0) z),
      ))
      (or_cases (eqb n never) (ltb now n && leb n c.horizon.0)
      (below_each (patterns c.letters)
      (λ q. eqb (number_at c.letters t e q) never || (ltb now (number_at c.letters t e q) && leb (number_at c.letters t e q) c.horizon.0))
      h p l))

  each_times : ((p : ℕ) → p < patterns c.letters → Later c now (number_at c.letters t e p)) → times_legal c t now e ≡ true
  unfolding times_legal
  each_times h =
      each_below (patterns c.letters)
      (λ q. eqb (number_at c.letters t e q) never || (ltb now (number_at c.letters t e q) && leb (number_at c.letters t e q) c.horizon.0))
      (λ p l.
      let n : ℕ = number_at c.letters t e p in
      ⊎_elim
      (λ (z : n ≡ never). or_left (eqb n never) _ (eq-eqb n never z))
      (λ (z : (now < n) × (n ≤ c.horizon.0)). or_right (eqb n never) _ (and_both (ltb now n) (leb n c.horizon.0) (lt-ltb now n z.0) (le-leb n c.horizon.0 z.1)))
      (h p l))

-- the test of the inputs' entries, and its facts
inputs_each : (c : Circuit) (ns es : List ℕ) → inputs_rest c ns es ≡ true
    → (length es ≡ length ns) × ((i : ℕ) → i < length ns → is_input c (get_or ns i 0) ≡ true → get_or es i 0 ≡ never_entry)
unfolding inputs_rest
inputs_each c [] es h = (eqb-true (length es) 0 h, λ i l. absurd (omega arith))
inputs_each c (n ∷ ns) [] h = absurd (let z : ◌≡◌ {A = ℕ} 0 1 = cc in omega arith)
inputs_each c (n ∷ ns) (e ∷ es) h =
    let first : Bool = not (is_input c n) || eqb e never_entry in
    let rest : (length es ≡ length ns) × ((i : ℕ) → i < length ns → is_input c (get_or ns i 0) ≡ true → get_or es i 0 ≡ never_entry) =
    inputs_each c ns es (and_right first (inputs_rest c ns es) h) in
    (ap suc rest.0, at (implied (is_input c n) (eqb e never_entry) (and_left first (inputs_rest c ns es) h)) rest.1)
  where
    at : (is_input c n ≡ true → eqb e never_entry ≡ true) → ((i : ℕ) → i < length ns → is_input c (get_or ns i 0) ≡ true → get_or es i 0 ≡ never_entry)
        → (i : ℕ) → i < suc (length ns) → is_input c (get_or (n ∷ ns) i 0) ≡ true → get_or (e ∷ es) i 0 ≡ never_entry
    at first rest zero l k = eqb-true e never_entry (first k)
    at first rest (suc i) l k = rest i (omega arith) k

each_inputs : (c : Circuit) (ns es : List ℕ) → length es ≡ length ns → ((i : ℕ) → i < length ns → is_input c (get_or ns i 0) ≡ true → get_or es i 0 ≡ never_entry)
    → inputs_rest c ns es ≡ true
unfolding inputs_rest
each_inputs c [] es q h = eq-eqb (length es) 0 q
each_inputs c (n ∷ ns) [] q h = absurd (omega arith)
each_inputs c (n ∷ ns) (e ∷ es) q h =
    and_both (not (is_input c n) || eqb e never_entry) (inputs_rest c ns es)
    (implies (is_input c n) (eqb e never_entry) (λ k. eq-eqb e never_entry (h 0 (omega arith) k)))
    (each_inputs c ns es (omega arith) (λ i l. h (suc i) (omega arith)))

module _ (c : Circuit) (t : Table) (r : Run) where
  -- the tests of an entry of the record
  abbrev value_test : ℕ → Bool
  value_test e = ltb e (length t) && two_valued c.letters t e

  abbrev change_test : ℕ → Bool
  change_test e = ltb e (length t) && times_legal c t r.time e

  number_place : (i : ℕ) → i < length c.nodes → get_or (node_numbers c) i 0 ≡ first_node_number + i
  number_place i h = up_at (length c.nodes) 2 i 0 h

  -- a run record that passes the test keeps to the facts
  pub run_record : run_sound c t r ≡ true → RunSound c t r
  unfolding run_sound
  run_record h =
      let n : ℕ = length c.nodes in
      let k1 : Bool = leb r.time c.horizon.0 in
      let k2 : Bool = eqb (length r.values) n in
      let k3 : Bool = every value_test r.values in
      let k4 : Bool = every change_test r.changes in
      let k5 : Bool = inputs_rest c (node_numbers c) r.changes in
      let h4 : (k1 && k2 && k3 && k4) ≡ true = and_left (k1 && k2 && k3 && k4) k5 h in
      let h3 : (k1 && k2 && k3) ≡ true = and_left (k1 && k2 && k3) k4 h4 in
      let h2 : (k1 && k2) ≡ true = and_left (k1 && k2) k3 h3 in
      let lv : length r.values ≡ n = eqb-true (length r.values) n (and_right k1 k2 h2) in
      let ins : (length r.changes ≡ length (node_numbers c)) × ((i : ℕ) → i < length (node_numbers c) → is_input c (get_or (node_numbers c) i 0) ≡ true → get_or r.changes i 0 ≡ never_entry) =
      inputs_each c (node_numbers c) r.changes (and_right (k1 && k2 && k3 && k4) k5 h) in
      let ln : length (node_numbers c) ≡ n = up_length n 2 in
      let lc : length r.changes ≡ n = ins.0 ∙ ln in
      let v : (i : ℕ) → i < n → value_test (get_or r.values i 0) ≡ true = λ i l. every_at value_test r.values (and_right (k1 && k2) k3 h3) 0 i (omega arith) in
      let w : (i : ℕ) → i < n → change_test (get_or r.changes i 0) ≡ true = λ i l. every_at change_test r.changes (and_right (k1 && k2 && k3) k4 h4) 0 i (omega arith) in
      record {
        time_most = leb-true r.time c.horizon.0 (and_left k1 k2 h2);
        values_long = lv;
        changes_long = lc;
        value_within = λ i l. ltb-true (get_or r.values i 0) (length t) (and_left _ (two_valued c.letters t (get_or r.values i 0)) (v i l));
        change_within = λ i l. ltb-true (get_or r.changes i 0) (length t) (and_left _ (times_legal c t r.time (get_or r.changes i 0)) (w i l));
        value_bit = λ i l. two_valued_each c.letters t (get_or r.values i 0) (and_right (ltb (get_or r.values i 0) (length t)) _ (v i l));
        change_later = λ i l. times_each c t r.time (get_or r.changes i 0) (and_right (ltb (get_or r.changes i 0) (length t)) _ (w i l));
        inputs_rest_lem = λ i l k. ins.1 i (omega arith) (rw (number_place i l) k);
      }

  -- a run record that keeps to the facts passes the test
  pub run_test : RunSound c t r → run_sound c t r ≡ true
  unfolding run_sound
  run_test h =
      let n : ℕ = length c.nodes in
      let ln : length (node_numbers c) ≡ n = up_length n 2 in
      let vs : every value_test r.values ≡ true =
      every_of value_test r.values 0
      (λ i l.
      let j : i < n = omega (arith, h.values_long) in
      and_both (ltb (get_or r.values i 0) (length t)) _ (lt-ltb _ _ (h.value_within i j)) (each_two_valued c.letters t (get_or r.values i 0) (h.value_bit i j))) in
      let cs : every change_test r.changes ≡ true =
      every_of change_test r.changes 0
      (λ i l.
      let j : i < n = omega (arith, h.changes_long) in
      and_both (ltb (get_or r.changes i 0) (length t)) _ (lt-ltb _ _ (h.change_within i j)) (each_times c t r.time (get_or r.changes i 0) (h.change_later i j))) in
      let ins : inputs_rest c (node_numbers c) r.changes ≡ true =
      each_inputs c (node_numbers c) r.changes (h.changes_long ∙ sym ln)
      (λ i l k.
      let j : i < n = omega arith in
      h.inputs_rest_lem i j (rw (number_place i j) at k)) in
      rw (le-leb r.time c.horizon.0 h.time_most, eq-eqb (length r.values) n h.values_long, vs, cs, ins)

-- the states that a sound run record holds
pub sound_states : {c : Circuit} {t : Table} {r : Run} → c.letters ≤ most_letters → Sound c.letters t → RunSound c t r → States c r.time (state_of c t r)
unfolding state_of
sound_states {c} {t} {r} few s h = record {
  shaped = shaped;
  bits = λ p l. record { bit = λ n k. rw (value p n k) (h.value_bit (n - 2) (omega arith) p l) };
  pending = λ p l. record {
    later = λ n k. rw (change p n k) (h.change_later (n - 2) (omega arith) p l);
    inputs_rest_lem = λ n k i.
        let same : first_node_number + (n - 2) ≡ n = omega arith in
        change p n k ∙ ap (λ (e : ℕ). number_at c.letters t e p) (h.inputs_rest_lem (n - 2) (omega arith) (rw same i)) ∙ number_second t p few s;
  };
}
  where
    number : ℕ → ℕ → ℕ
    number p e = number_at c.letters t e p

    shaped : (p : ℕ) → p < patterns c.letters → Shaped c (state_of c t r p)
    shaped p l = record { values_long = length-map r.values (number p) ∙ h.values_long; changes_long = length-map r.changes (number p) ∙ h.changes_long }

    value : (p n : ℕ) → Numbered c n → value_at (state_of c t r p) n ≡ number_at c.letters t (get_or r.values (n - 2) 0) p
    value p n k = value_place (state_of c t r p) n k.least ∙ map_at (number p) r.values 0 0 (n - 2) (omega (arith, h.values_long))

    change : (p n : ℕ) → Numbered c n → change_at (state_of c t r p) n ≡ number_at c.letters t (get_or r.changes (n - 2) 0) p
    change p n k = change_place_lem (state_of c t r p) n k.least ∙ map_at (number p) r.changes 0 never (n - 2) (omega (arith, h.changes_long))

-- a moment is sound: its table, its run record with it, and its used count
pub record SoundMoment (c : Circuit) (m : Moment) : Type 0 where
  pub table : Sound c.letters m.table
  pub run : RunSound c m.table m.run
  pub used : m.run.used ≡ length m.table

-- the tests of a sound moment
pub sound_tests : {c : Circuit} {m : Moment} → SoundMoment c m → (sound c.letters m.table ≡ true) × (run_sound c m.table m.run ≡ true)
sound_tests {c} {m} h = (sound_test c.letters m.table h.table, run_test c m.table m.run h.run)

-- a moment that passes them is sound
pub tests_sound : {c : Circuit} {m : Moment} → sound c.letters m.table ≡ true → run_sound c m.table m.run ≡ true → m.run.used ≡ length m.table → SoundMoment c m
tests_sound {c} {m} a b e = record { table = sound_record c.letters m.table a; run = run_record c m.table m.run b; used = e }

-- a moment that records the states of a run is sound
pub records_sound : {c : Circuit} {states : ℕ → State} {t : Table} {m : Moment} → Records c states t m → States c m.run.time states → m.run.time ≤ c.horizon.0 → SoundMoment c m
records_sound {c} {states} {t} {m} r s most = record {
  table = r.sound;
  used = r.used;
  run = record {
    time_most = most;
    values_long = r.values_long;
    changes_long = r.changes_long;
    value_within = r.value_within;
    change_within = r.change_within;
    value_bit = λ i h p l. rw (r.value_is i h p l) ((s.bits p l).bit (2 + i) (at_place c i h));
    change_later = λ i h p l. rw (r.change_is i h p l) ((s.pending p l).later (2 + i) (at_place c i h));
    inputs_rest_lem = λ i h k. r.change_never i h (λ p l. (s.pending p l).inputs_rest_lem (2 + i) (at_place c i h) k);
  };
}

module _ (c : Circuit) (time : ℕ) (states : ℕ → State) (t : Table) (few : c.letters ≤ most_letters) (s : Sound c.letters t) where
  -- the state of a pattern in the record of states
  pub moment_state : (p : ℕ) → p < patterns c.letters → Shaped c (states p) → state_of c (moment_of c time states t).table (moment_of c time states t).run p ≡ states p
  moment_state p l sh = records_state (moment_records c time states t few s) p l sh

  -- the record of the states of a run is sound
  pub moment_sound : States c time states → time ≤ c.horizon.0 → SoundMoment c (moment_of c time states t)
  moment_sound h most =
      let e = moment_time c time states t in
      records_sound (moment_records c time states t few s) (rw e h) (omega arith)

-- states that agree at each pattern give the same moment
pub moment_ext : (c : Circuit) (time : ℕ) (f g : ℕ → State) (t : Table) → ((p : ℕ) → p < patterns c.letters → f p ≡ g p) → moment_of c time f t ≡ moment_of c time g t
moment_ext c time f g t h =
    let vs : stored_values c f t ≡ stored_values c g t =
    store_all_each c.letters (λ (n : ℕ) (p : ℕ). value_at (f p) n) (λ (n : ℕ) (p : ℕ). value_at (g p) n) (node_numbers c) t (λ n p l. ap (λ (s : State). value_at s n) (h p l)) in
    let cs : (u : Table) → stored_changes c f u ≡ stored_changes c g u =
    λ u. store_all_each c.letters (λ (n : ℕ) (p : ℕ). change_at (f p) n) (λ (n : ℕ) (p : ℕ). change_at (g p) n) (node_numbers c) u (λ n p l. ap (λ (s : State). change_at s n) (h p l)) in
    moment_is c time f t
    ∙ ap (λ (s : StoredAll). joined time s (stored_changes c f s.table)) vs
    ∙ ap (joined time (stored_values c g t)) (cs (stored_values c g t).table)
    ∙ sym (moment_is c time g t)

-- the start is at time 0
pub start_time : (c : Circuit) (t : Table) → (start_moment c t).run.time ≡ 0
unfolding start_moment
start_time c t = moment_time c 0 (started c) t

-- the states after a step
abbrev pub stepped_states : Circuit → Moment → ℕ → State
stepped_states c m p = stepped c (time_after c m) p (state_of c m.table m.run p)

-- a step's moment is at its T
pub step_time_lem : (c : Circuit) (m : Moment) → (step_moment c m).run.time ≡ time_after c m
unfolding step_moment
step_time_lem c m = moment_time c (time_after c m) (stepped_states c m) m.table

-- T is at most never
pub time_never : (c : Circuit) (m : Moment) → time_after c m ≤ never
unfolding time_after
time_never c m = next_never c m.run.time (state_of c m.table m.run)

module _ {c : Circuit} (legal : check_circuit c ≡ answered c) where
  -- letters of a legal cell
  pub legal_few : c.letters ≤ most_letters
  legal_few = (legal_limits legal).most_letters_lem

  module _ {t : Table} (s : Sound c.letters t) where
    -- what the start records
    pub start_records : Records c (started c) t (start_moment c t)
    unfolding start_moment
    start_records = moment_records c 0 (started c) t legal_few s

    -- the state of a pattern after the start
    pub start_state : (p : ℕ) → p < patterns c.letters → state_of c (start_moment c t).table (start_moment c t).run p ≡ started c p
    start_state p l = records_state start_records p l (started_shaped c p)

    -- the start leaves a sound moment
    pub start_sound : SoundMoment c (start_moment c t)
    unfolding start_moment
    start_sound =
        moment_sound c 0 (started c) t legal_few s
        (record { shaped = λ p l. started_shaped c p; bits = λ p l. started_bits c p; pending = λ p l. started_pending c p })
        (omega arith)

    -- and takes no entry away
    pub start_extends : Extends t (start_moment c t).table
    start_extends = start_records.extends

  module _ {m : Moment} (s : SoundMoment c m) where
    -- the states that a sound moment holds
    pub moment_states : States c m.run.time (state_of c m.table m.run)
    moment_states = sound_states legal_few s.table s.run

    -- T is never, or after now and not past the horizon
    pub time_later : Later c m.run.time (time_after c m)
    unfolding time_after
    time_later = next_later c m.run.time (state_of c m.table m.run) moment_states.shaped moment_states.pending (legal_times legal)

    -- what the step records
    pub step_records : Records c (stepped_states c m) m.table (step_moment c m)
    unfolding step_moment
    step_records = moment_records c (time_after c m) (stepped_states c m) m.table legal_few s.table

    -- the state of a pattern after the step
    pub step_state : (p : ℕ) → p < patterns c.letters
        → state_of c (step_moment c m).table (step_moment c m).run p ≡ stepped c (time_after c m) p (state_of c m.table m.run p)
    step_state p l = records_state step_records p l (stepped_shaped c (time_after c m) p (state_of c m.table m.run p))

    -- the step takes no entry away
    pub step_extends : Extends m.table (step_moment c m).table
    step_extends = step_records.extends

    module _ (more : time_after c m < never) where
      -- where there is a next step its time is after now and not past the horizon
      pub time_within : (m.run.time < time_after c m) × (time_after c m ≤ c.horizon.0)
      unfolding time_after
      time_within = next_within c m.run.time (state_of c m.table m.run) moment_states.shaped moment_states.pending (legal_times legal) more

      stepped_states_lem : States c (time_after c m) (stepped_states c m)
      unfolding time_after
      stepped_states_lem = record {
        shaped = λ p l. stepped_shaped c (time_after c m) p (state_of c m.table m.run p);
        bits = λ p l. stepped_bits c (time_after c m) p (state_of c m.table m.run p) (moment_states.bits p l);
        pending = next_pending c m.run.time (state_of c m.table m.run) moment_states.shaped moment_states.pending (legal_times legal) (legal_horizon legal) more;
      }

      -- the step leaves a sound moment
      pub step_sound : SoundMoment c (step_moment c m)
      unfolding step_moment
      step_sound = moment_sound c (time_after c m) (stepped_states c m) m.table legal_few s.table stepped_states_lem time_within.1
