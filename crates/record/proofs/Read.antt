-- What is read off a run and its table is what the definitions say.
use mathlib.Core.Path.{◌≡◌, refl, sym, ◌∙◌, ap, ap₂, subst}
use mathlib.Core.Logic.{⊎_elim}
use mathlib.Core.List.{List, map}
use mathlib.Core.Bool.{Bool, true, false, not, ◌&&◌, ◌||◌, and-true}
use Prim.Native.Nat.{ℕ, ◌+◌, ◌-◌, ◌<◌, ◌≤◌, min}
use native.Mathlib.Omega.{arith}
use lib.ListN.{length, get_or, take, length-map}
use lib.Seq.{get_or-take, length-take-le}
use lib.Dec.{leb, ltb, eqb}
use lib.Pow.{pow_pos}
use borrow.Author.Tests.{lt-ltb, le-ltb, le-leb, lt-leb, eq-eqb, ne_eqb}
use Rattle.lists.specs.Tests.{below}
use Rattle.lists.proofs.Cases.{lt_or_ge, eq_or_ne}
use Rattle.lists.proofs.Below.{below_ext}
use Rattle.format.specs.Circuit.{Circuit, every}
use Rattle.format.specs.Legal.{most_nodes, is_input}
use Rattle.lists.proofs.Map.{map_at}
use Rattle.diagram.specs.Pattern.{patterns}
use Rattle.diagram.specs.Table.{Table, never, number_at}
use Rattle.diagram.specs.Operation.{two_valued}
use Rattle.rules.specs.State.{value_at, change_at, node_numbers}
use Rattle.rules.specs.Run.{soonest, pattern_time, least_below, next_time, state_of, time_after, never_entry, times_legal, inputs_rest, run_sound}
use Rattle.rules.proofs.State.{value_place, change_place_lem}
use Rattle.rules.proofs.Step.{Later}
use Rattle.rules.proofs.Time.{least_same}
use Rattle.rules.proofs.Moment.{RunSound, run_record}
use Rattle.functions.specs.Open.{Legible}
use Rattle.functions.proofs.Carry.{legible_long}
use Rattle.net.specs.Net.{nodes_place, at, net_circuit}
use Rattle.net.proofs.Laying.{nodes_length}
use Rattle.record.specs.declared.Run.{Run}
use Rattle.record.specs.Record.{run_of}
use Rattle.record.specs.Moments.{moment_held}
use Rattle.diagram.specs.Held.{held}
use Rattle.record.specs.Numbers.{among, all_among, entry_among, entries_among, rests_at, least_among, after_now, scheduled_after}
use Rattle.record.proofs.Loops.{every_below}
use Rattle.record.proofs.LeastBelow.{least_never, least_min, least_constant, least_swap, soonest_at}
use Rattle.record.proofs.Net.{input_at, times, times_count, time_at, inputs_below}

-- 0 or 1
bit_among : (x : ℕ) → leb x 1 ≡ among 0 1 0 x
bit_among x =
    ⊎_elim
    (λ (z : x ≡ 0). rw (le-leb x 1 (omega arith), eq-eqb x 0 z))
    (λ (z : x ≡ 0 → ⊥). rw (ne_eqb x 0 z, lt-ltb 0 x (omega arith)))
    (eq_or_ne x 0)

two_among : (letters : ℕ) (t : Table) (e : ℕ) → two_valued letters t e ≡ all_among letters t 0 1 0 e
unfolding two_valued all_among
two_among letters t e = below_ext (patterns letters) (λ p. leb (number_at letters t e p) 1) (λ p. among 0 1 0 (number_at letters t e p)) (λ p l. bit_among (number_at letters t e p))

times_among : (c : Circuit) (t : Table) (now e : ℕ) → times_legal c t now e ≡ all_among c.letters t now c.horizon.0 never e
unfolding times_legal all_among
times_among c t now e = refl

-- a time that is after now, or never, is itself
after_later : (c : Circuit) (now x : ℕ) → Later c now x → after_now now x ≡ x
after_later c now x later =
    ⊎_elim
    (λ (l : now < x). rw (lt-ltb now x l))
    (λ (l : x ≤ now). ⊎_elim (λ (z : x ≡ never). rw (le-ltb now x l) (sym z)) (λ (k : (now < x) × (x ≤ c.horizon.0)). absurd (omega (arith, k.0))) later)
    (lt_or_ge now x)

module _ (net l w h : List ℕ) (r : Run) (values_long : length r.values ≡ most_nodes) (changes_long : length r.changes ≡ most_nodes) (few : at net nodes_place ≤ most_nodes) where
  abbrev c : Circuit
  c = net_circuit net

  abbrev t : Table
  t = held l w h r.used

  abbrev n : ℕ
  n = length c.nodes

  count : n ≡ at net nodes_place
  count = nodes_length net

  values_sound : every (λ (e : ℕ). ltb e (length t) && two_valued c.letters t e) (take n r.values) ≡ entries_among c.letters t 0 1 0 r.values n
  values_sound =
      every_below (λ (e : ℕ). ltb e (length t) && two_valued c.letters t e) n r.values (omega (arith, count))
      ∙ below_ext n
      (λ i. ltb (get_or r.values i 0) (length t) && two_valued c.letters t (get_or r.values i 0))
      (λ i. entry_among c.letters t 0 1 0 (get_or r.values i 0))
      (λ i g. ap (λ (b : Bool). ltb (get_or r.values i 0) (length t) && b) (two_among c.letters t (get_or r.values i 0)))

  changes_sound : every (λ (e : ℕ). ltb e (length t) && times_legal c t r.time e) (take n r.changes) ≡ entries_among c.letters t r.time c.horizon.0 never r.changes n
  changes_sound =
      every_below (λ (e : ℕ). ltb e (length t) && times_legal c t r.time e) n r.changes (omega (arith, count))
      ∙ below_ext n
      (λ i. ltb (get_or r.changes i 0) (length t) && times_legal c t r.time (get_or r.changes i 0))
      (λ i. entry_among c.letters t r.time c.horizon.0 never (get_or r.changes i 0))
      (λ i g. ap (λ (b : Bool). ltb (get_or r.changes i 0) (length t) && b) (times_among c t r.time (get_or r.changes i 0)))

  inputs_rest_lem : inputs_rest c (node_numbers c) (take n r.changes) ≡ below n (rests_at net r.changes)
  inputs_rest_lem =
      inputs_below c n 2 (take n r.changes) (length-take-le n r.changes (omega (arith, count)))
      ∙ below_ext n
      (λ i. not (is_input c (2 + i)) || eqb (get_or (take n r.changes) i 0) never_entry)
      (rests_at net r.changes)
      (λ i g. ap₂ (λ (b : Bool) (e : ℕ). not b || eqb e never_entry) (input_at net i (omega (arith, count))) (get_or-take n r.changes i 0 g))

  -- soundness, by the loops over the node records
  pub sound_is : run_sound c t (run_of c r)
      ≡ (leb r.time c.horizon.0
      && entries_among c.letters t 0 1 0 r.values (at net nodes_place)
      && entries_among c.letters t r.time c.horizon.0 never r.changes (at net nodes_place)
      && below (at net nodes_place) (rests_at net r.changes))
  unfolding run_sound
  sound_is =
      let long : eqb (length (take n r.values)) n ≡ true = eq-eqb (length (take n r.values)) n (length-take-le n r.values (omega (arith, count))) in
      rw (long, and-true, values_sound, changes_sound, inputs_rest_lem, count)

  -- the tests one after the other
  pub sound_late : c.horizon.0 < r.time → false ≡ run_sound c t (run_of c r)
  sound_late g = sym (sound_is ∙ rw (lt-leb r.time c.horizon.0 g))

  module _ (on-time : r.time ≤ c.horizon.0) {vs : Bool} (values-are : vs ≡ entries_among c.letters t 0 1 0 r.values (at net nodes_place)) where
    soon : leb r.time c.horizon.0 ≡ true
    soon = le-leb r.time c.horizon.0 on-time

    pub sound_values : vs ≡ false → false ≡ run_sound c t (run_of c r)
    sound_values q = sym (sound_is ∙ rw (soon, ← values-are, q))

    module _ (values-pass : vs ≡ true) {cs : Bool} (changes-are : cs ≡ entries_among c.letters t r.time c.horizon.0 never r.changes (at net nodes_place)) where
      pub sound_changes : cs ≡ false → false ≡ run_sound c t (run_of c r)
      sound_changes q = sym (sound_is ∙ rw (soon, ← values-are, values-pass, ← changes-are, q))

      pub sound_inputs : cs ≡ true → {rest : Bool} → rest ≡ below (at net nodes_place) (rests_at net r.changes) → rest ≡ run_sound c t (run_of c r)
      sound_inputs q {rest} p = p ∙ sym (sound_is ∙ rw (soon, ← values-are, values-pass, ← changes-are, q))

  -- where it holds
  module _ (o : Legible c.letters l w h r.used) (sound : run_sound c t (run_of c r) ≡ true) where
    facts : RunSound c t (run_of c r)
    facts = run_record c t (run_of c r) sound

    value_first : (i : ℕ) → i < at net nodes_place → get_or (take n r.values) i 0 ≡ get_or r.values i 0
    value_first i g = get_or-take n r.values i 0 (omega (arith, count))

    change_first : (i : ℕ) → i < at net nodes_place → get_or (take n r.changes) i 0 ≡ get_or r.changes i 0
    change_first i g = get_or-take n r.changes i 0 (omega (arith, count))

    -- the entries are entries of the table
    pub value_used : (i : ℕ) → i < at net nodes_place → get_or r.values i 0 < r.used
    value_used i g = omega (arith, facts.value_within i (omega (arith, count)), value_first i g, legible_long o)

    pub change_used : (i : ℕ) → i < at net nodes_place → get_or r.changes i 0 < r.used
    change_used i g = omega (arith, facts.change_within i (omega (arith, count)), change_first i g, legible_long o)

    -- the next changes of a pattern
    abbrev numbers : ℕ → List ℕ → List ℕ
    numbers p es = map (λ (e : ℕ). number_at c.letters t e p) es

    number_of : ℕ → ℕ → ℕ
    number_of i p = number_at c.letters t (get_or r.changes i 0) p

    own : (p : ℕ) → p < patterns c.letters → soonest r.time (numbers p (take n r.changes)) ≡ least_below (at net nodes_place) (λ i. number_of i p)
    unfolding number_of
    own p g =
        soonest_at r.time (at net nodes_place) (λ i. number_of i p) (numbers p (take n r.changes))
        (length-map (take n r.changes) (λ (e : ℕ). number_at c.letters t e p) ∙ length-take-le n r.changes (omega (arith, count)) ∙ count)
        (λ i k.
        let long : length (take n r.changes) ≡ n = length-take-le n r.changes (omega (arith, count)) in
        let same : get_or (numbers p (take n r.changes)) i 0 ≡ number_of i p =
        map_at (λ (e : ℕ). number_at c.letters t e p) (take n r.changes) 0 0 i (omega (arith, count)) ∙ ap (λ (e : ℕ). number_at c.letters t e p) (change_first i k) in
        ap (after_now r.time) same
        ∙ after_later c r.time (number_of i p) (subst (λ (e : ℕ). Later c r.time (number_at c.letters t e p)) (change_first i k) (facts.change_later i (omega (arith, count)) p g)))

    put : soonest r.time (times net) ≡ scheduled_after net r.time
    put = soonest_at r.time _ _ (times net) (times_count net) (λ i k. ap (after_now r.time) (time_at net i k))

    -- the time of the next step: the least pending number, or the earliest time of the schedule
    pub time_is : min (least_among c.letters t r.changes (at net nodes_place)) (scheduled_after net r.time) ≡ time_after c (moment_held l w h (run_of c r))
    unfolding time_after next_time pattern_time state_of number_of
    time_is =
        let m : ℕ = patterns c.letters in
        let s : ℕ = scheduled_after net r.time in
        sym (least_same m
        (λ p. min (soonest r.time (numbers p (take n r.changes))) (soonest r.time (times net)))
        (λ p. min (least_below (at net nodes_place) (λ i. number_of i p)) s)
        (λ p g. ap₂ min (own p g) put)
        ∙ least_min m (λ p. least_below (at net nodes_place) (λ i. number_of i p)) (λ p. s)
        ∙ ap₂ min (least_swap (at net nodes_place) m number_of) (least_constant m s (pow_pos c.letters) (least_never _ _)))

    -- the value of a node record at a pattern
    pub value_is : (k p : ℕ) → 2 ≤ k → k < 2 + at net nodes_place → number_at c.letters t (get_or r.values (k - 2) 0) p ≡ value_at (state_of c t (run_of c r) p) k
    unfolding state_of
    value_is k p least most =
        let long : length (take n r.values) ≡ n = length-take-le n r.values (omega (arith, count)) in
        sym (value_place (state_of c t (run_of c r) p) k least
        ∙ map_at (λ (e : ℕ). number_at c.letters t e p) (take n r.values) 0 0 (k - 2) (omega (arith, count))
        ∙ ap (λ (e : ℕ). number_at c.letters t e p) (value_first (k - 2) (omega arith)))

    -- and its next change
    pub change_is : (k p : ℕ) → 2 ≤ k → k < 2 + at net nodes_place → number_at c.letters t (get_or r.changes (k - 2) 0) p ≡ change_at (state_of c t (run_of c r) p) k
    unfolding state_of
    change_is k p least most =
        let long : length (take n r.changes) ≡ n = length-take-le n r.changes (omega (arith, count)) in
        sym (change_place_lem (state_of c t (run_of c r) p) k least
        ∙ map_at (λ (e : ℕ). number_at c.letters t e p) (take n r.changes) 0 never (k - 2) (omega (arith, count))
        ∙ ap (λ (e : ℕ). number_at c.letters t e p) (change_first (k - 2) (omega arith)))
