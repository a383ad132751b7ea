-- The entries from which a step and a start make the next changes: what a call of `changes` requires, and that its functions are the definitions'.
use mathlib.Core.Path.{◌≡◌, refl, sym, ◌∙◌, ap}
use mathlib.Core.List.{List}
use mathlib.Core.Bool.{true, false}
use Prim.Native.Nat.{ℕ, ◌-◌, ◌≤◌, ◌<◌}
use native.Mathlib.Omega.{arith}
use lib.ListN.{length, get_or, take, replicate, get_or-replicate}
use lib.Seq.{get_or-take}
use Rattle.format.specs.Circuit.{Circuit}
use Rattle.lists.proofs.Map.{map_at}
use Rattle.diagram.specs.Pattern.{most_letters, patterns}
use Rattle.diagram.specs.Table.{Table, never, number_at}
use Rattle.diagram.specs.Held.{held}
use Rattle.diagram.proofs.Sound.{Sound}
use Rattle.diagram.specs.Extends.{Extends}
use Rattle.diagram.proofs.Number.{number_at_extends, number_second}
use Rattle.table.specs.declared.Stop.{Stop}
use Rattle.table.specs.Stop.{stopped}
use Rattle.rules.specs.State.{State, value_at, change_at}
use Rattle.rules.specs.Step.{initial}
use Rattle.rules.specs.Run.{state_of}
use Rattle.rules.proofs.State.{Numbered, value_place, change_place_lem}
use Rattle.rules.proofs.Arrive.{arrived_bits}
use Rattle.rules.proofs.Step.{initial_change, initial_bits}
use Rattle.rules.proofs.Moment.{States, RunSound, sound_states, stored_values}
use Rattle.plain.specs.Settle.{started_or_exceeded, stepped_or_exceeded}
use Rattle.record.specs.declared.Run.{Run}
use Rattle.record.specs.Record.{run_of}
use Rattle.record.specs.Leasts.{Leasts}
use Rattle.record.proofs.Leasts.{leasts_less, leasts_same, leasts_three}
use Rattle.values.specs.All.{OutcomeAll}
use Rattle.stir.specs.Pending.{PendingEntries, PendingLeasts}
use Rattle.marked.specs.Changes.{change_of, ValueEntries}
use Rattle.moment.specs.ByNode.{ByNode}
use Rattle.moment.proofs.Alike.{started_exceeded_value, stepped_exceeded_value}
use Rattle.moment.proofs.Storing.{Numbering, placed_numbering, placed_within, values_placed, changes_placed, step_change, start_change}
use Rattle.moment.proofs.Moments.{mid_sound, mid_extends, mid_long, mid_within, mid_number}

-- the entries of a sound run in an extension of its table
module _ (c : Circuit) (few : c.letters ≤ most_letters) (t : Table) (s : Sound c.letters t) (r : Run) (rs : RunSound c t (run_of c r)) (u : Table) (x : Extends t u) where
  abbrev count : ℕ
  count = length c.nodes

  value_first : (i : ℕ) → i < count → get_or (take count r.values) i 0 ≡ get_or r.values i 0
  value_first i h = get_or-take count r.values i 0 h

  change_first : (i : ℕ) → i < count → get_or (take count r.changes) i 0 ≡ get_or r.changes i 0
  change_first i h = get_or-take count r.changes i 0 h

  value_old : (i : ℕ) → i < count → get_or r.values i 0 < length t
  value_old i h = rw (← value_first i h) (rs.value_within i h)

  change_old : (i : ℕ) → i < count → get_or r.changes i 0 < length t
  change_old i h = rw (← change_first i h) (rs.change_within i h)

  value_in : (i : ℕ) → i < count → get_or r.values i 0 < length u
  value_in i h = omega (arith, value_old i h, x.longer)

  change_in : (i : ℕ) → i < count → get_or r.changes i 0 < length u
  change_in i h = omega (arith, change_old i h, x.longer)

  value_number : (m : ℕ) → Numbered c m → (p : ℕ) → p < patterns c.letters → number_at c.letters u (get_or r.values (m - 2) 0) p ≡ value_at (state_of c t (run_of c r) p) m
  unfolding state_of
  value_number m h p l =
      let i : m - 2 < count = omega (arith, h.least, h.most) in
      let long : length (take count r.values) ≡ count = rs.values_long in
      number_at_extends (get_or r.values (m - 2) 0) p few s x (value_old (m - 2) i)
      ∙ ap (λ (e : ℕ). number_at c.letters t e p) (sym (value_first (m - 2) i))
      ∙ sym (map_at (λ (e : ℕ). number_at c.letters t e p) (take count r.values) 0 0 (m - 2) (omega arith))
      ∙ sym (value_place (state_of c t (run_of c r) p) m h.least)

  change_number : (m : ℕ) → Numbered c m → (p : ℕ) → p < patterns c.letters → number_at c.letters u (get_or r.changes (m - 2) 0) p ≡ change_at (state_of c t (run_of c r) p) m
  unfolding state_of
  change_number m h p l =
      let i : m - 2 < count = omega (arith, h.least, h.most) in
      let long : length (take count r.changes) ≡ count = rs.changes_long in
      number_at_extends (get_or r.changes (m - 2) 0) p few s x (change_old (m - 2) i)
      ∙ ap (λ (e : ℕ). number_at c.letters t e p) (sym (change_first (m - 2) i))
      ∙ sym (map_at (λ (e : ℕ). number_at c.letters t e p) (take count r.changes) 0 never (m - 2) (omega arith))
      ∙ sym (change_place_lem (state_of c t (run_of c r) p) m h.least)

-- the states after a step of a run
abbrev pub after : Circuit → ℕ → Table → Run → ℕ → State
after c time t r p = stepped_or_exceeded c time p (state_of c t (run_of c r) p)

module _ (c : Circuit) (nodes : length c.nodes ≤ 24) (few : c.letters ≤ most_letters) (t : Table) (s : Sound c.letters t) {l w h ix : List ℕ} {stop : Stop} {used : ℕ} {entries : List ℕ} where
  -- a step
  module _ (r : Run) (rs : RunSound c t (run_of c r)) (time : ℕ) (o : OutcomeAll t (stored_values c (after c time t r) t) l w h ix stop used entries) (fits : stopped stop ≡ false)
      {ob oa op : List ℕ} (b : ByNode 0 1 r.values (length c.nodes) ob) (a : ByNode 0 1 entries (length c.nodes) oa) (g : ByNode 2 2 r.changes (length c.nodes) op) where
    abbrev u : Table
    u = held l w h used

    states : States c r.time (state_of c t (run_of c r))
    states = sound_states few s rs

    su : Sound c.letters u
    su = mid_sound c time (after c time t r) t few s o fits

    xu : Extends t u
    xu = mid_extends c time (after c time t r) t few s o fits

    lu : length u ≡ used
    lu = mid_long c time (after c time t r) t few s o fits

    befores : Numbering c u (λ p m. value_at (state_of c t (run_of c r) p) m) ob
    befores = placed_numbering c b u (λ p m. value_at (state_of c t (run_of c r) p) m) (value_number c few t s r rs u xu)

    afters : Numbering c u (λ p m. value_at (after c time t r p) m) oa
    afters = placed_numbering c a u (λ p m. value_at (after c time t r p) m) (mid_number c time (after c time t r) t few s o fits)

    pendings : Numbering c u (λ p m. change_at (state_of c t (run_of c r) p) m) op
    pendings = placed_numbering c g u (λ p m. change_at (state_of c t (run_of c r) p) m) (change_number c few t s r rs u xu)

    pub step_entries : ValueEntries c.letters (held l w h used) used ob × ValueEntries c.letters (held l w h used) used oa × PendingEntries used op
    step_entries = (
      rw lu at (values_placed c u su few _ b (value_in c few t s r rs u xu) befores (λ m k p i. (states.bits p i).bit m k)),
      rw lu at (values_placed c u su few _ a (mid_within c time (after c time t r) t few s o fits) afters (λ m k p i. rw (stepped_exceeded_value c time p (state_of c t (run_of c r) p) m) ((arrived_bits c time p (state_of c t (run_of c r) p) (states.bits p i)).bit m k))),
      rw lu at (changes_placed c u su g (change_in c few t s r rs u xu)),
    )

    -- the least numbers of the run's table are those of its next changes
    pub step_leasts : {least : List ℕ} → Leasts c.letters t (length t) least → PendingLeasts c.letters (held l w h used) op least
    step_leasts z j i =
        let small : get_or op j 0 < length t = placed_within c g (length t) (omega (arith, s.three)) (omega (arith, s.three)) (change_old c few t s r rs u xu) j in
        leasts_same (leasts_less z (omega arith)) (λ e p k. number_at_extends e p few s xu (omega arith))

    pub step_functions : (n : ℕ) → Numbered c n → (p : ℕ) → p < patterns c.letters → change_of c time false c.letters (held l w h used) ob oa op n p ≡ change_at (after c time t r p) n
    step_functions =
        step_change c u ob oa op nodes b.long a.long time r.time (state_of c t (run_of c r)) states.shaped states.pending befores
        (record { number = λ m k p i. afters.number m k p i ∙ stepped_exceeded_value c time p (state_of c t (run_of c r) p) m })
        pendings

  -- a start
  module _ (o : OutcomeAll t (stored_values c (started_or_exceeded c) t) l w h ix stop used entries) (fits : stopped stop ≡ false) {oa : List ℕ} (a : ByNode 0 1 entries (length c.nodes) oa) where
    abbrev v : Table
    v = held l w h used

    first_sound : Sound c.letters v
    first_sound = mid_sound c 0 (started_or_exceeded c) t few s o fits

    first_long : length v ≡ used
    first_long = mid_long c 0 (started_or_exceeded c) t few s o fits

    firsts : Numbering c v (λ p m. value_at (started_or_exceeded c p) m) oa
    firsts = placed_numbering c a v (λ p m. value_at (started_or_exceeded c p) m) (mid_number c 0 (started_or_exceeded c) t few s o fits)

    initials : Numbering c v (λ p m. value_at (initial c p) m) oa
    initials = record { number = λ m k p i. firsts.number m k p i ∙ started_exceeded_value c p m }

    nothing : (j : ℕ) → j < 26 → ◌≡◌ {A = ℕ} (get_or (replicate 26 2) j 0) 2
    nothing j h = get_or-replicate 26 j 2 0 h

    nones : Numbering c v (λ p m. change_at (initial c p) m) (replicate 26 2)
    nones = record {
      number = λ m k p i. ap (λ (e : ℕ). number_at c.letters v e p) (nothing m (omega (arith, k.most))) ∙ number_second v p few first_sound ∙ sym (initial_change c p m k);
    }

    pub start_entries : ValueEntries c.letters (held l w h used) used oa × ValueEntries c.letters (held l w h used) used oa × PendingEntries used (replicate 26 2)
    start_entries =
        let both : ValueEntries c.letters v (length v) oa = values_placed c v first_sound few _ a (mid_within c 0 (started_or_exceeded c) t few s o fits) firsts (λ m k p i. rw (started_exceeded_value c p m) ((initial_bits c p).bit m k)) in
        let e : PendingEntries (length v) (replicate 26 2) = record { long = refl; within = λ j i. omega (arith, nothing j i, first_sound.three) } in
        (rw first_long at both, rw first_long at both, rw first_long at e)

    -- the first three entries are 0, 1 and never at every pattern
    pub start_leasts : {least : List ℕ} → length least ≡ 3 → get_or least 0 0 ≡ 0 → get_or least 1 0 ≡ 1 → get_or least 2 0 ≡ never
        → PendingLeasts c.letters (held l w h used) (replicate 26 2) least
    start_leasts long ground supply rest j i = leasts_less (leasts_three few first_sound _ (omega arith) ground supply rest) (omega (arith, nothing j i))

    pub start_functions : (n : ℕ) → Numbered c n → (p : ℕ) → p < patterns c.letters
        → change_of c 0 true c.letters (held l w h used) oa oa (replicate 26 2) n p ≡ change_at (started_or_exceeded c p) n
    start_functions = start_change c v oa oa (replicate 26 2) nodes a.long a.long initials initials nones
