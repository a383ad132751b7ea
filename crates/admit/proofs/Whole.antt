-- A start and a step of the cell that a flat column lays out: what judging them requires, and what they leave.
use Rattle.std.proofs.Common.{Result, Ok, Err, IfOk}
use mathlib.Core.Path.{◌≡◌, sym, ◌∙◌, ap, subst}
use mathlib.Core.Logic.{⊎_elim}
use mathlib.Core.List.{List}
use mathlib.Core.Bool.{Bool, true, false, not, cond}
use Prim.Native.Nat.{ℕ, ◌≤◌, ◌<◌}
use native.Mathlib.Omega.{arith}
use lib.ListN.{length}
use lib.Dec.{eqb}
use Rattle.refusal.specs.declared.Refusal.{Refusal}
use Rattle.refusal.specs.declared.Refusal.TheVariants.{Ceiling}
use Rattle.format.specs.Circuit.{Circuit}
use Rattle.diagram.specs.Pattern.{most_letters, patterns}
use Rattle.diagram.specs.Table.{Table, never}
use Rattle.diagram.specs.Held.{held}
use Rattle.diagram.specs.Extends.{Extends}
use Rattle.diagram.proofs.Sound.{Sound}
use Rattle.table.specs.declared.Stop.{Stop}
use Rattle.table.specs.Stop.{stopped}
use Rattle.table.proofs.Outcomes.{holds_table}
use Rattle.functions.specs.Open.{Legible, Open}
use Rattle.functions.proofs.Carry.{legible_sound, legible_long}
use Rattle.rules.specs.State.{State, change_at}
use Rattle.rules.specs.Step.{initial, started, start_exceeds, stepped, step_exceeds}
use Rattle.rules.specs.Run.{Moment, state_of, moment_of, start_moment, time_after, step_moment, start_within, step_within, start_answer, step_answer, run_sound}
use Rattle.rules.proofs.State.{Numbered, Shaped, numbers_length}
use Rattle.rules.proofs.Step.{initial_shaped}
use Rattle.rules.proofs.Moment.{States, SoundMoment, Records, run_record, legal_few, sound_states, moment_records, start_sound}
use Rattle.net.specs.Net.{letters_place, at, net_circuit}
use Rattle.net.specs.Laid.{Laid}
use Rattle.net.proofs.Laying.{nodes_length, letters_at}
use Rattle.plain.specs.Exceeded.{any_exceeded}
use Rattle.plain.specs.Settle.{change_between, started_or_exceeded, stepped_or_exceeded}
use Rattle.plain.proofs.Exceeding.{start_exceeded, start_not_exceeded, step_exceeded, step_not_exceeded}
use Rattle.record.specs.declared.Run.{Run}
use Rattle.record.specs.Record.{run_of}
use Rattle.record.specs.Numbers.{least_among}
use Rattle.record.specs.Moments.{moment_held}
use Rattle.record.specs.Leasts.{Leasts}
use Rattle.record.proofs.Leasts.{leasts_extends}
use Rattle.moment.specs.Exceeded.{start_or_exceeded, step_or_exceeded}
use Rattle.moment.specs.Next.{NextAs}
use Rattle.admit.specs.Reached.{Reached}
use Rattle.admit.specs.Judged.{crowding, Judged, Judgeable}
use Rattle.admit.proofs.Leaving.{full_reached, fits_legible, fits_changes, least_told, sound_told, fits_reached}

-- a start that was stored has a value and a next change for each node
started_or_shaped : (c : Circuit) (p : ℕ) → Shaped c (started_or_exceeded c p)
unfolding started_or_exceeded
started_or_shaped c p = record { values_long = (initial_shaped c p).values_long; changes_long = numbers_length c (change_between c 0 true (initial c p) (initial c p)) }

module _ {net l w h ix : List ℕ} {old : ℕ} (laid : Laid (net_circuit net) net) (io : Open (at net letters_place) l w h ix old) where
  abbrev c : Circuit
  c = net_circuit net

  abbrev t : Table
  t = held l w h old

  few : c.letters ≤ most_letters
  few = legal_few laid.legal

  sound : Sound c.letters t
  sound = subst (λ (m : ℕ). Sound m t) (sym (letters_at net)) (legible_sound io.legible)

  -- a start that was stored
  module _ {l₁ w₁ h₁ ix₁ : List ℕ} {stop : Stop} {r : Run} (n : NextAs (held l w h old) (start_or_exceeded (net_circuit net) (held l w h old)) l₁ w₁ h₁ ix₁ stop r) (long : length l₁ ≡ length l) where
    plain_next : NextAs t (moment_of c 0 (started_or_exceeded c) t) l₁ w₁ h₁ ix₁ stop r
    unfolding start_or_exceeded
    plain_next = n

    tells : (p : ℕ) → p < patterns c.letters → any_exceeded c (started_or_exceeded c p) ≡ start_exceeds c p
    tells p b = start_exceeded c p

    -- without room
    pub start_crowded : stopped stop ≡ true → {b : Bool} → b ≡ start_within (net_circuit net) → {why : Refusal} → why ≡ crowding b
        → Reached (held l w h old) (start_answer (net_circuit net) (length l) (held l w h old)) l₁ w₁ h₁ ix₁ (Err why)
    unfolding start_within start_moment
    start_crowded e within is = rw (is, ← long) (full_reached c 0 (started_or_exceeded c) (started c) (start_exceeds c) t few sound tells (λ p b. start_not_exceeded c p) plain_next e (ap crowding within))

    module _ (e : stopped stop ≡ false) where
      pub start_legible : Legible (at net letters_place) l₁ w₁ h₁ r.used
      start_legible = subst (λ (k : ℕ). Legible k l₁ w₁ h₁ r.used) (letters_at net) (fits_legible c 0 (started_or_exceeded c) (started c) (start_exceeds c) t few sound tells (λ p b. start_not_exceeded c p) plain_next e)

      -- with room: the run is sound exactly if no walk exceeds
      pub start_reached : {b : Bool} → b ≡ run_sound (net_circuit net) (held l₁ w₁ h₁ r.used) (run_of (net_circuit net) r) → {result : Result Run Refusal} → result ≡ cond b (Ok r) (Err Ceiling)
          → Reached (held l w h old) (start_answer (net_circuit net) (length l) (held l w h old)) l₁ w₁ h₁ ix₁ result
      unfolding start_within start_moment
      start_reached is x =
          rw (← long)
          (fits_reached c 0 (started_or_exceeded c) (started c) (start_exceeds c) t few sound tells (λ p b. start_not_exceeded c p) plain_next e
          (sound_told c 0 (started_or_exceeded c) (started c) (start_exceeds c) t few sound tells (λ p b. start_not_exceeded c p) plain_next e (λ p b. started_or_shaped c p) whole is) x)
        where
          whole : SoundMoment c (moment_of c 0 (started c) t)
          whole = start_sound laid.legal sound

-- a step that was stored
module _ {net l w h ix : List ℕ} (r : Run) (laid : Laid (net_circuit net) net) (io : Open (at net letters_place) l w h ix r.used)
    (rs : run_sound (net_circuit net) (held l w h r.used) (run_of (net_circuit net) r) ≡ true) where
  abbrev d : Circuit
  d = net_circuit net

  abbrev v : Table
  v = held l w h r.used

  abbrev m : Moment
  m = moment_held l w h (run_of d r)

  abbrev time : ℕ
  time = time_after d m

  abbrev state : ℕ → State
  state = state_of d v (run_of d r)

  states : States d r.time state
  states = sound_states (few laid io) (sound laid io) (run_record d v (run_of d r) rs)

  -- no pending change is 0
  later : (p : ℕ) → p < patterns d.letters → (n : ℕ) → Numbered d n → 0 < change_at (state p) n
  later p b n k =
      ⊎_elim
      (λ (e : change_at (state p) n ≡ never). omega (arith, e))
      (λ (q : (r.time < change_at (state p) n) × (change_at (state p) n ≤ d.horizon.0)). omega (arith, q.0))
      ((states.pending p b).later n k)

  step_tells : (p : ℕ) → p < patterns d.letters → any_exceeded d (stepped_or_exceeded d time p (state p)) ≡ step_exceeds d time p (state p)
  step_tells p b = step_exceeded d time p (state p) (later p b)

  module _ {l₁ w₁ h₁ ix₁ : List ℕ} {stop : Stop} {x : Run} (n : NextAs (held l w h r.used) (step_or_exceeded (net_circuit net) (moment_held l w h (run_of (net_circuit net) r))) l₁ w₁ h₁ ix₁ stop x) (long : length l₁ ≡ length l) where
    step_next : NextAs v (moment_of d time (λ p. stepped_or_exceeded d time p (state p)) v) l₁ w₁ h₁ ix₁ stop x
    unfolding step_or_exceeded
    step_next = n

    -- the run and its table still stand in the columns
    still : held l₁ w₁ h₁ r.used ≡ v
    still = subst (λ (k : ℕ). held l₁ w₁ h₁ k ≡ v) (legible_long io.legible) n.kept.table

    pub still_legible : Legible (at net letters_place) l₁ w₁ h₁ r.used
    still_legible = record {
      few = io.legible.few;
      low_long = n.kept.low_long;
      high_long = n.kept.high_long;
      fits = omega (arith, n.kept.fits, legible_long io.legible);
      sound = rw still io.legible.sound;
    }

    pub still_sound : run_sound (net_circuit net) (held l₁ w₁ h₁ r.used) (run_of (net_circuit net) r) ≡ true
    still_sound = rw still rs

    pub still_time : {at-time : ℕ} → at-time ≡ time_after (net_circuit net) (moment_held l w h (run_of (net_circuit net) r)) → at-time ≡ time_after (net_circuit net) (moment_held l₁ w₁ h₁ (run_of (net_circuit net) r))
    still_time e = e ∙ ap (λ (u : Table). time_after d (record { run = run_of d r; table = u })) (sym still)

    pub still_within : {b : Bool} → b ≡ step_within (net_circuit net) (moment_held l₁ w₁ h₁ (run_of (net_circuit net) r)) → b ≡ step_within (net_circuit net) (moment_held l w h (run_of (net_circuit net) r))
    still_within e = e ∙ ap (λ (u : Table). step_within d (record { run = run_of d r; table = u })) still

    -- without room
    pub step_crowded : stopped stop ≡ true → {b : Bool} → b ≡ step_within (net_circuit net) (moment_held l w h (run_of (net_circuit net) r)) → {why : Refusal} → why ≡ crowding b
        → Reached (held l w h r.used) (step_answer (net_circuit net) (length l) (moment_held l w h (run_of (net_circuit net) r))) l₁ w₁ h₁ ix₁ (Err why)
    unfolding step_within step_moment
    step_crowded e within is =
        rw (is, ← long)
        (full_reached d time (λ p. stepped_or_exceeded d time p (state p)) (λ p. stepped d time p (state p)) (λ p. step_exceeds d time p (state p)) v (few laid io) (sound laid io) step_tells (λ p b. step_not_exceeded d time p (state p)) step_next e (ap crowding within))

    module _ (e : stopped stop ≡ false) where
      pub step_legible : Legible (at net letters_place) l₁ w₁ h₁ x.used
      step_legible =
          subst (λ (k : ℕ). Legible k l₁ w₁ h₁ x.used) (letters_at net)
          (fits_legible d time (λ p. stepped_or_exceeded d time p (state p)) (λ p. stepped d time p (state p)) (λ p. step_exceeds d time p (state p)) v (few laid io) (sound laid io) step_tells (λ p b. step_not_exceeded d time p (state p)) step_next e)

      records : Records d (λ p. stepped_or_exceeded d time p (state p)) v (moment_of d time (λ p. stepped_or_exceeded d time p (state p)) v)
      records = moment_records d time (λ p. stepped_or_exceeded d time p (state p)) v (few laid io) (sound laid io)

      extends : Extends v (held l₁ w₁ h₁ x.used)
      extends = rw (holds_table (step_next.holds e)) records.extends

      pub step_judgeable : {least : List ℕ} → length l ≤ length least → Leasts (at net letters_place) (held l w h r.used) r.used least → Judgeable net l₁ w₁ h₁ x least r.used
      step_judgeable {least} wide g = record {
        changes = λ i k. fits_changes d time (λ p. stepped_or_exceeded d time p (state p)) (λ p. stepped d time p (state p)) (λ p. step_exceeds d time p (state p)) v (few laid io) (sound laid io) step_tells (λ p b. step_not_exceeded d time p (state p)) step_next e i (omega (arith, nodes_length net));
        first = omega (arith, extends.longer, legible_long io.legible, legible_long step_legible);
        room = omega (arith, step_legible.fits, long);
        leasts = leasts_extends g io.legible.few (legible_sound io.legible) extends (omega (arith, legible_long io.legible));
      }

      -- with room: the least of the next changes is not 0 exactly if no walk exceeds
      pub step_reached : {least least' : List ℕ} {b : Bool} → Judged net l₁ w₁ h₁ x least least' b → {result : Result Run Refusal} → result ≡ cond b (Ok x) (Err Ceiling)
          → Reached (held l w h r.used) (step_answer (net_circuit net) (length l) (moment_held l w h (run_of (net_circuit net) r))) l₁ w₁ h₁ ix₁ result
      unfolding step_within step_moment
      step_reached {b = b} j z =
          let is : b ≡ not (eqb (least_among d.letters (held l₁ w₁ h₁ x.used) x.changes (length d.nodes)) 0) = rw (letters_at net, nodes_length net) j.is in
          rw (← long)
          (fits_reached d time (λ p. stepped_or_exceeded d time p (state p)) (λ p. stepped d time p (state p)) (λ p. step_exceeds d time p (state p)) v (few laid io) (sound laid io) step_tells (λ p b. step_not_exceeded d time p (state p)) step_next e
          (least_told d time (λ p. stepped_or_exceeded d time p (state p)) (λ p. stepped d time p (state p)) (λ p. step_exceeds d time p (state p)) v (few laid io) (sound laid io) step_tells (λ p b. step_not_exceeded d time p (state p)) step_next e is) z)

      -- and the column of least numbers is whole
      pub step_leasts : {least least' : List ℕ} {b : Bool} {result : Result Run Refusal} → Judged net l₁ w₁ h₁ x least least' b → result ≡ cond b (Ok x) (Err Ceiling)
          → IfOk result (λ (run : Run). Leasts (at net letters_place) (held l₁ w₁ h₁ run.used) run.used least')
      step_leasts {least' = least'} {b} j is = rw is (by b)
        where
          by : (b : Bool) → IfOk (cond {A = Result Run Refusal} b (Ok x) (Err Ceiling)) (λ (run : Run). Leasts (at net letters_place) (held l₁ w₁ h₁ run.used) run.used least')
          by true = j.leasts
          by false = tt
