-- Calls by the rules for one pattern: what demand 2 says without letters, for every interface that keeps its laws.
use mathlib.Core.Path.{◌≡◌, refl, sym, ◌∙◌, ap, subst}
use mathlib.Core.Logic.{◌⊎◌, inl, inr, ⊎_elim}
use mathlib.Core.Bool.{true}
use mathlib.Core.List.{List}
use Prim.Native.Nat.{ℕ, zero, suc, ◌+◌, ◌≤◌, ◌<◌}
use native.Mathlib.Omega.{arith}
use lib.ListN.{length}
use Rattle.refusal.specs.Answer.{answered}
use Rattle.lists.proofs.Cases.{and_left}
use Rattle.format.specs.Circuit.{Circuit, first_node_number}
use Rattle.format.specs.Fixing.{free, Fixing, fixed, without_letters}
use Rattle.format.proofs.Fixing.{fully_fixed_without_letters}
use Rattle.diagram.specs.Pattern.{patterns}
use Rattle.diagram.specs.Table.{never}
use Rattle.diagram.specs.Store.{fresh}
use Rattle.diagram.specs.Call.{Columns, table_of, columns_of, columns_sound}
use Rattle.diagram.proofs.Calls.{fresh_sound}
use Rattle.diagram.proofs.Columns.{Lengths, lengths_record, columns_record, columns_table, table_length_lem}
use Rattle.rules.specs.State.{State, value_at, change_at}
use Rattle.rules.specs.Run.{Moment, run_sound, start_moment, time_after, step_moment}
use Rattle.rules.specs.Call.{moment_given, sound_together}
use Rattle.rules.proofs.Readable.{given_sound, held_sound_lem, held_lengths}
use Rattle.rules.proofs.Admitted.{Admitted}
use Rattle.rules.proofs.RunSteps.{Rests, Steps, Takes, steps_time}
use Rattle.commute.specs.Interface.{Held, Interface}
use Rattle.commute.specs.Lists.{Call, step, in_place, up_to, Made, After, Reached}
use Rattle.commute.specs.Demand.{fixed_pattern, time_held, Stands}
use Rattle.commute.specs.Alone.{Alone, own_time, start_alone, steps_alone, SoundHeld, held_alone, Tells, QuestionsTellTheState, StartsByTheRules, EachPatternByTheRules, Alike, StepsTo, NoneLeft, ByTheRules, WithoutLettersByTheRules, NoLettersByTheRules, FullyFixedByTheRules}
use Rattle.commute.proofs.Fixed.{fixed_alike, pattern_lt}
use Rattle.commute.proofs.Trace.{Ground, Trace, begun, stepped, trace_ground, steps_trace, step_answered, run_answered, started_ground}
use Rattle.commute.proofs.Together.{fixed_letters, state_at}
use Rattle.commute.proofs.Lawful.{answer_of, Lawful}
use Rattle.commute.proofs.Keeps.{Keeps, keeps_given, keeps_time, keeps_tells, call_answered, calls_keep}
use Rattle.commute.proofs.Begun.{start_keeps, reached_stands}
use Rattle.commute.proofs.Order.{same_state}
use Rattle.commute.proofs.Alone.{alone_at, start_alone_lem, reads_alone, steps_fixed, AlikeAt, plain_start, plain_time, plain_step, plain_steps, none_plain, none_alike}

module _ {Source R : Type 0} {K : Interface Source R} (L : Lawful K) (s : Source) (c : Circuit) (cell : K.cell s ≡ answered c) where
  -- a sound run that is held is one that a run can set out from
  pub held_keeps : {h : Held R} → SoundHeld K c h
      → Ground c (length h.table.letter) (moment_given h.table (K.stated c h.run)) × Keeps K c (length h.table.letter) h (moment_given h.table (K.stated c h.run))
  held_keeps {h} x =
      let r = K.stated c h.run in
      let l : Lengths h.table = lengths_record h.table x.lengths in
      let sound = columns_record c.letters h.table r.used (and_left (columns_sound c.letters h.table r.used) (run_sound c (table_of h.table r.used) r) x.together) in (
        record {
          legal = L.legal s c cell;
          least = l.least;
          most = l.most;
          sound = given_sound c h.table r x.lengths x.together;
          fits = omega (arith, sound.fits, table_length_lem h.table l.low_long l.high_long r.used sound.fits);
        },
        record { table = sym (columns_table h.table r.used l sound); run = refl; sized = x.sized },
      )

  module _ {size : ℕ} {m : Moment} (g : Ground c size m) {h : Held R} (k : Keeps K c size h m) where
    -- and what holds a moment is sound
    pub keeps_sound : SoundHeld K c h
    keeps_sound = record {
      sized = k.sized;
      lengths = rw k.table (held_lengths g.sound size g.fits g.least g.most);
      together = rw (k.table, k.run) (held_sound_lem g.sound size g.fits);
    }

    -- for each pattern what the moment holds
    pub keeps_alone : (p : ℕ) → held_alone K c h p ≡ alone_at c m p
    keeps_alone p = ap (λ (x : Moment). alone_at c x p) (keeps_given L s c cell g k)

    pub alike_at : Alike K c h → AlikeAt c m
    alike_at a p q hp hq = sym (keeps_alone p) ∙ a p q hp hq ∙ keeps_alone q

    pub at_alike : AlikeAt c m → Alike K c h
    at_alike a p q hp hq = keeps_alone p ∙ a p q hp hq ∙ sym (keeps_alone q)

    -- steps of the moment are steps of what is held
    pub steps_held : {m' : Moment} → Ground c size m' → {h' : Held R} → Keeps K c size h' m' → (n : ℕ)
        → ((p : ℕ) → p < patterns c.letters → alone_at c m' p ≡ steps_alone c p (alone_at c m p) n) → StepsTo K c n h h'
    steps_held g' k' n e p hp =
        ap (λ (x : Moment). alone_at c x p) (keeps_given L s c cell g' k') ∙ e p hp ∙ ap (λ (a : Alone). steps_alone c p a n) (sym (keeps_alone p))

-- the question tells what is held
pub questions_tell : {Source R : Type 0} {K : Interface Source R} → Lawful K → QuestionsTellTheState K
unfolding QuestionsTellTheState
questions_tell {K = K} L s c cell h sound p hp =
    let x = held_keeps L s c cell sound in
    keeps_tells L s c cell x.0 x.1 p hp

-- an answered start holds the start of each pattern
pub starts_by_the_rules : {Source R : Type 0} {K : Interface Source R} → Lawful K → StartsByTheRules K
unfolding StartsByTheRules
starts_by_the_rules L s c cell used h h' working working' start =
    let x = start_keeps L s c cell used start in
    let g = started_ground (L.legal s c cell) h.table used x.0 x.1 in
    (keeps_sound L s c cell g x.2, λ p hp. keeps_alone L s c cell g x.2 p ∙ start_alone_lem (L.legal s c cell) x.1.sound p hp)

-- each pattern holds the last moment of its own run that is not later
pub each_pattern_by_the_rules : {Source R : Type 0} {K : Interface Source R} → Lawful K → EachPatternByTheRules K
unfolding EachPatternByTheRules
each_pattern_by_the_rules {K = K} L s c cell h last sound calls after =
    let x = held_keeps L s c cell sound in
    let y = calls_keep L s c cell x.0 x.1 after in
    let g = trace_ground x.0 y.1 in (
      keeps_sound L s c cell g y.2,
      λ p hp.
          let z = reads_alone x.0 y.1 p hp in
          let time = keeps_time L s c cell g y.2 in (
            z.0,
            ap (λ (a : Alone). a.state) (keeps_alone L s c cell g y.2 p) ∙ z.1.state,
            rw time z.1.behind,
            rw time z.1.last,
          ),
    )

module _ {Source R : Type 0} {K : Interface Source R} (L : Lawful K) (s : Source) (c : Circuit) (cell : K.cell s ≡ answered c) (plain : without_letters c ≡ true) where
  module _ {h : Held R} (sound : SoundHeld K c h) (alike : Alike K c h) where
    abbrev size : ℕ
    size = length h.table.letter

    abbrev m : Moment
    m = moment_given h.table (K.stated c h.run)

    ground : Ground c size m
    ground = (held_keeps L s c cell sound).0

    held : Keeps K c size h m
    held = (held_keeps L s c cell sound).1

    alikes : AlikeAt c m
    alikes = alike_at L s c cell ground held alike

    -- one step
    plain_one : {h' : Held R} → Keeps K c size h' (step_moment c m) → time_after c m < never → Admitted c size m → StepsTo K c 1 h h'
    unfolding steps_alone
    plain_one k' more a =
        steps_held L s c cell ground held (trace_ground ground (stepped begun more a)) k' 1
        (λ p hp. plain_step c (L.legal s c cell) plain ground.sound alikes p hp)

    -- an answered step, in place or not
    pub plain_call : (call : Call) (working : Columns) → ((table : Columns) (r : _) → answer_of c table r call ≡ answer_of c table r (step working))
        → (h' : Held R) → Made K s call h h' 0 → StepsTo K c 1 h h'
    plain_call call working same h' made =
        let x = call_answered L s c cell ground held call made in
        let y = step_answered ground working x.0 (sym (same (columns_of size m.table) m.run) ∙ x.1) in
        plain_one (subst (Keeps K c size h') y.2 x.2) y.0 y.1

    -- no step is left where none is left of the moment
    none_left : (until : ℕ) {h' : Held R} {m' : Moment} → Ground c size m' → Keeps K c size h' m' → AlikeAt c m' → Rests c until m' → NoneLeft K c until h'
    none_left until {h'} {m'} g' k' a' rests p hp =
        let e : own_time c (held_alone K c h' p) ≡ time_after c m' = ap (own_time c) (keeps_alone L s c cell g' k' p) ∙ sym (plain_time c (L.legal s c cell) plain g'.sound a' p hp) in
        subst (λ (t : ℕ). (t ≡ never) ⊎ (until < t)) (sym e) rests

    -- an answered run up to a picosecond
    pub plain_run : (until : ℕ) (working working' : Columns) {h' : Held R} → K.UpTo s until h h' working working' 0
        → (n : ℕ) × StepsTo K c n h h' × NoneLeft K c until h' × ((n ≡ 0) ⊎ (time_held K c h' ≤ until))
    unfolding steps_alone
    plain_run until working working' {h'} made =
        let x = call_answered L s c cell ground held (up_to until working) (working', made) in
        let y = run_answered ground until working x.0 x.1 in
        let t : Trace c size m x.0 = steps_trace y.0 begun in
        let g' : Ground c size x.0 = trace_ground ground t in
        let z = plain_steps c (L.legal s c cell) plain ground alikes t in
        let rest : NoneLeft K c until h' = none_left until g' x.2 z.0 y.1 in
        ⊎_elim
        (λ (e : x.0 ≡ m). (0, steps_held L s c cell ground held g' x.2 0 (λ p hp. ap (λ (k : Moment). alone_at c k p) e), rest, inl refl))
        (λ (l : (last : Moment) × Steps c until size m last × Takes c until last × (x.0.run.time ≡ time_after c last)). (
          z.1,
          steps_held L s c cell ground held g' x.2 z.1 z.2,
          rest,
          inr (omega (arith, keeps_time L s c cell g' x.2, l.3, l.2.reach)),
        ))
        (steps_time c until size y.0)

    -- any list
    pub plain_list : {last : Held R} {list : List Call} → After K s h list last → Alike K c last × (n : ℕ) × StepsTo K c n h last
    plain_list after =
        let y = calls_keep L s c cell ground held after in
        let g' = trace_ground ground y.1 in
        let z = plain_steps c (L.legal s c cell) plain ground alikes y.1 in
        (at_alike L s c cell g' y.2 z.0, z.1, steps_held L s c cell ground held g' y.2 z.1 z.2)

  -- all of it
  pub plain_rules : ByTheRules K s c
  plain_rules = record {
    start = λ used h h' working working' start.
        let x = start_keeps L s c cell used start in
        at_alike L s c cell (started_ground (L.legal s c cell) h.table used x.0 x.1) x.2 (plain_start c (L.legal s c cell) plain x.1.sound);
    step = λ h h' sound alike working working' made. plain_call sound alike (step working) working (λ table r. refl) h' (working', made);
    in_place_lem = λ h h' sound alike working working' made. plain_call sound alike (in_place working) working (λ table r. refl) h' (working', made);
    up_to_lem = λ h h' sound alike until working working' made. plain_run sound alike until working working' made;
    calls = λ h last sound alike list after. plain_list sound alike after;
  }

pub without_letters_by_the_rules : {Source R : Type 0} {K : Interface Source R} → Lawful K → WithoutLettersByTheRules K
unfolding WithoutLettersByTheRules
without_letters_by_the_rules L s c cell plain = plain_rules L s c cell plain

pub no_letters_by_the_rules : {Source R : Type 0} {K : Interface Source R} → Lawful K → NoLettersByTheRules K
unfolding NoLettersByTheRules
no_letters_by_the_rules {K = K} L s c cell none = (none_plain c (L.legal s c cell) none, λ h. none_alike c none (moment_given h.table (K.stated c h.run)))

-- every letter fixed
pub fully_fixed_by_the_rules : {Source R : Type 0} {K : Interface Source R} → Lawful K → FullyFixedByTheRules K
unfolding FullyFixedByTheRules
fully_fixed_by_the_rules {K = K} L s fixed-one c φ cell cell' full size first second reached again p stands there =
    let d : Circuit = fixed φ c in
    let legal = L.legal s c cell in
    let dlegal = L.legal fixed-one d cell' in
    let x = reached_stands L s c cell reached stands in
    let x' = reached_stands L fixed-one d cell' again there in
    let at = x.1 in
    let at' = x'.1 in
    let g = trace_ground at.ground at.trace in
    let g' = trace_ground at'.ground at'.trace in
    let plain = fully_fixed_without_letters φ c legal full in
    let z = plain_steps d dlegal plain at'.ground (plain_start d dlegal plain (fresh_sound d.letters)) at'.trace in (
      z.1,
      λ q hq.
          let hq' : q < patterns d.letters = rw (fixed_letters φ c) hq in
          let r : ℕ = fixed_pattern φ c.letters q in
          let hr : r < patterns c.letters = pattern_lt φ c.letters c.letters q (omega arith) hq in
          let e : alone_at d x'.0 q ≡ steps_alone c r (start_alone c r) z.1 =
          z.2 q hq' ∙ ap (λ (a : Alone). steps_alone d q a z.1) (start_alone_lem dlegal (fresh_sound d.letters) q hq') ∙ steps_fixed c legal φ q z.1 in
          let state : state_at d x'.0 q ≡ (steps_alone c r (start_alone c r) z.1).state = ap (λ (a : Alone). a.state) e in
          let nodes : length d.nodes ≡ length c.nodes = (fixed_alike φ c).wired.count_same in (
            sym (ap (λ (a : Alone). a.time) e) ∙ sym (keeps_time L fixed-one d cell' g' x'.2),
            λ n hn number value change asked.
                subst (λ (st : State). (number ≡ 0) × (value ≡ value_at st n) × (change ≡ change_at st n)) state
                (keeps_tells L fixed-one d cell' g' x'.2 q hq' n (omega arith) number value change asked),
            subst (Tells K s c first r) (sym (same_state φ c at at' q hq) ∙ state)
                (keeps_tells L s c cell g x.2 r hr),
          ),
    )
