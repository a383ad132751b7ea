-- What a start or a step leaves, by what was stored.
use Rattle.std.proofs.Common.{Result, Ok, Err}
use mathlib.Core.Path.{◌≡◌, refl, sym, ◌∙◌, ap, ap₂}
use mathlib.Core.Logic.{⊎_elim}
use mathlib.Core.List.{List}
use mathlib.Core.Bool.{Bool, true, false, not, cond}
use Prim.Native.Nat.{ℕ, ◌≤◌, ◌<◌}
use native.Mathlib.Omega.{arith}
use lib.ListN.{length, get_or}
use lib.Dec.{ltb, eqb}
use borrow.Author.Tests.{ltb-true, ltb-false}
use Rattle.refusal.specs.declared.Refusal.{Refusal}
use Rattle.refusal.specs.declared.Refusal.TheVariants.{Ceiling}
use Rattle.refusal.specs.Answer.{Answer, answered, check, result_of}
use Rattle.lists.specs.Tests.{below}
use Rattle.lists.proofs.Cases.{bool_cases, true_false}
use Rattle.lists.proofs.Padded.{padded_read}
use Rattle.format.specs.Circuit.{Circuit}
use Rattle.format.specs.Legal.{most_nodes}
use Rattle.diagram.specs.Pattern.{most_letters, patterns}
use Rattle.diagram.specs.Table.{Table}
use Rattle.diagram.specs.Held.{held}
use Rattle.diagram.proofs.Sound.{Sound}
use Rattle.table.specs.declared.Stop.{Stop}
use Rattle.table.specs.Stop.{stopped, full_if}
use Rattle.table.proofs.Outcomes.{holds_table}
use Rattle.functions.specs.Open.{Legible}
use Rattle.functions.proofs.Carry.{open_next}
use Rattle.rules.specs.State.{State}
use Rattle.rules.specs.Run.{Moment, moment_of, fitting, run_sound}
use Rattle.rules.proofs.State.{Shaped}
use Rattle.rules.proofs.Moment.{Records, SoundMoment, moment_records}
use Rattle.plain.specs.Exceeded.{any_exceeded}
use Rattle.record.specs.declared.Run.{Run}
use Rattle.record.specs.Numbers.{least_among}
use Rattle.record.specs.Record.{run_of, record_of}
use Rattle.record.proofs.Record.{run_of_record}
use Rattle.moment.specs.Next.{NextAs}
use Rattle.admit.specs.Reached.{Reached}
use Rattle.admit.specs.Judged.{crowding}
use Rattle.admit.proofs.Admitting.{least_tells, sound_tells, answer_crowded, answer_exceeds, answer_fits}

-- the run of a moment, as a value
abbrev run_given : Moment → Run
run_given moment = record_of moment.run

-- a reason to stop is want of room
full_more : {stop : Stop} {a b : ℕ} → stop ≡ full_if (ltb a b) → stopped stop ≡ true → a < b
full_more {stop} {a} {b} e p = by (ltb a b) refl
  where
    by : (x : Bool) → ltb a b ≡ x → a < b
    by true q = ltb-true a b q
    by false q = let z : stopped stop ≡ false = ap stopped (e ∙ ap full_if q) in true_false (stopped stop) p z

full_less : {stop : Stop} {a b : ℕ} → stop ≡ full_if (ltb a b) → stopped stop ≡ false → b ≤ a
full_less {stop} {a} {b} e p = by (ltb a b) refl
  where
    by : (x : Bool) → ltb a b ≡ x → b ≤ a
    by true q = let z : stopped stop ≡ true = ap stopped (e ∙ ap full_if q) in true_false (stopped stop) z p
    by false q = ltb-false a b q

module _ (c : Circuit) (time : ℕ) (stored states : ℕ → State) (over : ℕ → Bool) (t : Table) (few : c.letters ≤ most_letters) (sound : Sound c.letters t)
    (tells : (p : ℕ) → p < patterns c.letters → any_exceeded c (stored p) ≡ over p)
    (same : (p : ℕ) → p < patterns c.letters → over p ≡ false → stored p ≡ states p)
    {l w h ix : List ℕ} {stop : Stop} {r : Run} (next : NextAs t (moment_of c time stored t) l w h ix stop r) where
  abbrev within : Bool
  within = below (patterns c.letters) (λ p. not (over p))

  abbrev m : Moment
  m = moment_of c time stored t

  abbrev answer : Answer Moment
  answer = check within Ceiling (fitting (length l) (moment_of c time states t))

  records : Records c stored t m
  records = moment_records c time stored t few sound

  -- without room
  pub full_reached : stopped stop ≡ true → {why : Refusal} → why ≡ crowding (below (patterns c.letters) (λ p. not (over p)))
      → Reached t (check (below (patterns c.letters) (λ p. not (over p))) Ceiling (fitting (length l) (moment_of c time states t))) l w h ix (Err why)
  full_reached p {why} e = record {
    result_is = sym (ap (result_of run_given) (answer_crowded c time stored states over t few sound tells same (length l) (full_more next.stop_is p) e));
    fits = tt;
    kept = next.kept;
  }

  module _ (p : stopped stop ≡ false) where
    table_is : held l w h r.used ≡ m.table
    table_is = holds_table (next.holds p)

    -- the columns hold a sound table
    pub fits_legible : Legible c.letters l w h r.used
    fits_legible = (open_next few records.sound (next.holds p)).legible

    pub fits_room : r.used ≤ length l
    fits_room = fits_legible.fits

    -- of whose entries the next changes are
    pub fits_changes : (i : ℕ) → i < length c.nodes → get_or r.changes i 0 < r.used
    fits_changes i k =
        let is : get_or r.changes i 0 ≡ get_or m.run.changes i 0 = ap (λ (x : Run). get_or x.changes i 0) (next.run_is p) ∙ padded_read most_nodes 0 m.run.changes i in
        omega (arith, is, records.change_within i k, (next.holds p).long)

    -- the least of them tells whether a pattern exceeds
    pub least_told : {x : Bool} → x ≡ not (eqb (least_among c.letters (held l w h r.used) r.changes (length c.nodes)) 0) → x ≡ below (patterns c.letters) (λ p. not (over p))
    least_told e =
        e
        ∙ ap (λ (u : Table). not (eqb (least_among c.letters u r.changes (length c.nodes)) 0)) table_is
        ∙ ap (λ (x : Run). not (eqb (least_among c.letters m.table x.changes (length c.nodes)) 0)) (next.run_is p)
        ∙ least_tells c time stored states over t few sound tells same

    -- and so does whether the run is sound, where that of the rules is
    pub sound_told : ((q : ℕ) → q < patterns c.letters → Shaped c (stored q)) → SoundMoment c (moment_of c time states t)
        → {x : Bool} → x ≡ run_sound c (held l w h r.used) (run_of c r) → x ≡ below (patterns c.letters) (λ p. not (over p))
    sound_told shaped s e =
        let run : run_of c r ≡ m.run = ap (run_of c) (next.run_is p) ∙ run_of_record c m.run records.values_long records.changes_long in
        e ∙ ap₂ (run_sound c) table_is run ∙ sound_tells c time stored states over t few sound tells same shaped s

    -- and so what is replied
    pub fits_reached : {b : Bool} → b ≡ below (patterns c.letters) (λ p. not (over p)) → {result : Result Run Refusal} → result ≡ cond b (Ok r) (Err Ceiling)
        → Reached t (check (below (patterns c.letters) (λ p. not (over p))) Ceiling (fitting (length l) (moment_of c time states t))) l w h ix result
    fits_reached {b} told {result} e =
        ⊎_elim
        (λ (q : b ≡ true).
        let yes : result ≡ Ok r = e ∙ ap (λ (y : Bool). cond {A = Result Run Refusal} y (Ok r) (Err Ceiling)) q in
        let given : answer ≡ answered m = answer_fits c time stored states over t few sound tells same (length l) (sym told ∙ q) (full_less next.stop_is p) in
        rw yes record {
          result_is = ap {B = Result Run Refusal} Ok (next.run_is p) ∙ sym (ap (result_of run_given) given);
          fits = record { moment = m; is = given; run_is = next.run_is p; holds = next.holds p };
          kept = next.kept;
        })
        (λ (q : b ≡ false).
        let no : result ≡ Err Ceiling = e ∙ ap (λ (y : Bool). cond {A = Result Run Refusal} y (Ok r) (Err Ceiling)) q in
        rw no record {
          result_is = sym (ap (result_of run_given) (answer_exceeds c time stored states over t few sound tells same (length l) (sym told ∙ q)));
          fits = tt;
          kept = next.kept;
        })
        (bool_cases b)
