-- A run of steps: what is kept from one to the next.
use Rattle.std.proofs.Common.{Result, Ok, Err}
use mathlib.Core.Path.{◌≡◌, refl, sym, ◌∙◌, ap, subst}
use mathlib.Core.Logic.{inl, inr, ⊎_elim}
use mathlib.Core.List.{List}
use mathlib.Core.Bool.{true, false, not, ◌&&◌}
use Prim.Native.Nat.{ℕ, ◌<◌, ◌≤◌}
use native.Mathlib.Omega.{arith}
use lib.ListN.{length}
use lib.Dec.{leb, eqb}
use borrow.Author.Tests.{leb-true, leb-false, eqb-false, ne_eqb, not-true}
use Rattle.refusal.specs.declared.Refusal.{Refusal}
use Rattle.refusal.specs.Answer.{Answer, refused, answered, result_of}
use Rattle.refusal.proofs.Answer.{err_refused}
use Rattle.lists.proofs.Cases.{eq_or_ne, and_left, and_right}
use Rattle.format.specs.Circuit.{Circuit}
use Rattle.diagram.specs.Table.{never}
use Rattle.diagram.specs.Call.{columns}
use Rattle.diagram.specs.Held.{most_entries, held}
use Rattle.diagram.proofs.Sound.{Sound}
use Rattle.diagram.specs.Extends.{Extends}
use Rattle.diagram.proofs.Add.{extends_refl, extends_trans}
use Rattle.rules.specs.Run as defined
use Rattle.rules.specs.Run.{Moment, time_after, step_moment, continued, run_sound}
use Rattle.rules.specs.Call.{moment_given}
use Rattle.rules.proofs.Moment.{RunSound, SoundMoment, run_record, sound_tests, tests_sound, time_never, time_within, step_time_lem, step_sound, step_extends}
use Rattle.rules.proofs.Admitted.{Admitted, admitting, admitted_answer, answer_admitted}
use Rattle.rules.proofs.RunSteps.{Rests, Takes, ran, run_rests, run_next}
use Rattle.table.specs.Holds.{Holds}
use Rattle.table.proofs.Outcomes.{holds_table, holds_kept, kept_extends}
use Rattle.functions.specs.Open.{Open}
use Rattle.functions.proofs.Carry.{open_next}
use Rattle.net.specs.Net.{letters_place, horizon_place, at, net_circuit}
use Rattle.net.specs.Laid.{Laid}
use Rattle.net.proofs.Laying.{letters_at, horizon_at}
use Rattle.record.specs.declared.Run.{Run}
use Rattle.record.specs.Record.{run_of, record_of}
use Rattle.record.specs.Leasts.{Leasts}
use Rattle.record.proofs.Record.{run_of_record}
use Rattle.admit.specs.Reached.{Left, Reached}
use Rattle.advance.specs.Went.{run_given}

-- the moment that columns and a run hold
abbrev pub moment_in : List ℕ → List ℕ → List ℕ → List ℕ → Run → Moment
moment_in net l w h r = moment_given (columns l w h) (run_of (net_circuit net) r)

-- what is required of a moment, to step from it
pub record Standing (net l w h ix : List ℕ) (r : Run) : Type 0 where
  pub opened : Open (at net letters_place) l w h ix r.used
  pub sound : run_sound (net_circuit net) (held l w h r.used) (run_of (net_circuit net) r) ≡ true

-- the next time, and a column with the least number of every entry
pub record Timed (net l w h : List ℕ) (r : Run) (time : ℕ) (least : List ℕ) : Type 0 where
  pub time_is : time ≡ time_after (net_circuit net) (moment_given (columns l w h) (run_of (net_circuit net) r))
  pub least_long : length least ≡ most_entries
  pub leasts : Leasts (at net letters_place) (held l w h r.used) r.used least

-- the steps up to now: what is left to run from here is what was asked at first, and no entry was taken away
pub record Going (net : List ℕ) (until : ℕ) (l₀ w₀ h₀ : List ℕ) (r₀ : Run) (l w h ix : List ℕ) (r : Run) (time : ℕ) (least : List ℕ) : Type 0 where
  pub long : length l ≡ length l₀
  pub standing : Standing net l w h ix r
  pub whole : r ≡ record_of (run_of (net_circuit net) r)
  pub timed : Timed net l w h r time least
  pub kept : Extends (held l₀ w₀ h₀ r₀.used) (held l w h r.used)
  pub left : ran (net_circuit net) until (length l₀) (moment_given (columns l₀ w₀ h₀) (run_of (net_circuit net) r₀))
      ≡ ran (net_circuit net) until (length l₀) (moment_given (columns l w h) (run_of (net_circuit net) r))

-- such a moment is sound
pub standing_sound : {net l w h ix : List ℕ} {r : Run} → Standing net l w h ix r → SoundMoment (net_circuit net) (moment_given (columns l w h) (run_of (net_circuit net) r))
standing_sound {net} s = tests_sound (rw (letters_at net) s.opened.legible.sound) s.sound s.opened.holds.long

-- a column as long as the longest table has room for the entries
pub open_room : {k : ℕ} {l w h ix : List ℕ} {used : ℕ} → Open k l w h ix used → (least : List ℕ) → length least ≡ most_entries → used ≤ length least
open_room o least long = omega (arith, o.holds.ready.fits, o.holds.ready.sized.most)

-- zeros past the node records make no other run
module _ {net l w h ix : List ℕ} {r r' : Run} (s : Standing net l w h ix r) (e : r' ≡ record_of (run_of (net_circuit net) r)) where
  tidy_used : r'.used ≡ r.used
  tidy_used = ap (λ (x : Run). x.used) e

  tidy_run : run_of (net_circuit net) r' ≡ run_of (net_circuit net) r
  tidy_run =
      let k : RunSound (net_circuit net) (held l w h r.used) (run_of (net_circuit net) r) =
      run_record (net_circuit net) (held l w h r.used) (run_of (net_circuit net) r) s.sound in
      ap (run_of (net_circuit net)) e ∙ run_of_record (net_circuit net) (run_of (net_circuit net) r) k.values_long k.changes_long

  pub tidy_standing : Standing net l w h ix r'
  tidy_standing = record { opened = rw tidy_used s.opened; sound = subst (λ (x : defined.Run). run_sound (net_circuit net) (held l w h x.used) x ≡ true) (sym tidy_run) s.sound }

  -- so nothing is asked but what was
  pub tidy_reached : (until size : ℕ) {l1 w1 h1 ix1 : List ℕ} {next : Result Run Refusal}
      → Reached (held l w h r'.used) (ran (net_circuit net) until size (moment_given (columns l w h) (run_of (net_circuit net) r'))) l1 w1 h1 ix1 next
      → Reached (held l w h r.used) (ran (net_circuit net) until size (moment_given (columns l w h) (run_of (net_circuit net) r))) l1 w1 h1 ix1 next
  tidy_reached until size {l1} {w1} {h1} {ix1} {next} x =
      subst
      (λ (y : defined.Run).
      Reached (held l w h y.used) (ran (net_circuit net) until size (moment_given (columns l w h) y)) l1 w1 h1 ix1 next)
      tidy_run
      x

  pub tidy_whole : r' ≡ record_of (run_of (net_circuit net) r')
  tidy_whole = e ∙ ap record_of (sym tidy_run)

-- no step yet
pub going_start : {net l w h ix least : List ℕ} {r : Run} {time : ℕ} (until : ℕ) → Standing net l w h ix r → r ≡ record_of (run_of (net_circuit net) r)
    → Timed net l w h r time least → Going net until l w h r l w h ix r time least
going_start {net} {l} {w} {h} {ix} {least} {r} until s e t = record {
  long = refl;
  standing = s;
  whole = e;
  timed = t;
  kept = extends_refl (held l w h r.used);
  left = refl;
}

-- a step that was admitted, in the columns and as a value
pub record Taken (net l w h : List ℕ) (r : Run) (size : ℕ) (l' w' h' ix' : List ℕ) (r' : Run) : Type 0 where
  pub admitted : Admitted (net_circuit net) size (moment_given (columns l w h) (run_of (net_circuit net) r))
  pub run_is : r' ≡ record_of (step_moment (net_circuit net) (moment_given (columns l w h) (run_of (net_circuit net) r))).run
  pub holds : Holds l' w' h' ix' (step_moment (net_circuit net) (moment_given (columns l w h) (run_of (net_circuit net) r))).table r'.used

-- what a step leaves that is not refused
pub left_taken : {net l w h : List ℕ} {r : Run} {size : ℕ} {l' w' h' ix' : List ℕ} {r' : Run}
    → Left (admitting (net_circuit net) size (moment_given (columns l w h) (run_of (net_circuit net) r))) l' w' h' ix' r' → Taken net l w h r size l' w' h' ix' r'
left_taken {l' = l'} {w' = w'} {h' = h'} {ix' = ix'} {r' = r'} left =
    let a = answer_admitted left.is in
    record {
      admitted = a.0;
      run_is = left.run_is ∙ ap (λ (x : Moment). record_of x.run) a.1;
      holds = subst (λ (x : Moment). Holds l' w' h' ix' x.table r'.used) a.1 left.holds;
    }

-- a step from such a moment leaves one
module _ {net l w h ix l' w' h' ix' : List ℕ} {r r' : Run} {size : ℕ} (laid : Laid (net_circuit net) net) (s : Standing net l w h ix r)
    (n : Taken net l w h r size l' w' h' ix' r')
    (more : time_after (net_circuit net) (moment_given (columns l w h) (run_of (net_circuit net) r)) < never) where
  abbrev c : Circuit
  c = net_circuit net

  abbrev m : Moment
  m = moment_given (columns l w h) (run_of (net_circuit net) r)

  stepped : SoundMoment (net_circuit net) (step_moment (net_circuit net) (moment_given (columns l w h) (run_of (net_circuit net) r)))
  stepped = step_sound laid.legal (standing_sound s) more

  run_same : run_of (net_circuit net) r' ≡ (step_moment (net_circuit net) (moment_given (columns l w h) (run_of (net_circuit net) r))).run
  run_same = ap (run_of c) n.run_is ∙ run_of_record c (step_moment c m).run stepped.run.values_long stepped.run.changes_long

  table_same : held l' w' h' r'.used ≡ (step_moment (net_circuit net) (moment_given (columns l w h) (run_of (net_circuit net) r))).table
  table_same = holds_table n.holds

  -- the moment of the step is the one held
  pub moment_same : moment_given (columns l' w' h') (run_of (net_circuit net) r') ≡ step_moment (net_circuit net) (moment_given (columns l w h) (run_of (net_circuit net) r))
  moment_same = λ i. record { run = run_same i; table = table_same i }

  pub step_standing : Standing net l' w' h' ix' r'
  step_standing = record {
    opened = open_next laid.within.letters (subst (λ (k : ℕ). Sound k (step_moment c m).table) (letters_at net) stepped.table) n.holds;
    sound = subst (λ (x : Moment). run_sound c x.table x.run ≡ true) (sym moment_same) (sound_tests stepped).1;
  }

  -- no entry is taken away
  pub step_kept : Extends (held l w h r.used) (held l' w' h' r'.used)
  step_kept = subst (Extends (held l w h r.used)) (sym table_same) (step_extends laid.legal (standing_sound s))

  pub step_more : r.used ≤ r'.used
  step_more = omega (arith, step_kept.longer, s.opened.holds.long, step_standing.opened.holds.long)

  -- it is later, and within the horizon
  pub step_later : (r.time < r'.time) × (r'.time ≤ at net horizon_place)
  step_later =
      let w : (r.time < time_after c m) × (time_after c m ≤ c.horizon.0) = time_within laid.legal (standing_sound s) more in
      let t : r'.time ≡ time_after c m = ap (λ (x : Run). x.time) n.run_is ∙ step_time_lem c m in
      omega (arith, horizon_at net)

-- the loop
module _ {net : List ℕ} {until : ℕ} {l₀ w₀ h₀ : List ℕ} {r₀ : Run} {l w h ix : List ℕ} {r : Run} {time : ℕ} {least : List ℕ} (laid : Laid (net_circuit net) net)
    (g : Going net until l₀ w₀ h₀ r₀ l w h ix r time least) where
  -- the loop's test
  pub going_takes : (not (eqb time never) && leb time until) ≡ true → Takes (net_circuit net) until (moment_given (columns l w h) (run_of (net_circuit net) r))
  going_takes e =
      let t : time ≡ time_after (net_circuit net) (moment_in net l w h r) = g.timed.time_is in
      let some : time ≡ never → ⊥ = eqb-false time never (not-true (eqb time never) (and_left (not (eqb time never)) (leb time until) e)) in
      let k : time ≤ until = leb-true time until (and_right (not (eqb time never)) (leb time until) e) in
      record { more = omega (arith, time_never (net_circuit net) (moment_in net l w h r)); reach = omega arith }

  going_left : (not (eqb time never) && leb time until) ≡ false → Rests (net_circuit net) until (moment_given (columns l w h) (run_of (net_circuit net) r))
  going_left e =
      let t : time ≡ time_after (net_circuit net) (moment_in net l w h r) = g.timed.time_is in
      ⊎_elim
      (λ (z : time ≡ never). inl (sym t ∙ z))
      (λ (z : time ≡ never → ⊥). inr (let k : until < time = leb-false time until (rw (ne_eqb time never z) at e) in omega arith))
      (eq_or_ne time never)

  -- no step is left
  pub going_rests : (not (eqb time never) && leb time until) ≡ false
      → Reached (held l₀ w₀ h₀ r₀.used) (ran (net_circuit net) until (length l₀) (moment_given (columns l₀ w₀ h₀) (run_of (net_circuit net) r₀))) l w h ix (Ok r)
  going_rests e =
      let is : ran (net_circuit net) until (length l₀) (moment_given (columns l₀ w₀ h₀) (run_of (net_circuit net) r₀)) ≡ answered (moment_in net l w h r) =
      g.left ∙ run_rests (net_circuit net) until (length l₀) (net_circuit net).horizon.0 (moment_in net l w h r) (going_left e) in
      record {
        result_is = ap {B = Result Run Refusal} Ok g.whole ∙ sym (ap (result_of run_given) is);
        fits = record { moment = moment_in net l w h r; is = is; run_is = g.whole; holds = g.standing.opened.holds };
        kept = holds_kept g.standing.opened.holds g.kept;
      }

  -- a step is left
  module _ (takes : Takes (net_circuit net) until (moment_given (columns l w h) (run_of (net_circuit net) r))) where
    goes_on_lem : ran (net_circuit net) until (length l₀) (moment_given (columns l₀ w₀ h₀) (run_of (net_circuit net) r₀))
        ≡ continued (admitting (net_circuit net) (length l₀) (moment_given (columns l w h) (run_of (net_circuit net) r))) (ran (net_circuit net) until (length l₀))
    goes_on_lem = g.left ∙ run_next laid.legal until (length l₀) (standing_sound g.standing) takes

    abbrev after : Moment
    after = step_moment (net_circuit net) (moment_given (columns l w h) (run_of (net_circuit net) r))

    -- of which the size is the first one's
    there : admitting (net_circuit net) (length l) (moment_given (columns l w h) (run_of (net_circuit net) r)) ≡ admitting (net_circuit net) (length l₀) (moment_given (columns l w h) (run_of (net_circuit net) r))
    there = ap (λ (size : ℕ). admitting (net_circuit net) size (moment_in net l w h r)) g.long

    module _ {l' w' h' ix' : List ℕ} (long : length l' ≡ length l) where
      -- that is refused
      pub going_refused : {why : Refusal} → Reached (held l w h r.used) (admitting (net_circuit net) (length l) (moment_given (columns l w h) (run_of (net_circuit net) r))) l' w' h' ix' (Err why)
          → Reached (held l₀ w₀ h₀ r₀.used) (ran (net_circuit net) until (length l₀) (moment_given (columns l₀ w₀ h₀) (run_of (net_circuit net) r₀))) l' w' h' ix' (Err why)
      going_refused {why} n =
          let no : admitting (net_circuit net) (length l) (moment_in net l w h r) ≡ refused why = err_refused run_given (admitting (net_circuit net) (length l) (moment_in net l w h r)) n.result_is in
          let whole : ran (net_circuit net) until (length l₀) (moment_given (columns l₀ w₀ h₀) (run_of (net_circuit net) r₀)) ≡ refused why =
          goes_on_lem ∙ ap (λ (a : Answer Moment). continued a (ran (net_circuit net) until (length l₀))) (sym there ∙ no) in
          record {
            result_is = sym (ap (result_of run_given) whole);
            fits = tt;
            kept = kept_extends g.kept n.kept;
          }

      -- that is not
      module _ {r' : Run} (n : Reached (held l w h r.used) (admitting (net_circuit net) (length l) (moment_given (columns l w h) (run_of (net_circuit net) r))) l' w' h' ix' (Ok r')) where
        pub going_taken : Taken net l w h r (length l) l' w' h' ix' r'
        going_taken = left_taken n.fits

        pub going_next : {time' : ℕ} {least' : List ℕ} → Timed net l' w' h' r' time' least' → Going net until l₀ w₀ h₀ r₀ l' w' h' ix' r' time' least'
        going_next t =
            let same : moment_in net l' w' h' r' ≡ after = moment_same laid g.standing going_taken takes.more in
            record {
              long = long ∙ g.long;
              standing = step_standing laid g.standing going_taken takes.more;
              whole = going_taken.run_is ∙ ap (λ (x : Moment). record_of x.run) (sym same);
              timed = t;
              kept = extends_trans g.kept (step_kept laid g.standing going_taken takes.more);
              left = goes_on_lem
                  ∙ ap (λ (a : Answer Moment). continued a (ran (net_circuit net) until (length l₀))) (sym there ∙ admitted_answer going_taken.admitted)
                  ∙ ap (ran (net_circuit net) until (length l₀)) (sym same);
            }
