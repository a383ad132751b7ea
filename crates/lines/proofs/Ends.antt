-- The listing of a run: its allowance of steps is enough, and its last line is an end or a refusal.
use mathlib.Core.Path.{◌≡◌, refl, sym, ◌∙◌, ap, subst}
use mathlib.Core.List.{List, [], ◌++◌, append-nil, append_assoc}
use mathlib.Core.Bool.{Bool, true, false, cond}
use Prim.Native.Nat.{ℕ, zero, suc, ◌+◌, ◌<◌, ◌≤◌}
use native.Mathlib.Omega.{arith}
use lib.ListN.{length}
use lib.Dec.{leb, ltb, eqb}
use borrow.Author.Tests.{ltb-true}
use Rattle.refusal.specs.declared.Refusal.{Refusal}
use Rattle.refusal.specs.declared.Refusal.TheVariants.{Full, Finished, Ceiling}
use Rattle.refusal.specs.Number.{refusal_number}
use Rattle.refusal.specs.Answer.{Answer, refused, answered}
use Rattle.refusal.proofs.Answer.{same_answer, check_passed}
use Rattle.format.specs.Circuit.{Circuit, header_of}
use Rattle.format.specs.Legal.{check_circuit}
use Rattle.format.specs.File.{read_cell}
use Rattle.format.proofs.Read.{read_checked}
use Rattle.diagram.specs.Table.{never}
use Rattle.diagram.specs.Store.{fresh}
use Rattle.diagram.proofs.Calls.{fresh_sound}
use Rattle.rules.specs.Run.{Moment, start_moment, start_within, start_answer, time_after, step_moment, fitting}
use Rattle.rules.proofs.Moment.{SoundMoment, start_sound, step_sound, step_time_lem, time_within}
use Rattle.rules.proofs.Admitted.{Admitted, admitting, answer_admitted}
use Rattle.fields.specs.Line.{cell_line, refused_line}
use Rattle.lines.specs.Listing.{end_line, stop_line, start_lines, started_lines, stepped_lines, step_of, following, steps_from, run_lines, cell_lines, listing}

-- an answered step: there is one, it is admitted, and the answer is its moment
pub step_taken : (c : Circuit) (size : ℕ) (m next : Moment) → step_of c size m ≡ answered next → (time_after c m < never) × Admitted c size m × (next ≡ step_moment c m)
step_taken c size m next e =
    let one = check_passed (ltb (time_after c m) never) Finished (admitting c size m) next e in
    let two = answer_admitted one.1 in
    (ltb-true (time_after c m) never one.0, two.0, two.1)

-- a last line: an end or a refusal
pub data Last : List ℕ → Type 0 where
  ends : (time steps : ℕ) → Last (end_line time steps)
  refuses : (why : Refusal) → Last (refused_line why)

-- lines that come to their last
abbrev pub Ended : List ℕ → Type 0
Ended lines = (before last : List ℕ) × Last last × (lines ≡ before ++ last)

-- the line of a refused step is a last one
stop_last : (time steps : ℕ) (why : Refusal) → Last (stop_line time steps why)
stop_last time steps why = from (eqb (refusal_number why) (refusal_number Finished))
  where
    from : (finished : Bool) → Last (cond finished (end_line time steps) (refused_line why))
    from true = ends time steps
    from false = refuses why

-- so are lines with others before them
ended_after : (first : List ℕ) {lines : List ℕ} → Ended lines → Ended (first ++ lines)
ended_after first x = (first ++ x.0, x.1, x.2, ap (λ (l : List ℕ). first ++ l) x.3 ∙ sym (append_assoc first x.0 x.1))

module _ {c : Circuit} (legal : check_circuit c ≡ answered c) (size : ℕ) where
  -- it is sound, later, and not past the horizon
  step_next : {m next : Moment} → SoundMoment c m → step_of c size m ≡ answered next → SoundMoment c next × (m.run.time < next.run.time) × (next.run.time ≤ c.horizon.0)
  step_next {m} {next} s e =
      let x = step_taken c size m next e in
      let w = time_within legal s x.0 in
      let t = step_time_lem c m in
      rw x.2 (step_sound legal s x.0, omega arith, omega arith)

  -- with an allowance that reaches past the horizon the steps come to their last line
  pub steps_end : (k steps : ℕ) {m : Moment} → SoundMoment c m → c.horizon.0 < m.run.time + k → Ended (steps_from k c size steps m)
  unfolding steps_from
  steps_end zero steps {m} s h = absurd (omega (arith, s.run.time_most))
  steps_end (suc k) steps {m} s h =
      from (step_of c size m) (λ next e. let n = step_next s e in steps_end k (suc steps) n.0 (omega (arith, n.1)))
    where
      from : (a : Answer Moment) → ((next : Moment) → a ≡ answered next → Ended (steps_from k c size (suc steps) next))
          → Ended (stepped_lines c m.run.time m.run.values steps a ++ following a (λ next. steps_from k c size (suc steps) next))
      from (refused why) deeper = ([], stop_line m.run.time steps why, stop_last m.run.time steps why, append-nil _)
      from (answered next) deeper = ended_after (stepped_lines c m.run.time m.run.values steps (answered next)) (deeper next refl)

  -- two such allowances give the same lines
  pub allowance_same : (j k steps : ℕ) {m : Moment} → SoundMoment c m → c.horizon.0 < m.run.time + j → c.horizon.0 < m.run.time + k
      → steps_from j c size steps m ≡ steps_from k c size steps m
  unfolding steps_from
  allowance_same zero k steps s hj hk = absurd (omega (arith, s.run.time_most))
  allowance_same (suc j) zero steps s hj hk = absurd (omega (arith, s.run.time_most))
  allowance_same (suc j) (suc k) steps {m} s hj hk =
      from (step_of c size m) (λ next e. let n = step_next s e in allowance_same j k (suc steps) n.0 (omega (arith, n.1)) (omega (arith, n.1)))
    where
      from : (a : Answer Moment) → ((next : Moment) → a ≡ answered next → steps_from j c size (suc steps) next ≡ steps_from k c size (suc steps) next)
          → stepped_lines c m.run.time m.run.values steps a ++ following a (λ next. steps_from j c size (suc steps) next)
          ≡ stepped_lines c m.run.time m.run.values steps a ++ following a (λ next. steps_from k c size (suc steps) next)
      from (refused why) deeper = refl
      from (answered next) deeper = ap (λ (l : List ℕ). stepped_lines c m.run.time m.run.values steps (answered next) ++ l) (deeper next refl)

-- the lines of a run come to their last
run_ends : {c : Circuit} → check_circuit c ≡ answered c → (size : ℕ) → Ended (run_lines c size)
unfolding run_lines
run_ends {c} legal size = from (start_answer c size fresh) started
  where
    started : (m : Moment) → start_answer c size fresh ≡ answered m → Ended (steps_from (suc c.horizon.0) c size 0 m)
    started m e =
        let x = check_passed (leb (length (start_moment c fresh).table) size) Full (answered (start_moment c fresh)) m (check_passed (start_within c) Ceiling (fitting size (start_moment c fresh)) m e).1 in
        let s : SoundMoment c m = subst (SoundMoment c) (same_answer x.1) (start_sound legal (fresh_sound c.letters)) in
        steps_end legal size (suc c.horizon.0) 0 s (omega arith)

    from : (a : Answer Moment) → ((m : Moment) → a ≡ answered m → Ended (steps_from (suc c.horizon.0) c size 0 m))
        → Ended (started_lines c a ++ following a (steps_from (suc c.horizon.0) c size 0))
    from (refused why) rest = ([], refused_line why, refuses why, append-nil (refused_line why))
    from (answered m) rest = ended_after (start_lines c m) (rest m refl)

-- every listing ends in an end or in a refusal
pub listing_ends : (file : List ℕ) (size : ℕ) → Ended (listing file size)
unfolding listing cell_lines
listing_ends file size = from (read_cell file) (read_checked file)
  where
    from : (a : Answer Circuit) → ((c : Circuit) → a ≡ answered c → check_circuit c ≡ answered c) → Ended (cell_lines a size)
    from (refused why) legal = ([], refused_line why, refuses why, refl)
    from (answered c) legal = ended_after (cell_line (header_of c)) (run_ends (legal c refl) size)
