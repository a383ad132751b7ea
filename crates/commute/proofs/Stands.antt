-- Where a run stands: its time is not past, and no step is left up to there. An answered run up to p, of a run that was not past p,
-- stands at p, so demand 3 speaks of every such p.
use mathlib.Core.Path.{◌≡◌, refl, sym, ◌∙◌, ap, ap₂, subst}
use mathlib.Core.Logic.{◌⊎◌}
use Prim.Native.Nat.{ℕ, ◌≤◌, ◌<◌}
use native.Mathlib.Omega.{arith}
use lib.ListN.{length}
use Rattle.refusal.specs.Answer.{Answer, answered, answer_number}
use Rattle.format.specs.Circuit.{Circuit}
use Rattle.diagram.specs.Table.{never}
use Rattle.diagram.specs.Call.{Columns, columns_of}
use Rattle.rules.specs.Run.{Run, Moment, time_after}
use Rattle.rules.specs.Call.{moment_given, run_call}
use Rattle.rules.proofs.RunSteps.{steps_until}
use Rattle.commute.specs.Interface.{Held, Interface}
use Rattle.commute.specs.Lists.{up_to}
use Rattle.commute.specs.Demand.{time_held, step_time, Stands}
use Rattle.commute.specs.Alone.{SoundHeld}
use Rattle.commute.proofs.Lawful.{left, Lawful}
use Rattle.commute.proofs.Trace.{Ground, begun, trace_ground, steps_trace, run_answered, run_rested, run_working}
use Rattle.commute.proofs.Keeps.{Keeps, number_answered, keeps_long, keeps_time, keeps_next, call_went, call_answered, stands_rests}
use Rattle.commute.proofs.Rules.{held_keeps}

module _ {Source R : Type 0} {K : Interface Source R} (L : Lawful K) (s : Source) (c : Circuit) (cell : K.cell s ≡ answered c) {h : Held R} (sound : SoundHeld K c h) (p : ℕ) where
  abbrev size : ℕ
  size = length h.table.letter

  abbrev m : Moment
  m = moment_given h.table (K.stated c h.run)

  ground : Ground c size m
  ground = (held_keeps L s c cell sound).0

  held : Keeps K c size h m
  held = (held_keeps L s c cell sound).1

  -- where it stands
  pub stands_exactly : Stands K s c h p → (time_held K c h ≤ p) × ((step_time K c h ≡ never) ⊎ (p < step_time K c h))
  stands_exactly x = (x.time, (stands_rests L s c cell ground held p x).1)

  -- after an answered run up to p
  pub run_up_to_stands : time_held K c h ≤ p → (h' : Held R) (working working' : Columns) → K.UpTo s p h h' working working' 0 → Stands K s c h' p
  run_up_to_stands l h' working working' made =
      let x = call_answered L s c cell ground held (up_to p working) (working', made) in
      let after : Moment = x.0 in
      let y = run_answered ground p working after x.1 in
      let g' : Ground c size after = trace_ground ground (steps_trace y.0 begun) in
      let w = run_working c (columns_of size m.table) m.run p working after x.1 in
      let answer : run_call (answered c) p h'.table (K.stated c h'.run) working ≡ answered after =
      ap₂ (λ (t : Columns) (r : Run). run_call (answered c) p t r working) x.2.table x.2.run ∙ run_rested g' p working w y.1 in
      let is : h' ≡ left L.stored h (answered after) = (call_went L s c cell ground held (up_to p working) (working', made)).held_is ∙ ap (left L.stored h) x.1 in
      let still : h' ≡ left L.stored h' (answered after) =
      is ∙ ap (λ (n : ℕ). left_at n after) (sym (keeps_long L s c cell g' x.2)) in
      let again = L.run s c cell p h' h' working 0 x.2.sized (record { number_is = sym (ap number_of answer); held_is = still ∙ ap (left L.stored h') (sym answer) }) in
      record {
        time = omega (arith, keeps_time L s c cell g' x.2, steps_until c p size y.0 l);
        working = working;
        working' = again.0;
        rests = again.1;
      }
    where
      left_at : ℕ → Moment → Held R
      left_at n after = record { table = columns_of n after.table; run = L.stored after.run }

      number_of : Answer Moment → ℕ
      number_of a = answer_number a
