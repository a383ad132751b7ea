-- What a call left and what was written of it, as the definitions have it.
use mathlib.Core.Path.{◌≡◌, refl, ◌∙◌, ap}
use mathlib.Core.List.{List, []}
use mathlib.Core.Bool.{true, false}
use Prim.Native.Nat.{ℕ, ◌+◌, ◌≤◌}
use native.Mathlib.Omega.{arith}
use lib.ListN.{length}
use Rattle.std.specs.Prelude.{Result, IfOk}
use Rattle.refusal.specs.declared.Refusal.{Refusal}
use Rattle.refusal.specs.Answer.{Answer, refused, answered, result_of}
use Rattle.format.specs.declared.Header.{Header}
use Rattle.format.specs.Circuit.{Circuit, header_of}
use Rattle.diagram.specs.Call.{columns, Columns}
use Rattle.diagram.specs.Held.{held}
use Rattle.rules.specs.Run.{Moment}
use Rattle.fields.specs.Line.{refused_line}
use Rattle.record.specs.declared.Run.{Run}
use Rattle.advance.specs.Went.{run_given, table_after}
use Rattle.run.specs.Done.{DoneAs}
use Rattle.lines.specs.Listing.{stop_line, started_lines, stepped_lines}
use Rattle.lines.specs.Lines.{call_room, Put, node_lines, Entries, by_result}
use Rattle.listing.specs.Listed.{ListedAs}
use Rattle.listing.proofs.Holding.{Holding, held_entries, held_start, held_step}

-- by the answer
module _ {c : Circuit} {h : Header} (same : header_of c ≡ h) (table : Columns) {l w v : List ℕ} where
  entries_by : (a : Answer Moment) → ((m : Moment) → a ≡ answered m → Holding c (length table.letter) m) → columns l w v ≡ table_after table a
      → IfOk (result_of run_given a) (λ (r : Run). Entries h.letters h.nodes l w v r.used r.values)
  entries_by (refused why) holds table_is = tt
  entries_by (answered m) holds table_is = rw (← same) (held_entries (holds m refl) table_is)

  start_by : (a : Answer Moment) → ((m : Moment) → a ≡ answered m → Holding c (length table.letter) m) → columns l w v ≡ table_after table a
      → by_result (result_of run_given a) (λ (r : Run). node_lines h.letters h.nodes (held l w v r.used) r.time true r.values r.values) refused_line ≡ started_lines c a
  start_by (refused why) holds table_is = refl
  start_by (answered m) holds table_is = rw (← same) (held_start (holds m refl) table_is [])

  step_by : (time steps : ℕ) (before : List ℕ) (a : Answer Moment) → ((m : Moment) → a ≡ answered m → Holding c (length table.letter) m) → columns l w v ≡ table_after table a
      → by_result (result_of run_given a) (λ (r : Run). node_lines h.letters h.nodes (held l w v r.used) r.time false r.values before) (stop_line time steps) ≡ stepped_lines c time before steps a
  step_by time steps before (refused why) holds table_is = refl
  step_by time steps before (answered m) holds table_is = rw (← same) (held_step (holds m refl) table_is before)

module _ {c : Circuit} {h : Header} (same : header_of c ≡ h) {table working working' : Columns} {l w v : List ℕ} {answer : Answer Moment} {run : Result Run Refusal}
    (holds : (m : Moment) → answer ≡ answered m → Holding c (length table.letter) m) (d : DoneAs table (columns l w v) working working' answer run) where
  -- an answered call leaves columns and entries that can be read
  pub done_entries : IfOk run (λ (r : Run). Entries h.letters h.nodes l w v r.used r.values)
  done_entries = rw d.result_is (entries_by same table answer holds d.table_is)

  module _ {out out' : List ℕ} {at end : ℕ} (room : at + call_room ≤ length out) where
    listed : {bytes : List ℕ} (lines : Answer Moment → List ℕ) → Put out out' at bytes call_room end → bytes ≡ lines answer
        → ListedAs table (columns l w v) working working' answer lines out out' at end run
    listed lines p e = record {
      run_is = d.result_is;
      table_is = d.table_is;
      working_is = d.working_is;
      wrote = rw e at p.wrote;
      within = omega (arith, p.within);
    }

    -- a start
    pub listed_start : Put out out' at (by_result run (λ (r : Run). node_lines h.letters h.nodes (held l w v r.used) r.time true r.values r.values) refused_line) call_room end
        → ListedAs table (columns l w v) working working' answer (started_lines c) out out' at end run
    listed_start p =
        listed (started_lines c) p
        (ap (λ (x : Result Run Refusal). by_result x (λ (r : Run). node_lines h.letters h.nodes (held l w v r.used) r.time true r.values r.values) refused_line) d.result_is
        ∙ start_by same table answer holds d.table_is)

    -- a step
    pub listed_step : (time steps : ℕ) (before : List ℕ)
        → Put out out' at (by_result run (λ (r : Run). node_lines h.letters h.nodes (held l w v r.used) r.time false r.values before) (stop_line time steps)) call_room end
        → ListedAs table (columns l w v) working working' answer (stepped_lines c time before steps) out out' at end run
    listed_step time steps before p =
        listed (stepped_lines c time before steps) p
        (ap (λ (x : Result Run Refusal). by_result x (λ (r : Run). node_lines h.letters h.nodes (held l w v r.used) r.time false r.values before) (stop_line time steps)) d.result_is
        ∙ step_by same table time steps before answer holds d.table_is)
