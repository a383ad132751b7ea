-- The calls made one after the other print the listing.
use mathlib.Core.Path.{◌≡◌, refl, ◌∙◌, ap, ap₂}
use mathlib.Core.List.{List, [], ◌++◌}
use mathlib.Core.Bool.{true, not, cond}
use Prim.Native.Nat.{ℕ, zero, suc, ◌<◌, ◌≤◌}
use native.Mathlib.Omega.{arith}
use lib.ListN.{length, get_or, length-replicate}
use lib.Dec.{ltb, eqb}
use borrow.Author.Tests.{ltb-true}
use Rattle.refusal.specs.declared.Refusal.TheVariants.{Finished}
use Rattle.refusal.specs.Answer.{Answer, refused, answered}
use Rattle.refusal.proofs.Answer.{check_passed}
use Rattle.lists.proofs.Padded.{padded_read}
use Rattle.format.specs.Circuit.{Circuit, header_of}
use Rattle.format.specs.Legal.{most_nodes, most_horizon, check_circuit}
use Rattle.format.specs.File.{read_cell}
use Rattle.format.proofs.Legal.{legal_limits}
use Rattle.format.proofs.Read.{read_checked}
use Rattle.diagram.specs.Table.{never}
use Rattle.diagram.specs.Store.{fresh}
use Rattle.diagram.specs.Call.{Columns, columns_of}
use Rattle.diagram.specs.Held.{least_entries, most_entries}
use Rattle.diagram.proofs.Calls.{fresh_sound}
use Rattle.diagram.proofs.Columns.{columns_length}
use Rattle.rules.specs.Run as defined
use Rattle.rules.specs.Run.{Moment, start_answer, time_after}
use Rattle.rules.specs.Call.{working_legal, step_call}
use Rattle.rules.proofs.Admitted.{admitting}
use Rattle.rules.proofs.Readable.{held_step}
use Rattle.record.specs.Record.{record_of}
use Rattle.record.proofs.Record.{run_of_record}
use Rattle.advance.specs.declared.Task.TheVariants.{Step}
use Rattle.advance.specs.Task.{run_in, task_call}
use Rattle.advance.specs.Went.{zeroed, run_after, table_after, working_after}
use Rattle.fields.specs.Line.{cell_line}
use Rattle.lines.specs.Listing.{line_at, step_lines, started_lines, stepped_lines, step_of, following, steps_from, run_lines, cell_lines, listing}
use Rattle.listing.specs.Printed.{no_run, printed_steps, printed_run, printed_cell, printed}
use Rattle.commute.proofs.Trace.{start_fresh}
use Rattle.listing.proofs.Holding.{Holding, first_holds, admitted_holds, lines_same}
use Rattle.lines.proofs.Ends.{allowance_same}

-- working stays legal: it is zero after an answered call
zeroed_legal : (working : Columns) → working_legal working ≡ true → working_legal (zeroed working) ≡ true
zeroed_legal working e =
    let none : ℕ = 0 in
    rw (length-replicate (length working.letter) none, length-replicate (length working.low) none, length-replicate (length working.high) none) e

-- a value's zeros past the node records make no other lines
padded_lines : (c : Circuit) (before : List ℕ) (m : Moment) → step_lines c (record_of (record { time = 0; used = 0; values = before; changes = [] })).values m ≡ step_lines c before m
padded_lines c before m =
    lines_same (length c.nodes) _ _
    (λ i. ap (λ (v : ℕ). cond (not (eqb (get_or m.run.values i 0) v)) (line_at c m i) []) (padded_read most_nodes 0 before i))

module _ {c : Circuit} {size : ℕ} {m : Moment} (h : Holding c size m) (working : Columns) (legal : working_legal working ≡ true) where
  -- a step of what is held
  step_answer_lem : task_call (check_circuit c) Step (columns_of size m.table) (record_of m.run) working ≡ step_of c size m
  step_answer_lem =
      ap (λ (cell : Answer Circuit). step_call cell (columns_of size m.table) (run_in cell (record_of m.run)) working) h.legal
      ∙ ap (λ (r : defined.Run). step_call (answered c) (columns_of size m.table) r working) (run_of_record c m.run h.sound.run.values_long h.sound.run.changes_long)
      ∙ held_step h.sound size h.least h.most h.fits working legal

-- what an answered step holds
next_holds : {c : Circuit} {size : ℕ} {m next : Moment} → Holding c size m → step_of c size m ≡ answered next → Holding c size next
next_holds {c} {size} {m} {next} h e =
    let x = check_passed (ltb (time_after c m) never) Finished (admitting c size m) next e in
    admitted_holds h.legal h.least h.most h.sound (ltb-true (time_after c m) never x.0) x.1

-- the steps from what is held
steps_printed : (k steps : ℕ) {c : Circuit} {size : ℕ} {m : Moment} → Holding c size m → (working : Columns) → working_legal working ≡ true
    → printed_steps k c steps (columns_of size m.table) (record_of m.run) working ≡ steps_from k c size steps m
unfolding printed_steps steps_from
steps_printed zero steps h working legal = refl
steps_printed (suc k) steps {c} {size} {m} h working legal =
    rw (step_answer_lem h working legal)
    (from (step_of c size m) (λ next e. steps_printed k (suc steps) (next_holds h e) (zeroed working) (zeroed_legal working legal)))
  where
    from : (a : Answer Moment)
        → ((next : Moment) → a ≡ answered next → printed_steps k c (suc steps) (columns_of size next.table) (record_of next.run) (zeroed working) ≡ steps_from k c size (suc steps) next)
        → stepped_lines c m.run.time (record_of m.run).values steps a
        ++ following a (λ _. printed_steps k c (suc steps) (table_after (columns_of size m.table) a) (run_after (record_of m.run) a) (working_after working a))
        ≡ stepped_lines c m.run.time m.run.values steps a ++ following a (λ next. steps_from k c size (suc steps) next)
    from (refused why) deeper = refl
    from (answered next) deeper =
        ap₂ (λ (x y : List ℕ). x ++ y)
        (padded_lines c m.run.values next)
        (ap (λ (n : ℕ). printed_steps k c (suc steps) (columns_of n next.table) (record_of next.run) (zeroed working)) (columns_length size m.table h.fits)
        ∙ deeper next refl)

module _ {c : Circuit} (legal : check_circuit c ≡ answered c) {size : ℕ} (least : least_entries ≤ size) (most : size ≤ most_entries) (working : Columns) (w : working_legal working ≡ true) where
  -- the start in a fresh table, and the steps
  run_printed : (k : ℕ) → c.horizon.0 < k → printed_run k c size working ≡ run_lines c size
  unfolding printed_run run_lines
  run_printed k enough =
      rw (legal, start_fresh c least most working w)
      (from (start_answer c size fresh)
      (λ m e.
      let h : Holding c size m = first_holds fresh m legal least most (fresh_sound c.letters) e in
      steps_printed k 0 h (zeroed working) (zeroed_legal working w)
      ∙ allowance_same legal size k (suc c.horizon.0) 0 h.sound (omega arith) (omega arith)))
    where
      from : (a : Answer Moment)
          → ((m : Moment) → a ≡ answered m → printed_steps k c 0 (columns_of size m.table) (record_of m.run) (zeroed working) ≡ steps_from (suc c.horizon.0) c size 0 m)
          → started_lines c a ++ following a (λ _. printed_steps k c 0 (table_after (columns_of size fresh) a) (run_after no_run a) (working_after working a))
          ≡ started_lines c a ++ following a (steps_from (suc c.horizon.0) c size 0)
      from (refused why) rest = refl
      from (answered m) rest =
          ap (λ (l : List ℕ). started_lines c (answered m) ++ l)
          (ap (λ (n : ℕ). printed_steps k c 0 (columns_of n m.table) (record_of m.run) (zeroed working)) (columns_length size fresh least) ∙ rest m refl)

-- what is printed of a file is its listing
pub whole : (file : List ℕ) (size : ℕ) → least_entries ≤ size → size ≤ most_entries → (working : Columns) → working_legal working ≡ true
    → printed file size working ≡ listing file size
unfolding printed listing printed_cell cell_lines
whole file size least most working w = from (read_cell file) (read_checked file)
  where
    from : (a : Answer Circuit) → ((c : Circuit) → a ≡ answered c → check_circuit c ≡ answered c) → printed_cell a size working ≡ cell_lines a size
    from (refused why) legal = refl
    from (answered c) legal =
        ap (λ (l : List ℕ). cell_line (header_of c) ++ l)
        (run_printed (legal c refl) least most working w (suc most_horizon) (omega (arith, (legal_limits (legal c refl)).most_horizon_lem)))
