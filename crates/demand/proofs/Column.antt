-- A run laid out in the record's column comes back from it, and a column of the right length from the record in it.
use mathlib.Core.Path.{◌≡◌, ◌∙◌, ap}
use mathlib.Core.List.{List, [], ◌∷◌, ◌++◌}
use Prim.Native.Nat.{ℕ, ◌≤◌}
use native.Mathlib.Omega.{arith}
use lib.ListN.{length, take, drop, length-drop, take-append-drop}
use lib.Seq.{take_all}
use Rattle.refusal.specs.Answer.{answered}
use Rattle.format.specs.Circuit.{Circuit}
use Rattle.format.specs.Legal.{most_nodes}
use Rattle.rules.specs.Run as defined
use Rattle.record.specs.Record.{record_of}
use Rattle.record.proofs.Record.{run_of_record, record_long}
use Rattle.advance.specs.Task.{run_in}
use Rattle.editor.specs.Runs.{record_in, record_column}
use Rattle.editor.proofs.Column.{read_back}

module _ (c : Circuit) (few : length c.nodes ≤ most_nodes) (r : defined.Run) (vs : length r.values ≡ length c.nodes) (cs : length r.changes ≡ length c.nodes) where
  -- the column of a run with an entry for each node record states the run
  pub column_run : run_in (answered c) (record_in (record_column (record_of r))) ≡ r
  column_run =
      let x = record_long r (omega arith) (omega arith) in
      ap (run_in (answered c)) (read_back (record_of r) x.0 x.1) ∙ run_of_record c r vs cs

-- the column of the record in a column
pub column_back : (column : List ℕ) → length column ≡ 50 → record_column (record_in column) ≡ column
column_back [] h = absurd (omega arith)
column_back (time ∷ []) h = absurd (omega arith)
column_back (time ∷ used ∷ l) h =
    ap (λ (xs : List ℕ). time ∷ used ∷ take 24 l ++ xs) (take_all 24 (drop 24 l) (omega (arith, length-drop 24 l)))
    ∙ ap (λ (xs : List ℕ). time ∷ used ∷ xs) (take-append-drop 24 l)
