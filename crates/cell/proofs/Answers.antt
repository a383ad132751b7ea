-- What reading or checking a cell says of it.
use mathlib.Core.Path.{◌≡◌, refl, sym, ◌∙◌, ap}
use mathlib.Core.List.{List}
use Prim.Native.Nat.{ℕ}
use Rattle.refusal.specs.declared.Refusal.{Refusal}
use Rattle.std.specs.Prelude.{Result, Ok, Err}
use Rattle.refusal.specs.Number.{Reply}
use Rattle.refusal.specs.Answer.{Answer, refused, answered, reply_of}
use Rattle.format.specs.Circuit.{Circuit, header_of}
use Rattle.format.specs.Legal.{check_circuit}
use Rattle.format.specs.File.{read_cell}
use Rattle.format.proofs.Check.{circuit_checked, check_same}
use Rattle.format.proofs.Read.{read_checked}
use Rattle.cell.specs.declared.Cell.{Cell}
use Rattle.cell.specs.Value.{circuit_of, reading, cell_by}
use Rattle.cell.specs.Counted.{Counted}
use Rattle.cell.proofs.Kept.{counted}
use Rattle.cell.proofs.Check.{header_kept}
use Rattle.cell.proofs.Read.{circuit_of_cell}

reading_by : (a : Answer Circuit) → cell_by (reading a) ≡ a
unfolding reading
reading_by (refused why) = refl
reading_by (answered c) = ap answered (circuit_of_cell c)

check_refused_by : (why : Refusal) (a : Answer Circuit) → Err why ≡ reply_of a → a ≡ refused why
check_refused_by why (refused other) e = cc
check_refused_by why (answered d) e = absurd cc

check_done_by : {A B : Type 0} (a : Answer A) → Ok tt ≡ reply_of a → ((d : A) → a ≡ answered d → B) → B
check_done_by (refused why) e next = absurd cc
check_done_by (answered d) e next = next d refl

-- a legal cell's counts are within its places
pub legal_counted : (cell : Cell) → check_circuit (circuit_of cell) ≡ answered (circuit_of cell) → Counted cell.header
legal_counted cell e = rw (header_kept cell) at (counted (header_of (circuit_of cell)) (circuit_checked e).limits)

-- a reading
module _ (file : List ℕ) (x : Result Cell Refusal) (e : x ≡ reading (read_cell file)) where
  pub reading_answers : cell_by x ≡ read_cell file
  reading_answers = rw e (reading_by (read_cell file))

  pub reading_refused : (why : Refusal) → x ≡ Err why → read_cell file ≡ refused why
  reading_refused why p = sym reading_answers ∙ ap cell_by p

  pub reading_done : (cell : Cell) → x ≡ Ok cell → read_cell file ≡ answered (circuit_of cell)
  reading_done cell p = sym reading_answers ∙ ap cell_by p

  -- a cell that was read is legal
  pub reading_legal : (cell : Cell) → x ≡ Ok cell → check_circuit (circuit_of cell) ≡ answered (circuit_of cell)
  reading_legal cell p = read_checked file (circuit_of cell) (reading_done cell p)

-- a check
module _ (cell : Cell) (reply : Reply) (e : reply ≡ reply_of (check_circuit (circuit_of cell))) where
  pub check_refused : (why : Refusal) → reply ≡ Err why → check_circuit (circuit_of cell) ≡ refused why
  check_refused why p = check_refused_by why (check_circuit (circuit_of cell)) (sym p ∙ e)

  pub check_legal : reply ≡ Ok tt → check_circuit (circuit_of cell) ≡ answered (circuit_of cell)
  check_legal p = check_done_by (check_circuit (circuit_of cell)) (sym p ∙ e) (λ d f. f ∙ ap answered (check_same f))
