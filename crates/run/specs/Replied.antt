-- What reading or checking a cell says of it.
use Rattle.std.specs.Prelude.{◌≡◌, false, eqb, Result, IfOk, IfErr}
use Rattle.refusal.specs.declared.Refusal.{Refusal}
use Rattle.refusal.specs.declared.Refusal.TheVariants.{Buffer}
use Rattle.refusal.specs.Number.{refusal_number}
use Rattle.refusal.specs.Answer.{answered}
use Rattle.format.specs.Legal.{check_circuit}
use Rattle.cell.specs.declared.Cell.{Cell}
use Rattle.cell.specs.Value.{circuit_of}

-- a cell that was not refused is legal, and no cell is refused 8
pub record Replied (read : Result Cell Refusal) : Type 0 where
  pub legal : IfOk read (λ (cell : Cell). check_circuit (circuit_of cell) ≡ answered (circuit_of cell))
  pub other : IfErr read (λ (why : Refusal). eqb (refusal_number why) (refusal_number Buffer) ≡ false)
