-- The demands on runs, over the calls that there are: demand 3, and what demand 2 says of a start, a step and a run, with letters and
-- without. Each is a statement about whatever meets the contracts of the calls (crate commute's specs/).
use Rattle.std.specs.Prelude.{◌≡◌, List, ℕ}
use Rattle.refusal.specs.Answer.{answered}
use Rattle.format.specs.Circuit.{Circuit}
use Rattle.format.specs.Legal.{check_circuit}
use Rattle.format.specs.File.{read_cell}
use Rattle.format.specs.Fixing.{Fixing, fixed, fixed_file}
use Rattle.cell.specs.Value.{circuit_of, cell_of}
use Rattle.commute.specs.Interface.{Interface}
use Rattle.commute.specs.Demand.{OrderMakesNoDifference}
use Rattle.commute.specs.Alone.{QuestionsTellTheState, StartsByTheRules, EachPatternByTheRules, WithoutLettersByTheRules, NoLettersByTheRules, FullyFixedByTheRules}
use Rattle.demand.specs.FromC.{from_c}
use Rattle.demand.specs.ByValue.{by_value}

pub record Demands {Source R : Type 0} (K : Interface Source R) : Type 0 where
  pub order : OrderMakesNoDifference K
  pub starts : StartsByTheRules K
  pub each_pattern : EachPatternByTheRules K
  pub without_letters_lem : WithoutLettersByTheRules K
  pub no_letters : NoLettersByTheRules K
  pub fully_fixed : FullyFixedByTheRules K
  pub questions : QuestionsTellTheState K

-- of the calls from C
abbrev pub DemandsFromC : Type 0
DemandsFromC = Demands from_c

-- of the calls by value
abbrev pub DemandsByValue : Type 0
DemandsByValue = Demands by_value

-- A fixed cell has a file and a value: the file with its source bytes fixed is read as it, and its value is checked as it.
unfoldable pub FixedFileIsRead : Type 0
FixedFileIsRead = (file : List ℕ) (c : Circuit) → read_cell file ≡ answered c → (φ : Fixing) → read_cell (fixed_file φ file) ≡ answered (fixed φ c)

unfoldable pub FixedValueIsChecked : Type 0
FixedValueIsChecked = (c : Circuit) → check_circuit c ≡ answered c → (φ : Fixing) → check_circuit (circuit_of (cell_of (fixed φ c))) ≡ answered (fixed φ c)
