-- What the program prints for its argument: the file of the cell at a place, a refusal, or how it is used.
use Rattle.std.specs.Prelude.{◌≡◌, List, [], ◌∷◌, ℕ, ◌≤◌, length, take, Result, Ok, Err}
use Rattle.refusal.specs.declared.Refusal.TheVariants.{Question}
use Rattle.text.specs.declared.ParseError.{ParseError}
use Rattle.text.specs.declared.ParseError.TheVariants.{Large, Other}
use Rattle.fields.specs.Line.{refused_line}
use Rattle.output.specs.declared.Printed.{Printed}
use Rattle.output.specs.Printed.{saved_output, saved_errors}
use Rattle.catalog.specs.Lists.{listed_at}
use Rattle.catalog.specs.Small.{small_cells}

-- 'usage: small PLACE, a number from 0 to 9311' and the end of its line
abbrev pub usage_line : List ℕ
usage_line =
    117 ∷ 115 ∷ 97 ∷ 103 ∷ 101 ∷ 58 ∷ 32 ∷ 115 ∷ 109 ∷ 97 ∷ 108 ∷ 108 ∷ 32 ∷ 80 ∷ 76 ∷ 65 ∷ 67 ∷ 69 ∷ 44 ∷ 32 ∷ 97 ∷ 32 ∷ 110 ∷ 117 ∷ 109 ∷ 98 ∷ 101 ∷ 114 ∷ 32 ∷ 102 ∷ 114 ∷ 111 ∷ 109 ∷ 32 ∷ 48 ∷ 32 ∷ 116 ∷ 111 ∷ 32 ∷ 57 ∷ 51 ∷ 49 ∷ 49 ∷ 10 ∷ []

-- to standard output
abbrev pub small_output : Result ℕ ParseError → List ℕ
small_output (Ok place) = saved_output (listed_at small_cells place)
small_output (Err Large) = []
small_output (Err Other) = []

-- to standard error: a number beyond 32 bits is past the last place too
abbrev pub small_errors : Result ℕ ParseError → List ℕ
small_errors (Ok place) = saved_errors (listed_at small_cells place)
small_errors (Err Large) = refused_line Question
small_errors (Err Other) = usage_line

-- a message alone
pub record Message (line errors : List ℕ) (given : Printed) : Type 0 where
  pub none : given.output ≡ 0
  pub is : take given.errors errors ≡ line
  pub fits : given.errors ≤ length errors
