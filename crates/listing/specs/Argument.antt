-- The table length that a program's argument names.
use Rattle.std.specs.Prelude.{◌≡◌, ◌&&◌, cond, List, ℕ, ◌≤◌, leb, Option, Some, None, IfSome, Result, Ok, Err}
use Rattle.text.specs.declared.ParseError.{ParseError}
use Rattle.text.specs.Number.{parsed}
use Rattle.diagram.specs.Held.{least_entries, most_entries}

-- a length in its range
abbrev pub length_of : ℕ → Option ℕ
length_of n = cond (leb least_entries n && leb n most_entries) (Some n) None

abbrev pub parsed_length : Result ℕ ParseError → Option ℕ
parsed_length (Ok n) = length_of n
parsed_length (Err why) = None

-- a decimal number in the range; no other text names a length
abbrev pub table_length : List ℕ → Option ℕ
table_length text = parsed_length (parsed text)

-- such a length
pub record LengthAs (text : List ℕ) (length : Option ℕ) : Type 0 where
  pub is : length ≡ table_length text
  pub most : IfSome length (λ n. n ≤ most_entries)
