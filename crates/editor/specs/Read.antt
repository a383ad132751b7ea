-- sts_read: the header is five numbers, else 8; then the file is read.
use Rattle.std.specs.Prelude.{ℕ, List, [], ◌∷◌, length, eqb}
use Rattle.refusal.specs.declared.Refusal.TheVariants.{Buffer}
use Rattle.refusal.specs.Answer.{Answer, refused, answered, check}
use Rattle.format.specs.Circuit.{Circuit, header_of}
use Rattle.format.specs.File.{read_cell}

unfoldable pub read_call : List ℕ → List ℕ → Answer Circuit
read_call file header = check (eqb (length header) 5) Buffer (read_cell file)

-- the numbers N, M, E, K and H
abbrev pub header_numbers : Circuit → List ℕ
header_numbers c =
    (header_of c).nodes ∷ (header_of c).transistors ∷ (header_of c).entries ∷ (header_of c).letters ∷ (header_of c).horizon.0 ∷ []

-- a refusal leaves the header as it was
abbrev pub header_after : List ℕ → Answer Circuit → List ℕ
header_after header (refused why) = header
header_after header (answered c) = header_numbers c
