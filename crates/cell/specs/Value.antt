-- A cell as a value, as the definitions see it, and the reader's answer as a value.
use Rattle.std.specs.Prelude.{ℕ, zero, suc, List, [], ◌∷◌, Result, Ok, Err}
use Rattle.refusal.specs.declared.Refusal.{Refusal}
use Rattle.refusal.specs.Answer.{Answer, refused, answered, result_of}
use Rattle.format.specs.Circuit.{Circuit, header_of, no_node, no_transistor, no_entry}
use Rattle.format.specs.Legal.{most_nodes, most_transistors, most_entries}
use Rattle.lists.specs.Padded.{padded}
use Rattle.cell.specs.declared.Cell.{Cell}

-- the first n of a list, d standing where the list has ended
unfoldable pub firsts : {A : Type 0} → ℕ → A → List A → List A
firsts zero d xs = []
firsts (suc n) d [] = d ∷ firsts n d []
firsts (suc n) d (x ∷ xs) = x ∷ firsts n d xs

-- The cell that a value states: as many records as its header counts. Places past the counts are not looked at.
unfoldable pub circuit_of : Cell → Circuit
circuit_of c = record {
  letters = c.header.letters;
  horizon = c.header.horizon;
  nodes = firsts c.header.nodes no_node c.nodes;
  transistors = firsts c.header.transistors no_transistor c.transistors;
  schedule = firsts c.header.entries no_entry c.schedule;
}

-- the value of a cell: its places past the counts are zero
unfoldable pub cell_of : Circuit → Cell
cell_of c = record {
  header = header_of c;
  nodes = padded most_nodes no_node c.nodes;
  transistors = padded most_transistors no_transistor c.transistors;
  schedule = padded most_entries no_entry c.schedule;
}

-- the reader's answer, of the definitions'
unfoldable pub reading : Answer Circuit → Result Cell Refusal
reading a = result_of cell_of a

-- the definitions' answer, of a cell that was read or the refusal
abbrev pub cell_by : Result Cell Refusal → Answer Circuit
cell_by (Ok cell) = answered (circuit_of cell)
cell_by (Err why) = refused why
