-- What is printed of a file: every field of every record in chain order, or its refusal.
use Rattle.std.specs.Prelude.{ℕ, ◌+◌, ◌*◌, ◌≤◌, List, [], ◌∷◌, ◌++◌, length}
use Rattle.refusal.specs.Answer.{Answer, refused, answered}
use Rattle.format.specs.Circuit.{Circuit, header_of, first_node_number}
use Rattle.format.specs.Legal.{most_nodes, most_transistors, most_entries}
use Rattle.format.specs.File.{read_cell}
use Rattle.text.specs.Written.{Wrote}
use Rattle.fields.specs.Line.{line_room, cell_line, refused_line, node_line, transistor_line, entry_line}

-- a line for each element, numbered from a number on
unfoldable pub numbered : {A : Type 0} → (ℕ → A → List ℕ) → ℕ → List A → List ℕ
numbered line n [] = []
numbered line n (x ∷ xs) = line n x ++ numbered line (n + 1) xs

-- Nodes have their numbers in the cell, transistors and entries their places, from 0.
unfoldable pub shown_cell : Circuit → List ℕ
shown_cell c =
    cell_line (header_of c) ++ numbered node_line first_node_number c.nodes ++ numbered transistor_line 0 c.transistors ++ numbered entry_line 0 c.schedule

abbrev pub shown : Answer Circuit → List ℕ
shown (refused why) = refused_line why
shown (answered c) = shown_cell c

unfoldable pub shown_file : List ℕ → List ℕ
shown_file file = shown (read_cell file)

-- as many lines as a cell can have
abbrev pub most_lines : ℕ
most_lines = 1 + most_nodes + most_transistors + most_entries

-- what a function that writes lines, at most so many, leaves
pub record LinesWrote (most : ℕ) (before after : List ℕ) (at : ℕ) (lines : List ℕ) (end : ℕ) : Type 0 where
  pub wrote : Wrote before after at lines end
  pub short : length lines ≤ line_room * most
