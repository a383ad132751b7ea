-- The lines of a value change dump (document 02, wish 5; IEEE 1364), as bytes: the declarations, a time, and values of node records.
use Rattle.std.specs.Prelude.{ℕ, ◌+◌, List, [], ◌∷◌, ◌++◌, Bool, cond, eqb}
use Rattle.lists.specs.Tests.{below}
use Rattle.format.specs.Circuit.{first_node_number}
use Rattle.text.specs.Decimal.{decimal, ended}
use Rattle.text.specs.Lines.{lines_of}
use Rattle.vcd.specs.Words.{timescale_line, scope_line, var_word, name_word, end_word, upscope_line, defined_line}

-- the character that stands for a node
abbrev pub identifier : ℕ → ℕ
identifier n = 33 + n

-- a line for each node record, by its number
abbrev pub by_node : ℕ → (ℕ → List ℕ) → List ℕ
by_node nodes line = lines_of nodes (λ i. line (first_node_number + i))

-- a node record's wire: its identifier and its name
unfoldable pub var_line : ℕ → List ℕ
var_line n = var_word ++ identifier n ∷ name_word ++ decimal n ++ end_word

-- what comes before the first time, of a cell with so many node records
unfoldable pub declarations : ℕ → List ℕ
declarations nodes = timescale_line ++ scope_line ++ by_node nodes var_line ++ upscope_line ++ defined_line

-- a time: '#' and its digits
abbrev pub time_line : ℕ → List ℕ
time_line time = 35 ∷ ended time

-- a node's value: its digit, then its identifier
abbrev pub value_line : ℕ → ℕ → List ℕ
value_line n value = (48 + value) ∷ identifier n ∷ 10 ∷ []

-- the values of all node records
unfoldable pub value_lines : ℕ → (ℕ → ℕ) → List ℕ
value_lines nodes value = by_node nodes (λ n. value_line n (value n))

-- the values of those that have another than before
unfoldable pub change_lines : ℕ → (ℕ → ℕ) → (ℕ → ℕ) → List ℕ
change_lines nodes before after = by_node nodes (λ n. cond (eqb (before n) (after n)) [] (value_line n (after n)))

-- no node record has another value than before
unfoldable pub unchanged : ℕ → (ℕ → ℕ) → (ℕ → ℕ) → Bool
unchanged nodes before after = below nodes (λ i. eqb (before (first_node_number + i)) (after (first_node_number + i)))

-- a time with its changes; one that has none has no line
unfoldable pub moment_lines : ℕ → ℕ → (ℕ → ℕ) → (ℕ → ℕ) → List ℕ
moment_lines nodes time before after = cond (unchanged nodes before after) [] (time_line time ++ change_lines nodes before after)
