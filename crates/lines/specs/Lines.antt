-- What the functions that write lines are handed, and what they write.
use Rattle.std.specs.Prelude.{List, [], Bool, not, ◌||◌, cond, ℕ, ◌+◌, ◌<◌, ◌≤◌, get_or, eqb, Result, Ok, Err}
use Rattle.refusal.specs.declared.Refusal.{Refusal}
use Rattle.format.specs.Circuit.{first_node_number}
use Rattle.format.specs.Legal.{most_nodes}
use Rattle.diagram.specs.Table.{Table}
use Rattle.diagram.specs.Operation.{count}
use Rattle.record.specs.declared.Run.{Run}
use Rattle.functions.specs.Open.{Legible}
use Rattle.text.specs.Written.{Wrote}
use Rattle.lines.specs.Listing.{node_line, lines_of}

-- no line is longer: three numbers of ten digits, each with a byte behind it
abbrev pub line_room : ℕ
line_room = 33

-- nor are the lines of a call: one for each node record
abbrev pub call_room : ℕ
call_room = 792

-- bytes written, at most so many
pub record Put (before after : List ℕ) (at : ℕ) (bytes : List ℕ) (most end : ℕ) : Type 0 where
  pub wrote : Wrote before after at bytes end
  pub within : end ≤ at + most

-- the line of a node record, by its place, the entry of its value and whether it is listed
abbrev pub entry_line : ℕ → Table → ℕ → Bool → ℕ → ℕ → List ℕ
entry_line letters t time listed n e = cond listed (node_line time n (count letters t e)) []

-- the lines of a run: every node record's, or those whose entry is another than before
abbrev pub node_lines : ℕ → ℕ → Table → ℕ → Bool → List ℕ → List ℕ → List ℕ
node_lines letters nodes t time all values before =
    lines_of nodes (λ i. entry_line letters t time (all || not (eqb (get_or values i 0) (get_or before i 0))) (first_node_number + i) (get_or values i 0))

-- columns and entries that the lines of a run are made of
pub record Entries (letters nodes : ℕ) (l w h : List ℕ) (used : ℕ) (values : List ℕ) : Type 0 where
  pub legible : Legible letters l w h used
  pub few : nodes ≤ most_nodes
  pub within : (i : ℕ) → i < nodes → get_or values i 0 < used

-- by a call's result
abbrev pub by_result : Result Run Refusal → (Run → List ℕ) → (Refusal → List ℕ) → List ℕ
by_result (Ok r) lines stop = lines r
by_result (Err why) lines stop = stop why
