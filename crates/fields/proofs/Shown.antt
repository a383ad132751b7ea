-- The lines of a cell and of a file, of the lines that were written.
use mathlib.Core.Path.{◌≡◌, ap}
use mathlib.Core.List.{List, ◌++◌}
use Prim.Native.Nat.{ℕ}
use native.Mathlib.Omega.{arith}
use lib.ListN.{length-append}
use Rattle.refusal.specs.declared.Refusal.{Refusal}
use Rattle.std.specs.Prelude.{Result, Ok, Err}
use Rattle.format.specs.declared.Header.{Header}
use Rattle.format.specs.Circuit.{first_node_number, no_node, no_transistor, no_entry}
use Rattle.format.specs.Legal.{most_nodes, most_transistors, most_entries}
use Rattle.format.specs.File.{read_cell}
use Rattle.cell.specs.declared.Cell.{Cell}
use Rattle.cell.specs.Value.{firsts, circuit_of, reading}
use Rattle.cell.proofs.Check.{header_kept}
use Rattle.cell.proofs.Answers.{reading_refused, reading_done}
use Rattle.text.proofs.Written.{wrote_then}
use Rattle.fields.specs.Line.{cell_line, refused_line, node_line, transistor_line, entry_line, LineWrote}
use Rattle.fields.specs.Shown.{numbered, shown_cell, shown, shown_file, most_lines, LinesWrote}

abbrev records : Cell → Header → List ℕ
records cell h =
    cell_line h
    ++ numbered node_line first_node_number (firsts cell.header.nodes no_node cell.nodes)
    ++ numbered transistor_line 0 (firsts cell.header.transistors no_transistor cell.transistors)
    ++ numbered entry_line 0 (firsts cell.header.entries no_entry cell.schedule)

cell_shown : (cell : Cell) → shown_cell (circuit_of cell) ≡ records cell cell.header
unfolding shown_cell circuit_of
cell_shown cell = ap (records cell) (header_kept cell)

-- the lines of a cell's records behind its own
pub records_shown : (cell : Cell) {a b c d e : List ℕ} {i j k m : ℕ} → LineWrote a b 0 (cell_line cell.header) i
    → LinesWrote most_nodes b c i (numbered node_line first_node_number (firsts cell.header.nodes no_node cell.nodes)) j
    → LinesWrote most_transistors c d j (numbered transistor_line 0 (firsts cell.header.transistors no_transistor cell.transistors)) k
    → LinesWrote most_entries d e k (numbered entry_line 0 (firsts cell.header.entries no_entry cell.schedule)) m
    → LinesWrote most_lines a e 0 (shown_cell (circuit_of cell)) m
records_shown cell w n t s =
    rw (cell_shown cell)
    (record {
      wrote = wrote_then (wrote_then (wrote_then w.wrote n.wrote (omega arith)) t.wrote (omega arith)) s.wrote (omega arith);
      short = simp length-append (omega (arith, w.short, n.short, t.short, s.short));
    })

-- a refused file
pub file_refused : (file : List ℕ) (r : Result Cell Refusal) (why : Refusal) → r ≡ reading (read_cell file) → r ≡ Err why → shown_file file ≡ refused_line why
unfolding shown_file
file_refused file r why e p = ap shown (reading_refused file r e why p)

-- a file that was read
pub file_read : (file : List ℕ) (r : Result Cell Refusal) (cell : Cell) → r ≡ reading (read_cell file) → r ≡ Ok cell → shown_file file ≡ shown_cell (circuit_of cell)
unfolding shown_file
file_read file r cell e p = ap shown (reading_done file r e cell p)
