-- The parts of a cell's file, of the bytes that were written.
use mathlib.Core.Path.{◌≡◌, sym, ◌∙◌, ap}
use mathlib.Core.List.{List, ◌++◌}
use Prim.Native.Nat.{ℕ, ◌+◌, ◌*◌, ◌≤◌}
use native.Mathlib.Omega.{arith}
use lib.ListN.{length}
use Rattle.format.specs.declared.Header.{Header}
use Rattle.format.specs.Circuit.{no_node, no_transistor, no_entry}
use Rattle.format.specs.Saved.{header_bytes, node_bytes, transistor_bytes, entry_bytes, chain_bytes, nodes_from, transistors_from, entries_from, saved_file}
use Rattle.format.proofs.SavedChain.{chain_bytes_length}
use Rattle.cell.specs.declared.Cell.{Cell}
use Rattle.cell.specs.Value.{firsts, circuit_of}
use Rattle.cell.proofs.Firsts.{length_firsts}
use Rattle.cell.proofs.Check.{header_kept}
use Rattle.text.specs.Written.{Wrote}
use Rattle.text.proofs.Written.{wrote_length, wrote_then}

-- where the records of a chain end, and that the buffer keeps its length
pub chain_end : {A : Type 0} (bytes : ℕ → A → List ℕ) → ((next : ℕ) (x : A) → length (bytes next x) ≡ 16) → (r n : ℕ) (d : A) (xs : List A) {a b : List ℕ} {at e : ℕ}
    → Wrote a b at (chain_bytes bytes r (firsts n d xs)) e → at + 16 * n ≤ length a → (e ≡ at + 16 * n) × (length b ≡ length a)
chain_end bytes long r n d xs w room =
    let k : length (chain_bytes bytes r (firsts n d xs)) ≡ 16 * n = chain_bytes_length bytes long r (firsts n d xs) ∙ ap (λ (m : ℕ). 16 * m) (length_firsts d n xs) in
    (omega (arith, w.end_is), wrote_length w (omega arith))

-- a cell's file, its header's numbers given
abbrev parts : Cell → Header → List ℕ
parts cell h =
    header_bytes h
    ++ chain_bytes node_bytes nodes_from (firsts cell.header.nodes no_node cell.nodes)
    ++ chain_bytes transistor_bytes (transistors_from h) (firsts cell.header.transistors no_transistor cell.transistors)
    ++ chain_bytes entry_bytes (entries_from h) (firsts cell.header.entries no_entry cell.schedule)

file_parts : (cell : Cell) → saved_file (circuit_of cell) ≡ parts cell cell.header
unfolding saved_file circuit_of
file_parts cell = ap (parts cell) (header_kept cell)

-- header, nodes, transistors and schedule, one behind the other, are the file
pub file_written : (cell : Cell) {first a b c d e : List ℕ} {i j k m : ℕ} → first ≡ header_bytes cell.header → Wrote a b 0 first i
    → Wrote b c i (chain_bytes node_bytes nodes_from (firsts cell.header.nodes no_node cell.nodes)) j
    → Wrote c d j (chain_bytes transistor_bytes (transistors_from cell.header) (firsts cell.header.transistors no_transistor cell.transistors)) k
    → Wrote d e k (chain_bytes entry_bytes (entries_from cell.header) (firsts cell.header.entries no_entry cell.schedule)) m
    → Wrote a e 0 (saved_file (circuit_of cell)) m
file_written cell is h n t s =
    rw (file_parts cell, sym is) (wrote_then (wrote_then (wrote_then h n (omega arith)) t (omega arith)) s (omega arith))
