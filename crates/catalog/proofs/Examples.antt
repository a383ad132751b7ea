-- The first and the last cell of one transistor and of two, worked out, and the first one's file.
use mathlib.Core.Path.{◌≡◌, refl}
use mathlib.Core.List.{[], ◌∷◌, flat_map}
use native.Mathlib.Omega.{arith}
use Rattle.refusal.specs.declared.Refusal.TheVariants.{Question, Buffer}
use Rattle.refusal.specs.Answer.{refused, answered}
use Rattle.format.specs.Saved.{node_bytes, transistor_bytes, chain_bytes, header_bytes, saved_file, saved_in}
use Rattle.catalog.specs.Lists.{listed_at}
use Rattle.catalog.specs.Small.{transistor, small_transistors, small_cell, small_cells, small_file}
use Rattle.catalog.proofs.Cells.{listed_two, listed_none}

-- n, gate ground, from ground to supply
first_one : listed_at small_cells 0 ≡ answered (small_cell (transistor 0 0 0 1 ∷ []))
unfolding listed_at small_cells small_transistors flat_map
first_one = refl

-- p, gate the inner node, from it to the input
last_one : listed_at small_cells 95 ≡ answered (small_cell (transistor 1 3 3 2 ∷ []))
unfolding listed_at small_cells small_transistors flat_map
last_one = refl

first_two : listed_at small_cells 96 ≡ answered (small_cell (transistor 0 0 0 1 ∷ transistor 0 0 0 1 ∷ []))
unfolding small_transistors flat_map
first_two = listed_two 0 0 (omega arith) (omega arith)

last_two : listed_at small_cells 9311 ≡ answered (small_cell (transistor 1 3 3 2 ∷ transistor 1 3 3 2 ∷ []))
unfolding small_transistors flat_map
last_two = listed_two 95 95 (omega arith) (omega arith)

-- the file at place 0: 64 bytes, 8 where there are fewer
first_file : small_file 64 0 ≡ answered
    (2 ∷ 1 ∷ 0 ∷ 1 ∷ 10 ∷ 0 ∷ 0 ∷ 0 ∷ 1 ∷ 0 ∷ 3 ∷ 0 ∷ 0 ∷ 0 ∷ 0 ∷ 0
    ∷ 1 ∷ 0 ∷ 2 ∷ 0 ∷ 1 ∷ 2 ∷ 0 ∷ 0 ∷ 0 ∷ 0 ∷ 0 ∷ 0 ∷ 0 ∷ 0 ∷ 0 ∷ 0
    ∷ 1 ∷ 0 ∷ 0 ∷ 0 ∷ 0 ∷ 0 ∷ 1 ∷ 0 ∷ 0 ∷ 0 ∷ 0 ∷ 0 ∷ 0 ∷ 0 ∷ 0 ∷ 0
    ∷ 2 ∷ 0 ∷ 0 ∷ 0 ∷ 0 ∷ 0 ∷ 0 ∷ 1 ∷ 1 ∷ 0 ∷ 0 ∷ 0 ∷ 0 ∷ 0 ∷ 0 ∷ 0 ∷ [])
unfolding listed_at small_cells small_transistors flat_map saved_in saved_file header_bytes chain_bytes node_bytes transistor_bytes
first_file = refl

room_refused : small_file 63 0 ≡ refused Buffer
unfolding listed_at small_cells small_transistors flat_map saved_in saved_file header_bytes chain_bytes node_bytes transistor_bytes
room_refused = refl

-- past the last place 9 comes before 8
past_refused : small_file 0 9312 ≡ refused Question
unfolding saved_in
past_refused = rw (listed_none 9312 (omega arith)) refl
