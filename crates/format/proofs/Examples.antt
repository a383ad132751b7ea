-- The definitions at work: document 01's inverter, read and damaged, its limits, its letters fixed, and saved.
-- What is expected comes from documents 01 and 02.
use mathlib.Core.Path.{◌≡◌, refl}
use mathlib.Core.List.{List, [], ◌∷◌, ◌++◌}
use mathlib.Core.Bool.{Bool, true, false, cond}
use Prim.Native.Nat.{ℕ}
use lib.ListN.{set, take, drop, replicate}
use lib.Dec.{eqb}
use Rattle.units.specs.Units.{ohms, femtofarads, picoseconds}
use Rattle.refusal.specs.Answer.{Answer, answered, answer_number}
use Rattle.format.specs.Circuit.{Circuit, every}
use Rattle.format.specs.Legal.{limits_kept, node_legal, transistor_legal, entry_legal, fields_legal, rising_from, rising, check_circuit}
use Rattle.format.specs.File.{zero_bytes, file_header, header_legal, chain, node_at, transistor_at, entry_at}
use Rattle.format.specs.File.{node_blank, transistor_blank, entry_blank, file_circuit, read_fields, read_chains, read_cell}
use Rattle.format.specs.Saved.{node_bytes, transistor_bytes, entry_bytes, chain_bytes, header_bytes, saved_file, saved_in, save_file, out_after, length_after}
use Rattle.format.specs.Fixing.{Setting, free, low, high, Fixing, fixed_source, fixed, fixed_bytes, fixed_file, without_letters}

-- the header, two nodes, two transistors, one schedule entry
abbrev inverter : List ℕ
inverter =
    (0x02 ∷ 0x02 ∷ 0x01 ∷ 0x02 ∷ 0xe8 ∷ 0x03 ∷ 0x00 ∷ 0x00 ∷ 0x01 ∷ 0x00 ∷ 0x03 ∷ 0x00 ∷ 0x05 ∷ 0x00 ∷ 0x00 ∷ 0x00 ∷ [])
    ++ (0x01 ∷ 0x00 ∷ 0x02 ∷ 0x00 ∷ 0x01 ∷ 0x02 ∷ 0x00 ∷ 0x00 ∷ 0x00 ∷ 0x00 ∷ 0x00 ∷ 0x00 ∷ 0x00 ∷ 0x00 ∷ 0x00 ∷ 0x00 ∷ [])
    ++ (0x01 ∷ 0x00 ∷ 0x00 ∷ 0x00 ∷ 0x00 ∷ 0x03 ∷ 0x32 ∷ 0x00 ∷ 0x00 ∷ 0x00 ∷ 0x00 ∷ 0x00 ∷ 0x00 ∷ 0x00 ∷ 0x00 ∷ 0x00 ∷ [])
    ++ (0x02 ∷ 0x00 ∷ 0x04 ∷ 0x00 ∷ 0x01 ∷ 0x02 ∷ 0x01 ∷ 0x03 ∷ 0xd0 ∷ 0x07 ∷ 0x00 ∷ 0x00 ∷ 0x00 ∷ 0x00 ∷ 0x00 ∷ 0x00 ∷ [])
    ++ (0x02 ∷ 0x00 ∷ 0x00 ∷ 0x00 ∷ 0x00 ∷ 0x02 ∷ 0x00 ∷ 0x03 ∷ 0xe8 ∷ 0x03 ∷ 0x00 ∷ 0x00 ∷ 0x00 ∷ 0x00 ∷ 0x00 ∷ 0x00 ∷ [])
    ++ (0x03 ∷ 0x00 ∷ 0x00 ∷ 0x00 ∷ 0x02 ∷ 0x04 ∷ 0x00 ∷ 0x00 ∷ 0xc8 ∷ 0x00 ∷ 0x00 ∷ 0x00 ∷ 0x00 ∷ 0x00 ∷ 0x00 ∷ 0x00 ∷ [])

-- the inverter's cell, with three sources: of the input's start, of the inner node's start, of the entry
abbrev inverter_cell : ℕ → ℕ → ℕ → Circuit
inverter_cell inputStart innerStart entrySource = record {
  letters = 2;
  horizon = picoseconds 1000;
  nodes =
      record { role = 1; start = inputStart; capacitance = femtofarads 0 }
      ∷ record { role = 0; start = innerStart; capacitance = femtofarads 50 }
      ∷ [];
  transistors =
      record { polarity = 1; gate = 2; first = 1; second = 3; resistance = ohms 2000 }
      ∷ record { polarity = 0; gate = 2; first = 0; second = 3; resistance = ohms 1000 }
      ∷ [];
  schedule = record { input = 2; source = entrySource; time = picoseconds 200 } ∷ [];
}

-- the number of the answer to a file; to unfold it is to unfold all that the reader's answer is made of
number : List ℕ → ℕ
unfolding read_cell header_legal limits_kept file_header zero_bytes read_chains chain read_fields every node_blank transistor_blank entry_blank file_circuit node_at transistor_at entry_at fields_legal node_legal transistor_legal entry_legal rising rising_from
number file = answer_number (read_cell file)

-- the inverter is read: letter 0, its complement, letter 1
inverter_read : read_cell inverter ≡ answered (inverter_cell 2 3 4)
unfolding number
inverter_read = refl

-- the node chain the other way round: node 2 is then the inner record, node 3 the input
abbrev turned : List ℕ
turned = set (set (set inverter 8 2) 34 1) 18 0

-- nodes are numbered in chain order: the entry's node 2 is then no input
chain_order : (number turned ≡ 4) × (number (set turned 84 3) ≡ 0)
unfolding number
chain_order = (refl, refl)

-- what a file with one byte changed is answered: which byte, its new value, the number
abbrev Damage : Type 0
Damage = ℕ × ℕ × ℕ

abbrev as_stated : List ℕ → Damage → Bool
as_stated file d = eqb (number (set file d.0 d.1)) d.2

-- no bytes, and 15, are too few, also where the header is wrong
too_short : (number [] ≡ 1) × (number (take 15 inverter) ≡ 1) × (number (take 15 (set inverter 0 25)) ≡ 1)
unfolding number
too_short = (refl, refl, refl)

-- 95 and 97 are not the stated length, also where a chain is wrong; a wrong header is found before
wrong_length : (number (take 95 inverter) ≡ 1) × (number (inverter ++ (0 ∷ [])) ≡ 1) × (number (take 95 (set inverter 8 0)) ≡ 1) × (number (take 95 (set inverter 0 25)) ≡ 2)
unfolding number
wrong_length = (refl, refl, refl, refl)

-- N, M, E, K and H
abbrev header_damages : List Damage
header_damages =
    (0, 0, 2) ∷ (0, 25, 2) ∷ (0, 24, 1) ∷ (1, 0, 2) ∷ (1, 65, 2) ∷ (1, 64, 1) ∷ (2, 65, 2) ∷ (2, 64, 1) ∷ (2, 0, 1)
    ∷ (3, 13, 2) ∷ (3, 12, 0) ∷ (3, 0, 4) ∷ (6, 16, 2) ∷ (6, 15, 0) ∷ (7, 1, 2) ∷ []

-- no such record, wrong kind, ends early, ends late; of the three chains
abbrev chain_damages : List Damage
chain_damages =
    (8, 0, 3) ∷ (8, 6, 3) ∷ (9, 1, 3) ∷ (8, 3, 3) ∷ (8, 2, 3) ∷ (34, 1, 3) ∷ (16, 2, 3) ∷ (18, 0, 3)
    ∷ (10, 0, 3) ∷ (10, 1, 3) ∷ (10, 4, 3) ∷ (66, 3, 3) ∷ (64, 0, 3)
    ∷ (12, 0, 3) ∷ (12, 4, 3) ∷ (82, 5, 3) ∷ (80, 4, 3) ∷ []

-- role, source, capacitance; type, gate, ends, resistance; input, source, time
abbrev field_damages : List Damage
field_damages =
    (20, 2, 4) ∷ (20, 0, 4) ∷ (21, 6, 4) ∷ (21, 5, 0) ∷ (22, 1, 4) ∷ (36, 1, 4) ∷ (37, 6, 4) ∷ (38, 0, 4) ∷ (38, 1, 0)
    ∷ (52, 2, 4) ∷ (53, 4, 4) ∷ (54, 4, 4) ∷ (54, 3, 4) ∷ (55, 4, 4) ∷ (55, 1, 4) ∷ (58, 4, 4) ∷ (58, 3, 0)
    ∷ (84, 0, 4) ∷ (84, 1, 4) ∷ (84, 3, 4) ∷ (84, 4, 4) ∷ (85, 6, 4) ∷ (88, 0, 4) ∷ (89, 4, 4) ∷ (89, 3, 0) ∷ []

-- each damage of the inverter is answered as stated
damages_refused : (every (as_stated inverter) header_damages ≡ true) × (every (as_stated inverter) chain_damages ≡ true) × (every (as_stated inverter) field_damages ≡ true)
unfolding number every
damages_refused = (refl, refl, refl)

-- the weakest transistor, 0x03a980 = 240,000 ohm, is read; one ohm more is not (document 02, wish 3)
weakest : (number (set (set (set inverter 56 128) 57 169) 58 3) ≡ 0) × (number (set (set (set inverter 56 129) 57 169) 58 3) ≡ 4)
unfolding number
weakest = (refl, refl)

-- the bytes that are not named: of the header, then of the five records
abbrev header_blanks : List ℕ
header_blanks = 14 ∷ 15 ∷ []

abbrev record_blanks : List ℕ
record_blanks =
    (17 ∷ 24 ∷ 25 ∷ 26 ∷ 27 ∷ 28 ∷ 29 ∷ 30 ∷ 31 ∷ [])
    ++ (33 ∷ 40 ∷ 41 ∷ 42 ∷ 43 ∷ 44 ∷ 45 ∷ 46 ∷ 47 ∷ [])
    ++ (49 ∷ 60 ∷ 61 ∷ 62 ∷ 63 ∷ [])
    ++ (65 ∷ 76 ∷ 77 ∷ 78 ∷ 79 ∷ [])
    ++ (81 ∷ 86 ∷ 87 ∷ 92 ∷ 93 ∷ 94 ∷ 95 ∷ [])

-- a byte that is not named and not zero is refused 2 in the header, 4 in a record
blanks_refused : (every (λ i. as_stated inverter (i, 1, 2)) header_blanks ≡ true) × (every (λ i. as_stated inverter (i, 1, 4)) record_blanks ≡ true)
unfolding number every
blanks_refused = (refl, refl)

-- the header check, with one byte changed
abbrev header_passes : ℕ → ℕ → Bool
header_passes i byte = header_legal (set inverter i byte)

-- 24 nodes and 12 letters pass, 25 and 13 do not
header_limits : (header_passes 0 24 ≡ true) × (header_passes 0 25 ≡ false) × (header_passes 3 12 ≡ true) × (header_passes 3 13 ≡ false)
unfolding number
header_limits = (refl, refl, refl, refl)

-- the inverter without its entry: E and the first record of the schedule chain are 0
abbrev no_entries : List ℕ
no_entries = take 80 (set (set inverter 2 0) 12 0)

-- a schedule chain of no records that starts ends late
empty_schedule : (number no_entries ≡ 0) × (number (set no_entries 12 1) ≡ 3)
unfolding number
empty_schedule = (refl, refl)

-- the inverter with a second entry: time 201, node 2, low
abbrev two_entries : List ℕ
two_entries =
    set (set inverter 2 2) 82 6
    ++ (0x03 ∷ 0x00 ∷ 0x00 ∷ 0x00 ∷ 0x02 ∷ 0x00 ∷ 0x00 ∷ 0x00 ∷ 0xc9 ∷ 0x00 ∷ 0x00 ∷ 0x00 ∷ 0x00 ∷ 0x00 ∷ 0x00 ∷ 0x00 ∷ [])

-- the times 200 and 200, 200 and 199 do not rise
abbrev order_damages : List Damage
order_damages = (104, 0xc9, 0) ∷ (104, 0xc8, 5) ∷ (104, 0xc7, 5) ∷ []

-- a wrong field, and a wrong byte that is not named, are found before a wrong order; a wrong chain before them
abbrev order_last : List Damage
order_last = (101, 6, 4) ∷ (97, 1, 4) ∷ (22, 1, 4) ∷ (10, 0, 3) ∷ (14, 1, 2) ∷ []

-- a schedule that does not rise is refused 5, and only where nothing else is wrong
order_refused : (every (as_stated two_entries) order_damages ≡ true) × (every (as_stated (set two_entries 104 0xc8)) order_last ≡ true)
unfolding number every
order_refused = (refl, refl)

-- the check of a cell handed over: letter 2 is no letter of it
cell_checked : (check_circuit (inverter_cell 2 3 4) ≡ answered (inverter_cell 2 3 4)) × (answer_number (check_circuit (inverter_cell 2 3 6)) ≡ 4) × (answer_number (check_circuit (inverter_cell 7 3 4)) ≡ 4)
unfolding number check_circuit
cell_checked = (refl, refl, refl)

-- one letter fixed, the others free
abbrev fixing : ℕ → Setting → Fixing
fixing letter setting k = cond (eqb k letter) setting free

-- letter 0 low: the letter becomes 0 and its complement 1; high: the other way; letter 1 stays
letter_fixed_lem : (fixed (fixing 0 low) (inverter_cell 2 3 4) ≡ inverter_cell 0 1 4) × (fixed (fixing 0 high) (inverter_cell 2 3 4) ≡ inverter_cell 1 0 4) × (fixed (fixing 1 high) (inverter_cell 2 3 5) ≡ inverter_cell 2 3 0)
unfolding fixed fixed_source
letter_fixed_lem = (refl, refl, refl)

-- in the file just bytes 21, 37 and 85 change
file_fixed : (fixed_file (fixing 0 low) inverter ≡ set (set inverter 21 0) 37 1) × (fixed_file (fixing 1 high) inverter ≡ set inverter 85 1)
unfolding fixed_bytes fixed_source
file_fixed = (refl, refl)

-- without letters is a matter of the sources, not of K
letters_named : (without_letters (inverter_cell 0 1 1) ≡ true) × (without_letters (inverter_cell 0 1 4) ≡ false) × (without_letters (inverter_cell 2 1 0) ≡ false)
unfolding without_letters every
letters_named = (refl, refl, refl)

-- a file saved in a room of this length; to unfold it is to unfold all that the answer is made of
saved : ℕ → List ℕ → Answer (List ℕ)
unfolding number saved_in saved_file header_bytes chain_bytes node_bytes transistor_bytes entry_bytes
saved room file = save_file room file

-- the inverter's cell is saved as document 01's bytes
inverter_saved : saved_file (inverter_cell 2 3 4) ≡ inverter
unfolding saved
inverter_saved = refl

-- the node chain the other way round, with the entry at the input: the records come in chain order, and the chains start at 1, 3 and 5 again
turned_saved : saved 96 (set turned 84 3) ≡ answered (set (set (set (set (set (set (set inverter 20 0) 21 3) 22 50) 36 1) 37 2) 38 0) 84 3)
unfolding saved
turned_saved = refl

-- without a schedule bytes 12 and 13 are 0
no_schedule_saved : (saved 80 no_entries ≡ answered no_entries) × (take 2 (drop 12 no_entries) ≡ 0 ∷ 0 ∷ [])
unfolding saved
no_schedule_saved = (refl, refl)

-- numbers of more than one byte stay: a horizon of 0x0f03e8, a resistance of 0x0307d0, a time of 0x0003c8
numbers_saved : saved 96 (set (set (set inverter 6 15) 58 3) 89 3) ≡ answered (set (set (set inverter 6 15) 58 3) 89 3)
unfolding saved
numbers_saved = refl

-- a room of 95 bytes is refused 8, and only where nothing else is wrong
room_refused : (answer_number (saved 95 inverter) ≡ 8) × (answer_number (saved 95 (set inverter 0 25)) ≡ 2) × (answer_number (saved 0 turned) ≡ 4)
unfolding saved
room_refused = (refl, refl, refl)

-- bytes past the file keep their content, and a refusal leaves all bytes and the length
past_kept : (out_after (replicate 98 7) (saved 98 inverter) ≡ inverter ++ (7 ∷ 7 ∷ [])) × (out_after (7 ∷ []) (saved 1 inverter) ≡ 7 ∷ []) × (length_after 7 (saved 98 inverter) ≡ 96) × (length_after 7 (saved 1 inverter) ≡ 7)
unfolding saved
past_kept = (refl, refl, refl, refl)
