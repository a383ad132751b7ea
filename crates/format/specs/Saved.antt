-- The file that a cell is saved as (document 02, wish 1), and the answer to a cell and to a file that are to be saved.
use Rattle.std.specs.Prelude.{ℕ, zero, suc, ◌+◌, ◌/◌, ◌%◌, List, [], ◌∷◌, ◌++◌, length, drop, replicate, leb}
use Rattle.refusal.specs.declared.Refusal.TheVariants.{Buffer}
use Rattle.refusal.specs.Answer.{Answer, refused, answered, check}
use Rattle.format.specs.declared.Header as header
use Rattle.format.specs.declared.Node.{Node}
use Rattle.format.specs.declared.Transistor.{Transistor}
use Rattle.format.specs.declared.Entry.{Entry}
use Rattle.format.specs.Circuit.{Circuit, header_of}
use Rattle.format.specs.Legal.{check_circuit}
use Rattle.format.specs.File.{node_kind, transistor_kind, entry_kind, read_cell}

-- a number of two and of four bytes, little-endian
abbrev pub half_bytes : ℕ → List ℕ
half_bytes n = n % 256 ∷ n / 256 % 256 ∷ []

abbrev pub word_bytes : ℕ → List ℕ
word_bytes n = half_bytes n ++ half_bytes (n / 65536)

-- bytes that are not named
abbrev pub blank_bytes : ℕ → List ℕ
blank_bytes n = replicate n 0

-- The records of a chain are numbered one after the other. The first number of n records, numbered from r on; zero where there is none.
abbrev pub first_from : ℕ → ℕ → ℕ
first_from r zero = 0
first_from r (suc n) = r

-- what every record begins with: its kind and the next record of its chain
abbrev pub link_bytes : ℕ → ℕ → List ℕ
link_bytes kind next = kind ∷ 0 ∷ half_bytes next

-- a record of each kind, with the next record of its chain
unfoldable pub node_bytes : ℕ → Node → List ℕ
node_bytes next n = link_bytes node_kind next ++ n.role ∷ n.start ∷ half_bytes n.capacitance.0 ++ blank_bytes 8

unfoldable pub transistor_bytes : ℕ → Transistor → List ℕ
transistor_bytes next t =
    link_bytes transistor_kind next ++ t.polarity ∷ t.gate ∷ t.first ∷ t.second ∷ word_bytes t.resistance.0 ++ blank_bytes 4

unfoldable pub entry_bytes : ℕ → Entry → List ℕ
entry_bytes next e =
    link_bytes entry_kind next ++ e.input ∷ e.source ∷ blank_bytes 2 ++ word_bytes e.time.0 ++ blank_bytes 4

-- the records of a chain in its order, numbered from r on: each is followed by the next number, the last by zero
unfoldable pub chain_bytes : {A : Type 0} → (ℕ → A → List ℕ) → ℕ → List A → List ℕ
chain_bytes bytes r [] = []
chain_bytes bytes r (x ∷ xs) = bytes (first_from (r + 1) (length xs)) x ++ chain_bytes bytes (r + 1) xs

-- node records come first, then transistors, then the schedule: where each is numbered from
abbrev pub nodes_from : ℕ
nodes_from = 1

abbrev pub transistors_from : header.Header → ℕ
transistors_from h = nodes_from + h.nodes

abbrev pub entries_from : header.Header → ℕ
entries_from h = transistors_from h + h.transistors

unfoldable pub header_bytes : header.Header → List ℕ
header_bytes h =
    h.nodes ∷ h.transistors ∷ h.entries ∷ h.letters ∷ word_bytes h.horizon.0
    ++ half_bytes (first_from nodes_from h.nodes)
    ++ half_bytes (first_from (transistors_from h) h.transistors)
    ++ half_bytes (first_from (entries_from h) h.entries)
    ++ blank_bytes 2

unfoldable pub saved_file : Circuit → List ℕ
saved_file c =
    header_bytes (header_of c)
    ++ chain_bytes node_bytes nodes_from c.nodes
    ++ chain_bytes transistor_bytes (transistors_from (header_of c)) c.transistors
    ++ chain_bytes entry_bytes (entries_from (header_of c)) c.schedule

-- 8, last of all: the room is shorter than the file
unfoldable pub saved_in : ℕ → Answer Circuit → Answer (List ℕ)
saved_in room (refused why) = refused why
saved_in room (answered c) = check (leb (length (saved_file c)) room) Buffer (answered (saved_file c))

-- a cell handed over as a value: 2, 4, 5, then 8
abbrev pub save_cell : ℕ → Circuit → Answer (List ℕ)
save_cell room c = saved_in room (check_circuit c)

-- a cell file of any bytes: 1 to 5 in the reader's order, then 8
abbrev pub save_file : ℕ → List ℕ → Answer (List ℕ)
save_file room file = saved_in room (read_cell file)

-- The bytes lent for the file, afterwards: those past the file keep their content, and a refusal leaves all as they were.
abbrev pub out_after : List ℕ → Answer (List ℕ) → List ℕ
out_after out (refused why) = out
out_after out (answered file) = file ++ drop (length file) out

-- the number that tells the file's length, afterwards
abbrev pub length_after : ℕ → Answer (List ℕ) → ℕ
length_after old (refused why) = old
length_after old (answered file) = length file
