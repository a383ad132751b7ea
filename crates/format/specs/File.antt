-- The cell file (document 01): header, records, chains, and the answer to any list of bytes.
use Rattle.std.specs.Prelude.{ℕ, zero, suc, ◌+◌, ◌*◌, List, [], ◌∷◌, map, Bool, true, false, ◌&&◌, cond, length, get_or, leb, eqb}
use Rattle.std.proofs.Math.Option.{Option, some, none}
use Rattle.units.specs.Units.{ohms, femtofarads, picoseconds}
use Rattle.refusal.specs.declared.Refusal.TheVariants.{Length, Header, Chain, Record, Order}
use Rattle.refusal.specs.Answer.{Answer, refused, answered, check}
use Rattle.format.specs.declared.Header as header
use Rattle.format.specs.declared.Node.{Node}
use Rattle.format.specs.declared.Transistor.{Transistor}
use Rattle.format.specs.declared.Entry.{Entry}
use Rattle.format.specs.Circuit.{Circuit, every}
use Rattle.format.specs.Legal.{within, limits_kept, fields_legal, rising}

-- Multi-byte numbers are little-endian.
abbrev pub byte_at : List ℕ → ℕ → ℕ
byte_at file i = get_or file i 0

abbrev pub half_at : List ℕ → ℕ → ℕ
half_at file i = byte_at file i + 256 * byte_at file (i + 1)

abbrev pub word_at : List ℕ → ℕ → ℕ
word_at file i = half_at file i + 65536 * half_at file (i + 2)

-- the n bytes from i on are zero
unfoldable pub zero_bytes : List ℕ → ℕ → ℕ → Bool
zero_bytes file zero i = true
zero_bytes file (suc n) i = eqb (byte_at file i) 0 && zero_bytes file n (i + 1)

-- The header and the records are 16 bytes each; record r, from 1, starts at byte 16 r.
abbrev pub record_size : ℕ
record_size = 16

abbrev pub record_at : ℕ → ℕ
record_at r = record_size * r

-- The header: N, M, E, K, H; the first record of each chain; bytes 14 and 15 are not named.
unfoldable pub file_header : List ℕ → header.Header
file_header file = record {
  nodes = byte_at file 0;
  transistors = byte_at file 1;
  entries = byte_at file 2;
  letters = byte_at file 3;
  horizon = picoseconds (word_at file 4);
}

abbrev pub first_node : List ℕ → ℕ
first_node file = half_at file 8

abbrev pub first_transistor : List ℕ → ℕ
first_transistor file = half_at file 10

abbrev pub first_entry : List ℕ → ℕ
first_entry file = half_at file 12

-- 2: the header
unfoldable pub header_legal : List ℕ → Bool
header_legal file = limits_kept (file_header file) && zero_bytes file 2 14

-- how many records the header states
abbrev pub record_count : header.Header → ℕ
record_count h = h.nodes + h.transistors + h.entries

-- the length that the header states
abbrev pub stated_length : header.Header → ℕ
stated_length h = record_size * (1 + record_count h)

-- Every record: its kind, and the next record of its chain, zero at the end.
abbrev pub kind_at : List ℕ → ℕ → ℕ
kind_at file r = byte_at file (record_at r)

abbrev pub next_at : List ℕ → ℕ → ℕ
next_at file r = half_at file (record_at r + 2)

abbrev pub node_kind : ℕ
node_kind = 1

abbrev pub transistor_kind : ℕ
transistor_kind = 2

abbrev pub entry_kind : ℕ
entry_kind = 3

abbrev pub onto : ℕ → Option (List ℕ) → Option (List ℕ)
onto r none = none
onto r (some rs) = some (r ∷ rs)

-- The record numbers of a chain of n records of a kind, from record r on, in a file of `count` records;
-- none where there is no such record, it has another kind, or the chain ends early or late.
unfoldable pub chain : List ℕ → ℕ → ℕ → ℕ → ℕ → Option (List ℕ)
chain file count kind zero r = cond (eqb r 0) (some []) none
chain file count kind (suc n) r =
    cond (within 1 count r && eqb (kind_at file r) kind) (onto r (chain file count kind n (next_at file r))) none

-- The fields of each kind of record.
unfoldable pub node_at : List ℕ → ℕ → Node
node_at file r = record {
  role = byte_at file (record_at r + 4);
  start = byte_at file (record_at r + 5);
  capacitance = femtofarads (half_at file (record_at r + 6));
}

unfoldable pub transistor_at : List ℕ → ℕ → Transistor
transistor_at file r = record {
  polarity = byte_at file (record_at r + 4);
  gate = byte_at file (record_at r + 5);
  first = byte_at file (record_at r + 6);
  second = byte_at file (record_at r + 7);
  resistance = ohms (word_at file (record_at r + 8));
}

unfoldable pub entry_at : List ℕ → ℕ → Entry
entry_at file r = record {
  input = byte_at file (record_at r + 4);
  source = byte_at file (record_at r + 5);
  time = picoseconds (word_at file (record_at r + 8));
}

-- Bytes that are not named are zero.
unfoldable pub node_blank : List ℕ → ℕ → Bool
node_blank file r = zero_bytes file 1 (record_at r + 1) && zero_bytes file 8 (record_at r + 8)

unfoldable pub transistor_blank : List ℕ → ℕ → Bool
transistor_blank file r = zero_bytes file 1 (record_at r + 1) && zero_bytes file 4 (record_at r + 12)

unfoldable pub entry_blank : List ℕ → ℕ → Bool
entry_blank file r = zero_bytes file 1 (record_at r + 1) && zero_bytes file 2 (record_at r + 6) && zero_bytes file 4 (record_at r + 12)

-- the cell whose chains have these records
unfoldable pub file_circuit : List ℕ → List ℕ → List ℕ → List ℕ → Circuit
file_circuit file ns ts es = record {
  letters = (file_header file).letters;
  horizon = (file_header file).horizon;
  nodes = map (node_at file) ns;
  transistors = map (transistor_at file) ts;
  schedule = map (entry_at file) es;
}

-- go on with a chain's records, or refuse 3
abbrev pub chained : {A : Type 0} → Option (List ℕ) → (List ℕ → Answer A) → Answer A
chained none next = refused Chain
chained (some rs) next = next rs

-- 4, then 5, of the records of the three chains
unfoldable pub read_fields : List ℕ → List ℕ → List ℕ → List ℕ → Answer Circuit
read_fields file ns ts es =
    check
    (every (node_blank file) ns
    && every (transistor_blank file) ts
    && every (entry_blank file) es
    && fields_legal (file_circuit file ns ts es))
    Record
    (check (rising (map (entry_at file) es)) Order
    (answered (file_circuit file ns ts es)))

-- 3: the chains, nodes, then transistors, then schedule
unfoldable pub read_chains : List ℕ → header.Header → Answer Circuit
read_chains file h =
    chained (chain file (record_count h) node_kind h.nodes (first_node file))
    (λ ns. chained (chain file (record_count h) transistor_kind h.transistors (first_transistor file))
    (λ ts. chained (chain file (record_count h) entry_kind h.entries (first_entry file))
    (λ es. read_fields file ns ts es)))

-- The answer to any list of bytes: 16 bytes, 2, the full length, 3, 4, 5.
unfoldable pub read_cell : List ℕ → Answer Circuit
read_cell file =
    check (leb record_size (length file)) Length
    (check (header_legal file) Header
    (check (eqb (length file) (stated_length (file_header file))) Length
    (read_chains file (file_header file))))
