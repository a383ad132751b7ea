-- A saved file: its length, that a legal cell's file is read as that cell, and that saving twice changes nothing.
use mathlib.Core.Path.{◌≡◌, refl, sym, ◌∙◌, ap}
use mathlib.Core.Bool.{true}
use mathlib.Core.List.{List, [], ◌++◌, append-nil, append_assoc}
use Prim.Native.Nat.{ℕ, ◌≤◌, ◌<◌}
use native.Mathlib.Omega.{arith}
use lib.ListN.{length, drop, length-append}
use lib.Dec.{leb}
use borrow.Author.Tests.{leb-true, le-leb, lt-leb}
use Rattle.units.specs.Units.{picoseconds}
use Rattle.refusal.specs.declared.Refusal.TheVariants.{Buffer}
use Rattle.refusal.specs.Answer.{Answer, refused, answered}
use Rattle.refusal.proofs.Answer.{refused_not_answered, same_answer, check_passed}
use Rattle.lists.proofs.Cases.{and_both}
use Rattle.format.specs.Circuit.{Circuit, header_of}
use Rattle.format.specs.Legal.{limits_kept, check_circuit}
use Rattle.format.specs.File.{zero_bytes, record_at, file_header, header_legal, record_count, stated_length, first_node, first_transistor, first_entry}
use Rattle.format.specs.File.{node_kind, transistor_kind, entry_kind, node_at, transistor_at, entry_at, node_blank, transistor_blank, entry_blank, file_circuit, read_cell}
use Rattle.format.specs.Saved.{first_from, node_bytes, transistor_bytes, entry_bytes, chain_bytes, nodes_from, transistors_from, entries_from}
use Rattle.format.specs.Saved.{header_bytes, saved_file, saved_in, save_cell, save_file}
use Rattle.format.proofs.Check.{circuit_checked}
use Rattle.format.proofs.Read.{ReadAs, read_answered, read_checked}
use Rattle.format.proofs.Legal.{Limits, Fields, legal_limits, fields_apart}
use Rattle.format.proofs.SavedChain.{word_whole, first_whole, chain_bytes_length, Found, chain_past, chain_found_lem}
use Rattle.format.proofs.SavedRecord.{header_bytes_length, node_bytes_length, transistor_bytes_length, entry_bytes_length}
use Rattle.format.proofs.SavedRecord.{node_written, transistor_written, entry_written}

module _ (c : Circuit) where
  -- the records of each chain in the saved file
  abbrev node_part : List ℕ
  node_part = chain_bytes node_bytes nodes_from c.nodes

  abbrev transistor_part : List ℕ
  transistor_part = chain_bytes transistor_bytes (transistors_from (header_of c)) c.transistors

  abbrev entry_part : List ℕ
  entry_part = chain_bytes entry_bytes (entries_from (header_of c)) c.schedule

  -- a saved file has the length that its header states
  pub saved_length : length (saved_file c) ≡ stated_length (header_of c)
  unfolding saved_file
  saved_length =
      let h = header_bytes_length (header_of c) in
      let n = chain_bytes_length node_bytes node_bytes_length nodes_from c.nodes in
      let t = chain_bytes_length transistor_bytes transistor_bytes_length (transistors_from (header_of c)) c.transistors in
      let e = chain_bytes_length entry_bytes entry_bytes_length (entries_from (header_of c)) c.schedule in
      simp length-append (omega arith)

  header_blank : zero_bytes (saved_file c) 2 14 ≡ true
  unfolding saved_file header_bytes zero_bytes
  header_blank = refl

  nodes_stand : drop (record_at nodes_from) (saved_file c) ≡ node_part ++ (transistor_part ++ entry_part)
  unfolding saved_file header_bytes
  nodes_stand = append_assoc node_part transistor_part entry_part

  transistors_stand : drop (record_at (transistors_from (header_of c))) (saved_file c) ≡ transistor_part ++ entry_part
  transistors_stand = chain_past node_bytes node_bytes_length (saved_file c) nodes_from c.nodes (transistor_part ++ entry_part) nodes_stand

  entries_stand : drop (record_at (entries_from (header_of c))) (saved_file c) ≡ entry_part ++ []
  entries_stand =
      chain_past transistor_bytes transistor_bytes_length (saved_file c) (transistors_from (header_of c)) c.transistors entry_part transistors_stand
      ∙ sym (append-nil entry_part)

module _ (c : Circuit) (e : check_circuit c ≡ answered c) where
  limits : Limits (header_of c)
  limits = legal_limits e

  fields : Fields c
  fields = fields_apart c (circuit_checked e).fields

  saved_header : file_header (saved_file c) ≡ header_of c
  unfolding saved_file header_bytes file_header
  saved_header =
      let p = word_whole c.horizon.0 (omega (arith, limits)) in
      λ i. record { nodes = length c.nodes; transistors = length c.transistors; entries = length c.schedule; letters = c.letters; horizon = picoseconds (p i) }

  first_node_lem : first_node (saved_file c) ≡ first_from nodes_from (length c.nodes)
  unfolding saved_file header_bytes
  first_node_lem = first_whole nodes_from (length c.nodes) (omega arith)

  first_transistor_lem : first_transistor (saved_file c) ≡ first_from (transistors_from (header_of c)) (length c.transistors)
  unfolding saved_file header_bytes
  first_transistor_lem = first_whole (transistors_from (header_of c)) (length c.transistors) (omega (arith, limits))

  first_entry_lem : first_entry (saved_file c) ≡ first_from (entries_from (header_of c)) (length c.schedule)
  unfolding saved_file header_bytes
  first_entry_lem = first_whole (entries_from (header_of c)) (length c.schedule) (omega (arith, limits))

  few_records : record_count (header_of c) < 65535
  few_records = omega (arith, limits)

  nodes_found : Found (saved_file c) (record_count (header_of c)) node_kind node_at node_blank (first_from nodes_from (length c.nodes)) c.nodes
  nodes_found =
      chain_found_lem (node_written c.letters) (saved_file c) (record_count (header_of c)) few_records
      nodes_from c.nodes (transistor_part c ++ entry_part c) (nodes_stand c) (omega arith) (omega arith) fields.nodes

  transistors_found : Found (saved_file c) (record_count (header_of c)) transistor_kind transistor_at transistor_blank
      (first_from (transistors_from (header_of c)) (length c.transistors)) c.transistors
  transistors_found =
      chain_found_lem (transistor_written (length c.nodes)) (saved_file c) (record_count (header_of c)) few_records
      (transistors_from (header_of c)) c.transistors (entry_part c) (transistors_stand c) (omega arith) (omega arith) fields.transistors

  entries_found : Found (saved_file c) (record_count (header_of c)) entry_kind entry_at entry_blank
      (first_from (entries_from (header_of c)) (length c.schedule)) c.schedule
  entries_found =
      chain_found_lem (entry_written c limits) (saved_file c) (record_count (header_of c)) few_records
      (entries_from (header_of c)) c.schedule [] (entries_stand c) (omega arith) (omega arith) fields.entries

  saved_circuit : file_circuit (saved_file c) nodes_found.numbers transistors_found.numbers entries_found.numbers ≡ c
  unfolding file_circuit
  saved_circuit =
      let h = saved_header in
      let n = nodes_found.is in
      let t = transistors_found.is in
      let s = entries_found.is in
      λ i. record { letters = (h i).letters; horizon = (h i).horizon; nodes = n i; transistors = t i; schedule = s i }

  saved_header_legal : header_legal (saved_file c) ≡ true
  unfolding header_legal
  saved_header_legal = and_both _ _ (ap limits_kept saved_header ∙ (circuit_checked e).limits) (header_blank c)

  saved_read_as : ReadAs (saved_file c) c
  saved_read_as =
      let h = saved_header in
      record {
        long = omega (arith, saved_length c);
        header = saved_header_legal;
        stated = rw h (saved_length c);
        ns = nodes_found.numbers;
        ts = transistors_found.numbers;
        es = entries_found.numbers;
        chains = record {
          of_nodes_lem = rw (h, first_node_lem) nodes_found.chained;
          of_transistors = rw (h, first_transistor_lem) transistors_found.chained;
          of_entries = rw (h, first_entry_lem) entries_found.chained;
        };
        records = record {
          nodes_blank = nodes_found.blanks;
          transistors_blank = transistors_found.blanks;
          entries_blank = entries_found.blanks;
          fields = rw saved_circuit (circuit_checked e).fields;
          order = rw entries_found.is (circuit_checked e).order;
        };
        is = sym saved_circuit;
      }

  -- a legal cell's file is read as that cell
  pub saved_read : read_cell (saved_file c) ≡ answered c
  saved_read = read_answered (saved_file c) c saved_read_as

-- different cells have different files
pub saved_apart : (c d : Circuit) → check_circuit c ≡ answered c → check_circuit d ≡ answered d → saved_file c ≡ saved_file d → c ≡ d
saved_apart c d p q same = same_answer (sym (saved_read c p) ∙ ap read_cell same ∙ saved_read d q)

-- files of the same cell are saved as the same bytes
pub saved_same : (file other : List ℕ) (room : ℕ) → read_cell file ≡ read_cell other → save_file room file ≡ save_file room other
saved_same file other room e = ap (saved_in room) e

-- a cell that was read is saved as the cell handed over is
pub save_cell_read : (room : ℕ) (file : List ℕ) (c : Circuit) → read_cell file ≡ answered c → save_file room file ≡ save_cell room c
save_cell_read room file c e = ap (saved_in room) (e ∙ sym (read_checked file c e))

-- a cell is saved where the room is long enough for its file
pub room_fits : (room : ℕ) (c : Circuit) → stated_length (header_of c) ≤ room → saved_in room (answered c) ≡ answered (saved_file c)
unfolding saved_in
room_fits room c h = rw (saved_length c, le-leb (stated_length (header_of c)) room h)

-- and else refused 8
pub room_short : (room : ℕ) (c : Circuit) → room < stated_length (header_of c) → saved_in room (answered c) ≡ refused Buffer
unfolding saved_in
room_short room c h = rw (saved_length c, lt-leb (stated_length (header_of c)) room h)

-- the same of a legal cell handed over
pub saved_fits : (room : ℕ) (c : Circuit) → check_circuit c ≡ answered c → stated_length (header_of c) ≤ room → save_cell room c ≡ answered (saved_file c)
saved_fits room c e h = ap (saved_in room) e ∙ room_fits room c h

pub saved_short : (room : ℕ) (c : Circuit) → check_circuit c ≡ answered c → room < stated_length (header_of c) → save_cell room c ≡ refused Buffer
saved_short room c e h = ap (saved_in room) e ∙ room_short room c h

-- what is saved is the file of the cell that was handed over or read, and fits the room
pub saved_is : (room : ℕ) (a : Answer Circuit) (saved : List ℕ) → saved_in room a ≡ answered saved
    → (c : Circuit) × (a ≡ answered c) × (saved ≡ saved_file c) × (length saved ≤ room)
unfolding saved_in
saved_is room (refused why) saved e = refused_not_answered e
saved_is room (answered c) saved e =
    let p = check_passed (leb (length (saved_file c)) room) Buffer (answered (saved_file c)) saved e in
    let same : saved ≡ saved_file c = sym (same_answer p.1) in
    (c, refl, same, rw same (leb-true (length (saved_file c)) room p.0))

-- a saved file is read as the file that it was saved from
pub saved_file_read : (room : ℕ) (file saved : List ℕ) → save_file room file ≡ answered saved → read_cell saved ≡ read_cell file
saved_file_read room file saved e =
    let s = saved_is room (read_cell file) saved e in
    ap read_cell s.2 ∙ saved_read s.0 (read_checked file s.0 s.1) ∙ sym s.1

-- saving twice changes nothing
pub saved_again : (room : ℕ) (file saved : List ℕ) → save_file room file ≡ answered saved → save_file room saved ≡ answered saved
saved_again room file saved e = saved_same saved file room (saved_file_read room file saved e) ∙ e
