-- What it is to be read: the parts of the reader's answer, and that a cell that was read passes the check of a cell.
use mathlib.Core.Path.{◌≡◌, sym, ◌∙◌, ap}
use mathlib.Core.Bool.{true, ◌&&◌}
use mathlib.Core.List.{List, map}
use mathlib.Core.Option.{some}
use Prim.Native.Nat.{ℕ, ◌≤◌}
use lib.ListN.{length, length-map}
use borrow.Author.Tests.{leb-true, eqb-true, le-leb, eq-eqb}
use Rattle.refusal.specs.Answer.{answered}
use Rattle.format.specs.Circuit.{Circuit, header_of, every}
use Rattle.format.specs.Legal.{limits_kept, fields_legal, rising, check_circuit}
use Rattle.format.specs.File.{record_size, file_header, header_legal, record_count, stated_length, first_node, first_transistor, first_entry, zero_bytes}
use Rattle.format.specs.File.{node_kind, transistor_kind, entry_kind, chain, node_at, transistor_at, entry_at}
use Rattle.format.specs.File.{node_blank, transistor_blank, entry_blank, file_circuit, read_fields, read_chains, read_cell}
use Rattle.refusal.proofs.Answer.{same_answer, check_passed}
use Rattle.lists.proofs.Cases.{and_left, and_right}
use Rattle.format.proofs.Check.{chained_passed, checked_answered}
use Rattle.format.proofs.Chain.{chain_length}

-- the records of the three chains of a file
pub record Chains (file : List ℕ) (ns ts es : List ℕ) : Type 0 where
  pub of_nodes_lem : chain file (record_count (file_header file)) node_kind (file_header file).nodes (first_node file) ≡ some ns
  pub of_transistors : chain file (record_count (file_header file)) transistor_kind (file_header file).transistors (first_transistor file) ≡ some ts
  pub of_entries : chain file (record_count (file_header file)) entry_kind (file_header file).entries (first_entry file) ≡ some es

-- the tests of the records of three chains
pub record Records (file : List ℕ) (ns ts es : List ℕ) : Type 0 where
  pub nodes_blank : every (node_blank file) ns ≡ true
  pub transistors_blank : every (transistor_blank file) ts ≡ true
  pub entries_blank : every (entry_blank file) es ≡ true
  pub fields : fields_legal (file_circuit file ns ts es) ≡ true
  pub order : rising (map (entry_at file) es) ≡ true

-- all that the reader found in a file that it answered with a cell
pub record ReadAs (file : List ℕ) (c : Circuit) : Type 0 where
  pub long : record_size ≤ length file
  pub header : header_legal file ≡ true
  pub stated : length file ≡ stated_length (file_header file)
  pub ns : List ℕ
  pub ts : List ℕ
  pub es : List ℕ
  pub chains : Chains file ns ts es
  pub records : Records file ns ts es
  pub is : c ≡ file_circuit file ns ts es

module _ (file : List ℕ) where
  fields_read : (ns ts es : List ℕ) (c : Circuit) → read_fields file ns ts es ≡ answered c → Records file ns ts es × (c ≡ file_circuit file ns ts es)
  unfolding read_fields
  fields_read ns ts es c e =
      let p = check_passed _ _ _ c e in
      let q = check_passed _ _ _ c p.1 in
      let bn = every (node_blank file) ns in
      let bt = every (transistor_blank file) ts in
      let be = every (entry_blank file) es in
      let f = fields_legal (file_circuit file ns ts es) in
      let blank = and_left (bn && bt && be) f p.0 in (
        record {
          nodes_blank = and_left bn bt (and_left (bn && bt) be blank);
          transistors_blank = and_right bn bt (and_left (bn && bt) be blank);
          entries_blank = and_right (bn && bt) be blank;
          fields = and_right (bn && bt && be) f p.0;
          order = q.0;
        },
        sym (same_answer q.1),
      )

  fields_answered : (ns ts es : List ℕ) → Records file ns ts es → read_fields file ns ts es ≡ answered (file_circuit file ns ts es)
  unfolding read_fields
  fields_answered ns ts es k = rw (k.nodes_blank, k.transistors_blank, k.entries_blank, k.fields, k.order)

  chains_read : (c : Circuit) → read_chains file (file_header file) ≡ answered c
      → (ns : List ℕ) × (ts : List ℕ) × (es : List ℕ) × Chains file ns ts es × (read_fields file ns ts es ≡ answered c)
  unfolding read_chains
  chains_read c e =
      let n = chained_passed _ _ c e in
      let t = chained_passed _ _ c n.2 in
      let s = chained_passed _ _ c t.2 in
      (n.0, t.0, s.0, record { of_nodes_lem = n.1; of_transistors = t.1; of_entries = s.1 }, s.2)

  chains_answered : (ns ts es : List ℕ) → Chains file ns ts es → read_chains file (file_header file) ≡ read_fields file ns ts es
  unfolding read_chains
  chains_answered ns ts es k = rw (k.of_nodes_lem, k.of_transistors, k.of_entries)

  -- what the reader found in a file that it answered
  pub read_as : (c : Circuit) → read_cell file ≡ answered c → ReadAs file c
  unfolding read_cell
  read_as c e =
      let l = check_passed _ _ _ c e in
      let h = check_passed _ _ _ c l.1 in
      let s = check_passed _ _ _ c h.1 in
      let k = chains_read c s.1 in
      let r = fields_read k.0 k.1 k.2 c k.4 in
      record {
        long = leb-true record_size (length file) l.0;
        header = h.0;
        stated = eqb-true (length file) (stated_length (file_header file)) s.0;
        ns = k.0;
        ts = k.1;
        es = k.2;
        chains = k.3;
        records = r.0;
        is = r.1;
      }

  -- a file in which all that is found is answered
  pub read_answered : (c : Circuit) → ReadAs file c → read_cell file ≡ answered c
  unfolding read_cell
  read_answered c k =
      rw (le-leb record_size (length file) k.long, k.header, eq-eqb (length file) (stated_length (file_header file)) k.stated)
      (chains_answered k.ns k.ts k.es k.chains ∙ fields_answered k.ns k.ts k.es k.records ∙ ap answered (sym k.is))

  -- the cell whose chains have these records has the header's numbers
  circuit_header : (ns ts es : List ℕ) → Chains file ns ts es → header_of (file_circuit file ns ts es) ≡ file_header file
  unfolding file_circuit
  circuit_header ns ts es k =
      let count = record_count (file_header file) in
      let n = length-map ns (node_at file) ∙ chain_length file count node_kind _ _ ns k.of_nodes_lem in
      let t = length-map ts (transistor_at file) ∙ chain_length file count transistor_kind _ _ ts k.of_transistors in
      let e = length-map es (entry_at file) ∙ chain_length file count entry_kind _ _ es k.of_entries in
      λ i. record { nodes = n i; transistors = t i; entries = e i; letters = (file_header file).letters; horizon = (file_header file).horizon }

  -- the numbers of a cell that was read are those of the file's header
  pub read_header : (c : Circuit) → ReadAs file c → header_of c ≡ file_header file
  read_header c k = ap header_of k.is ∙ circuit_header k.ns k.ts k.es k.chains

  header_limits : header_legal file ≡ true → limits_kept (file_header file) ≡ true
  unfolding header_legal
  header_limits e = and_left (limits_kept (file_header file)) (zero_bytes file 2 14) e

  circuit_order : (ns ts es : List ℕ) → rising (map (entry_at file) es) ≡ true → rising (file_circuit file ns ts es).schedule ≡ true
  unfolding file_circuit
  circuit_order ns ts es e = e

  -- a cell that was read passes the check of a cell
  pub read_checked : (c : Circuit) → read_cell file ≡ answered c → check_circuit c ≡ answered c
  read_checked c e =
      let k = read_as c e in
      let r = k.records in
      checked_answered (record {
        limits = rw (read_header c k) (header_limits k.header);
        fields = rw k.is r.fields;
        order = rw k.is (circuit_order k.ns k.ts k.es r.order);
      })
