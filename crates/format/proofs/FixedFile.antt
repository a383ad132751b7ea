-- Fixing letters in a file: the file with its source bytes fixed is read as the fixed cell.
use mathlib.Core.Path.{◌≡◌, refl, sym, ◌∙◌, ap, ap₂, subst}
use mathlib.Core.Bool.{Bool, true, false, ◌&&◌, ◌||◌, cond, and-false}
use mathlib.Core.List.{List, [], ◌∷◌, map, map-map}
use mathlib.Core.Option.{Option, some, none}
use Prim.Native.Nat.{ℕ, zero, suc, ◌+◌, ◌-◌, ◌*◌, ◌%◌, ◌≤◌, ◌<◌}
use native.Mathlib.Nat.{add-zero, zero-add}
use native.Mathlib.Omega.{arith}
use lib.ListN.{length, get_or}
use lib.Dec.{eqb}
use borrow.Author.Tests.{le-leb, lt-leb, eq-eqb, ne_eqb}
use Rattle.units.specs.Units.{ohms, femtofarads, picoseconds}
use Rattle.refusal.specs.Answer.{answered}
use Rattle.format.specs.declared.Header.{Header}
use Rattle.format.specs.Circuit.{Circuit}
use Rattle.format.specs.Legal.{within, limits_kept, fields_legal, rising, check_circuit}
use Rattle.format.specs.File.{byte_at, half_at, word_at, zero_bytes, record_at, file_header, header_legal, record_count, stated_length}
use Rattle.format.specs.File.{kind_at, next_at, node_kind, transistor_kind, entry_kind, onto, chain, node_at, transistor_at, entry_at}
use Rattle.format.specs.File.{node_blank, transistor_blank, entry_blank, file_circuit, read_cell}
use Rattle.format.specs.Fixing.{Fixing, fixed_source, fixed_node, fixed_entry, fixed, is_source, fixed_bytes, fixed_file}
use Rattle.lists.proofs.Map.{map_same}
use Rattle.format.proofs.Every.{every_same}
use Rattle.format.proofs.Check.{circuit_checked}
use Rattle.format.proofs.Chain.{chain_place}
use Rattle.format.proofs.Read.{Chains, Records, ReadAs, read_as, read_answered, read_checked}
use Rattle.format.proofs.Fixing.{fixed_constant, rising_fixed, fixed_legal}

-- byte i is a source only at place 5 of a record
pub not_source_place : (file : List ℕ) (i : ℕ) → (i % 16 ≡ 5 → ⊥) → is_source file i ≡ false
not_source_place file i n = rw (ne_eqb (i % 16) 5 n, and-false)

-- no byte of the header is a source
pub not_source_header : (file : List ℕ) (i : ℕ) → i < 16 → is_source file i ≡ false
not_source_header file i h = rw (lt-leb 16 i h)

-- no byte of a record is a source whose kind is neither a node's nor an entry's
not_source_kind : (file : List ℕ) (i : ℕ) → byte_at file (i - 5) ≡ transistor_kind → is_source file i ≡ false
not_source_kind file i e = rw (e, and-false)

-- byte 5 of a node record or an entry is a source
source_byte : (file : List ℕ) (r : ℕ) → 1 ≤ r → eqb (kind_at file r) node_kind || eqb (kind_at file r) entry_kind ≡ true → is_source file (record_at r + 5) ≡ true
source_byte file r h e =
    let p : (16 * r + 5) - 5 ≡ 16 * r = omega arith in
    rw (le-leb 16 (16 * r + 5) (omega arith), eq-eqb ((16 * r + 5) % 16) 5 (omega arith), p, e)

module _ (φ : Fixing) (file : List ℕ) where
  fixed_length : (k : ℕ) (bs : List ℕ) → length (fixed_bytes φ file k bs) ≡ length bs
  unfolding fixed_bytes
  fixed_length k [] = refl
  fixed_length k (b ∷ bs) = ap suc (fixed_length (k + 1) bs)

  no_byte : (t : Bool) → 0 ≡ cond t (fixed_source φ 0) 0
  no_byte true = sym (fixed_constant φ 0 (omega arith))
  no_byte false = refl

  fixed_bytes_at : (k : ℕ) (bs : List ℕ) (i : ℕ) → get_or (fixed_bytes φ file k bs) i 0 ≡ cond (is_source file (k + i)) (fixed_source φ (get_or bs i 0)) (get_or bs i 0)
  unfolding fixed_bytes
  fixed_bytes_at k [] i = no_byte (is_source file (k + i))
  fixed_bytes_at k (b ∷ bs) zero = rw (add-zero k)
  fixed_bytes_at k (b ∷ bs) (suc i) =
      let p : k + suc i ≡ k + 1 + i = omega arith in
      rw p (fixed_bytes_at (k + 1) bs i)

  -- the length is kept
  pub fixed_file_length : length (fixed_file φ file) ≡ length file
  fixed_file_length = fixed_length 0 file

  -- each byte of the fixed file
  pub fixed_byte : (i : ℕ) → byte_at (fixed_file φ file) i ≡ cond (is_source file i) (fixed_source φ (byte_at file i)) (byte_at file i)
  fixed_byte i = subst (λ (j : ℕ). byte_at (fixed_file φ file) i ≡ cond (is_source file j) (fixed_source φ (byte_at file i)) (byte_at file i)) (zero-add i) (fixed_bytes_at 0 file i)

  -- byte i is as it was
  abbrev pub Kept : ℕ → Type 0
  Kept i = byte_at (fixed_file φ file) i ≡ byte_at file i

  kept : (i : ℕ) → is_source file i ≡ false → Kept i
  kept i e = fixed_byte i ∙ ap (λ (t : Bool). cond t (fixed_source φ (byte_at file i)) (byte_at file i)) e

  -- bytes at another place than 5 are kept
  pub kept_place_lem : (i : ℕ) → (i % 16 ≡ 5 → ⊥) → Kept i
  kept_place_lem i n = kept i (not_source_place file i n)

  -- the header is kept
  pub kept_header : (i : ℕ) → i < 16 → Kept i
  kept_header i h = kept i (not_source_header file i h)

  -- byte 5 of a transistor, its gate, is kept
  kept_gate : (r : ℕ) → kind_at file r ≡ transistor_kind → Kept (record_at r + 5)
  kept_gate r e =
      let p : (16 * r + 5) - 5 ≡ 16 * r = omega arith in
      kept (record_at r + 5) (not_source_kind file (record_at r + 5) (rw p e))

  -- byte 5 of a node record or an entry is fixed
  source_fixed : (r : ℕ) → 1 ≤ r → eqb (kind_at file r) node_kind || eqb (kind_at file r) entry_kind ≡ true
      → byte_at (fixed_file φ file) (record_at r + 5) ≡ fixed_source φ (byte_at file (record_at r + 5))
  source_fixed r h e =
      fixed_byte (record_at r + 5)
      ∙ ap (λ (t : Bool). cond t (fixed_source φ (byte_at file (record_at r + 5))) (byte_at file (record_at r + 5))) (source_byte file r h e)

  half_kept : (i : ℕ) → Kept i → Kept (i + 1) → half_at (fixed_file φ file) i ≡ half_at file i
  half_kept i p q = ap₂ (λ (a b : ℕ). a + 256 * b) p q

  word_kept : (i : ℕ) → Kept i → Kept (i + 1) → Kept (i + 2) → Kept (i + 2 + 1) → word_at (fixed_file φ file) i ≡ word_at file i
  word_kept i p q r s = ap₂ (λ (a b : ℕ). a + 65536 * b) (half_kept i p q) (half_kept (i + 2) r s)

  zero_kept : (n i : ℕ) → ((j : ℕ) → j < n → Kept (i + j)) → zero_bytes (fixed_file φ file) n i ≡ zero_bytes file n i
  unfolding zero_bytes
  zero_kept zero i h = refl
  zero_kept (suc n) i h =
      ap₂ (λ (b : ℕ) (r : Bool). eqb b 0 && r) (rw (add-zero i) at (h zero (omega arith)))
      (zero_kept n (i + 1) (λ j lt. let p : i + 1 + j ≡ i + suc j = omega arith in rw p (h (suc j) (omega arith))))

  -- the header's numbers are kept
  pub header_kept : file_header (fixed_file φ file) ≡ file_header file
  unfolding file_header
  header_kept =
      let n = kept_header 0 (omega arith) in
      let t = kept_header 1 (omega arith) in
      let e = kept_header 2 (omega arith) in
      let k = kept_header 3 (omega arith) in
      let h = word_kept 4 (kept_header 4 (omega arith)) (kept_header 5 (omega arith)) (kept_header 6 (omega arith)) (kept_header 7 (omega arith)) in
      λ i. record { nodes = n i; transistors = t i; entries = e i; letters = k i; horizon = picoseconds (h i) }

  header_legal_kept : header_legal (fixed_file φ file) ≡ header_legal file
  unfolding header_legal
  header_legal_kept = ap₂ ◌&&◌ (ap limits_kept header_kept) (zero_kept 2 14 (λ j h. kept_header (14 + j) (omega arith)))

  first_kept : (i : ℕ) → i < 15 → half_at (fixed_file φ file) i ≡ half_at file i
  first_kept i h = half_kept i (kept_header i (omega arith)) (kept_header (i + 1) (omega arith))

  kind_kept : (r : ℕ) → kind_at (fixed_file φ file) r ≡ kind_at file r
  kind_kept r = kept_place_lem (record_at r) (λ e. omega arith)

  next_kept : (r : ℕ) → next_at (fixed_file φ file) r ≡ next_at file r
  next_kept r = half_kept (record_at r + 2) (kept_place_lem (record_at r + 2) (λ e. omega arith)) (kept_place_lem (record_at r + 2 + 1) (λ e. omega arith))

  -- the chains are kept
  pub chain_kept : (count kind n r : ℕ) → chain (fixed_file φ file) count kind n r ≡ chain file count kind n r
  unfolding chain
  chain_kept count kind zero r = refl
  chain_kept count kind (suc n) r =
      ap₂ (λ (k : ℕ) (o : Option (List ℕ)). cond (within 1 count r && eqb k kind) (onto r o) none) (kind_kept r)
      (ap (chain (fixed_file φ file) count kind n) (next_kept r) ∙ chain_kept count kind n (next_at file r))

  word_place : (r : ℕ) → word_at (fixed_file φ file) (record_at r + 8) ≡ word_at file (record_at r + 8)
  word_place r =
      word_kept (record_at r + 8)
      (kept_place_lem (record_at r + 8) (λ e. omega arith)) (kept_place_lem (record_at r + 8 + 1) (λ e. omega arith))
      (kept_place_lem (record_at r + 8 + 2) (λ e. omega arith)) (kept_place_lem (record_at r + 8 + 2 + 1) (λ e. omega arith))

  -- a node record's source is fixed
  pub node_fixed : (r : ℕ) → 1 ≤ r → kind_at file r ≡ node_kind → node_at (fixed_file φ file) r ≡ fixed_node φ (node_at file r)
  unfolding node_at
  node_fixed r h e =
      let b = kept_place_lem (record_at r + 4) (λ e. omega arith) in
      let s = source_fixed r h (rw e) in
      let c = half_kept (record_at r + 6) (kept_place_lem (record_at r + 6) (λ e. omega arith)) (kept_place_lem (record_at r + 6 + 1) (λ e. omega arith)) in
      λ i. record { role = b i; start = s i; capacitance = femtofarads (c i) }

  -- a transistor is kept
  pub transistor_kept : (r : ℕ) → kind_at file r ≡ transistor_kind → transistor_at (fixed_file φ file) r ≡ transistor_at file r
  unfolding transistor_at
  transistor_kept r e =
      let p = kept_place_lem (record_at r + 4) (λ e. omega arith) in
      let g = kept_gate r e in
      let a = kept_place_lem (record_at r + 6) (λ e. omega arith) in
      let b = kept_place_lem (record_at r + 7) (λ e. omega arith) in
      let w = word_place r in
      λ i. record { polarity = p i; gate = g i; first = a i; second = b i; resistance = ohms (w i) }

  -- an entry's source is fixed
  pub entry_fixed : (r : ℕ) → 1 ≤ r → kind_at file r ≡ entry_kind → entry_at (fixed_file φ file) r ≡ fixed_entry φ (entry_at file r)
  unfolding entry_at
  entry_fixed r h e =
      let n = kept_place_lem (record_at r + 4) (λ e. omega arith) in
      let s = source_fixed r h (rw e) in
      let w = word_place r in
      λ i. record { input = n i; source = s i; time = picoseconds (w i) }

  -- bytes from a place after 5 on, to the record's end at most, stay zero or not
  zero_tail : (r k n : ℕ) → 5 < k → k + n ≤ 16 → zero_bytes (fixed_file φ file) n (record_at r + k) ≡ zero_bytes file n (record_at r + k)
  zero_tail r k n low end = zero_kept n (record_at r + k) (λ j h. kept_place_lem (record_at r + k + j) (λ e. omega arith))

  zero_second : (r : ℕ) → zero_bytes (fixed_file φ file) 1 (record_at r + 1) ≡ zero_bytes file 1 (record_at r + 1)
  zero_second r = zero_kept 1 (record_at r + 1) (λ j h. kept_place_lem (record_at r + 1 + j) (λ e. omega arith))

  node_blank_kept : (r : ℕ) → node_blank (fixed_file φ file) r ≡ node_blank file r
  unfolding node_blank
  node_blank_kept r = ap₂ ◌&&◌ (zero_second r) (zero_tail r 8 8 (omega arith) (omega arith))

  transistor_blank_kept : (r : ℕ) → transistor_blank (fixed_file φ file) r ≡ transistor_blank file r
  unfolding transistor_blank
  transistor_blank_kept r = ap₂ ◌&&◌ (zero_second r) (zero_tail r 12 4 (omega arith) (omega arith))

  entry_blank_kept : (r : ℕ) → entry_blank (fixed_file φ file) r ≡ entry_blank file r
  unfolding entry_blank
  entry_blank_kept r = ap₂ ◌&&◌ (ap₂ ◌&&◌ (zero_second r) (zero_tail r 6 2 (omega arith) (omega arith))) (zero_tail r 12 4 (omega arith) (omega arith))

  -- a chain that starts where the header says
  first_chain_kept : (kind : ℕ) (size : Header → ℕ) (i : ℕ) → i < 15 → (rs : List ℕ)
      → chain file (record_count (file_header file)) kind (size (file_header file)) (half_at file i) ≡ some rs
      → chain (fixed_file φ file) (record_count (file_header (fixed_file φ file))) kind (size (file_header (fixed_file φ file))) (half_at (fixed_file φ file) i) ≡ some rs
  first_chain_kept kind size i h rs e =
      chain_kept _ kind _ _ ∙ ap₂ (λ (x : Header) (r : ℕ). chain file (record_count x) kind (size x) r) header_kept (first_kept i h) ∙ e

  module _ (ns ts es : List ℕ) (k : Chains file ns ts es) where
    chains_kept : Chains (fixed_file φ file) ns ts es
    chains_kept = record {
      of_nodes_lem = first_chain_kept node_kind (λ h. h.nodes) 8 (omega arith) ns k.of_nodes_lem;
      of_transistors = first_chain_kept transistor_kind (λ h. h.transistors) 10 (omega arith) ts k.of_transistors;
      of_entries = first_chain_kept entry_kind (λ h. h.entries) 12 (omega arith) es k.of_entries;
    }

    nodes_fixed : map (node_at (fixed_file φ file)) ns ≡ map (fixed_node φ) (map (node_at file) ns)
    nodes_fixed =
        let member = chain_place file _ node_kind _ _ ns k.of_nodes_lem in
        map_same (node_at (fixed_file φ file)) (λ r. fixed_node φ (node_at file r)) 0 ns (λ i h. node_fixed (get_or ns i 0) (member i h).least (member i h).kind_is)
        ∙ sym (map-map (fixed_node φ) (node_at file) ns)

    transistors_kept : map (transistor_at (fixed_file φ file)) ts ≡ map (transistor_at file) ts
    transistors_kept =
        let member = chain_place file _ transistor_kind _ _ ts k.of_transistors in
        map_same (transistor_at (fixed_file φ file)) (transistor_at file) 0 ts (λ i h. transistor_kept (get_or ts i 0) (member i h).kind_is)

    entries_fixed : map (entry_at (fixed_file φ file)) es ≡ map (fixed_entry φ) (map (entry_at file) es)
    entries_fixed =
        let member = chain_place file _ entry_kind _ _ es k.of_entries in
        map_same (entry_at (fixed_file φ file)) (λ r. fixed_entry φ (entry_at file r)) 0 es (λ i h. entry_fixed (get_or es i 0) (member i h).least (member i h).kind_is)
        ∙ sym (map-map (fixed_entry φ) (entry_at file) es)

    -- the fixed file's chains make the fixed cell
    circuit_fixed : file_circuit (fixed_file φ file) ns ts es ≡ fixed φ (file_circuit file ns ts es)
    unfolding file_circuit fixed
    circuit_fixed =
        λ i. record {
          letters = (header_kept i).letters;
          horizon = (header_kept i).horizon;
          nodes = nodes_fixed i;
          transistors = transistors_kept i;
          schedule = entries_fixed i;
        }

    records_fixed : Records file ns ts es → fields_legal (fixed φ (file_circuit file ns ts es)) ≡ true → Records (fixed_file φ file) ns ts es
    records_fixed r legal = record {
      nodes_blank = every_same (node_blank (fixed_file φ file)) (node_blank file) 0 ns (λ i h. node_blank_kept _) ∙ r.nodes_blank;
      transistors_blank = every_same (transistor_blank (fixed_file φ file)) (transistor_blank file) 0 ts (λ i h. transistor_blank_kept _) ∙ r.transistors_blank;
      entries_blank = every_same (entry_blank (fixed_file φ file)) (entry_blank file) 0 es (λ i h. entry_blank_kept _) ∙ r.entries_blank;
      fields = ap fields_legal circuit_fixed ∙ legal;
      order = ap rising entries_fixed ∙ rising_fixed φ (map (entry_at file) es) ∙ r.order;
    }

  read_fixed : (c : Circuit) → check_circuit c ≡ answered c → ReadAs file c → ReadAs (fixed_file φ file) (fixed φ c)
  read_fixed c e k = record {
    long = rw fixed_file_length k.long;
    header = header_legal_kept ∙ k.header;
    stated = fixed_file_length ∙ k.stated ∙ ap stated_length (sym header_kept);
    ns = k.ns;
    ts = k.ts;
    es = k.es;
    chains = chains_kept k.ns k.ts k.es k.chains;
    records = records_fixed k.ns k.ts k.es k.chains k.records
        (subst (λ (d : Circuit). fields_legal (fixed φ d) ≡ true) k.is (circuit_checked (fixed_legal φ c e)).fields);
    is = ap (fixed φ) k.is ∙ sym (circuit_fixed k.ns k.ts k.es k.chains);
  }

  -- a file whose source bytes are fixed is read as the fixed cell
  pub fixed_file_lem : (c : Circuit) → read_cell file ≡ answered c → read_cell (fixed_file φ file) ≡ answered (fixed φ c)
  fixed_file_lem c e = read_answered (fixed_file φ file) (fixed φ c) (read_fixed c (read_checked file c e) (read_as file c e))
