-- Records as they are saved: their length, and that those of a legal cell are read again as they were.
use mathlib.Core.Path.{◌≡◌, refl, ap₂}
use mathlib.Core.Bool.{true, ◌&&◌}
use mathlib.Core.List.{List, ◌++◌}
use Prim.Native.Nat.{ℕ}
use native.Mathlib.Omega.{arith}
use lib.ListN.{length, drop}
use Rattle.units.specs.Units.{ohms, femtofarads, picoseconds}
use Rattle.format.specs.declared.Header.{Header}
use Rattle.format.specs.declared.Node.{Node}
use Rattle.format.specs.declared.Transistor.{Transistor}
use Rattle.format.specs.declared.Entry.{Entry}
use Rattle.format.specs.Circuit.{Circuit, header_of}
use Rattle.format.specs.Legal.{node_legal, transistor_legal, entry_legal}
use Rattle.format.specs.File.{zero_bytes, record_at, node_kind, transistor_kind, entry_kind, node_at, transistor_at, entry_at, node_blank, transistor_blank, entry_blank}
use Rattle.format.specs.Saved.{node_bytes, transistor_bytes, entry_bytes, header_bytes}
use Rattle.format.proofs.Legal.{Limits, legal_node_record, legal_transistor_record, legal_entry_record}
use Rattle.format.proofs.SavedChain.{half_whole, word_whole, byte_further, half_further, word_further, zero_further, Written}

-- the header is 16 bytes
pub header_bytes_length : (h : Header) → length (header_bytes h) ≡ 16
unfolding header_bytes
header_bytes_length h = refl

-- a record of each kind is
pub node_bytes_length : (next : ℕ) (n : Node) → length (node_bytes next n) ≡ 16
unfolding node_bytes
node_bytes_length next n = refl

pub transistor_bytes_length : (next : ℕ) (t : Transistor) → length (transistor_bytes next t) ≡ 16
unfolding transistor_bytes
transistor_bytes_length next t = refl

pub entry_bytes_length : (next : ℕ) (e : Entry) → length (entry_bytes next e) ≡ 16
unfolding entry_bytes
entry_bytes_length next e = refl

node_read : (letters next : ℕ) (n : Node) (rest : List ℕ) → node_legal letters n ≡ true → node_at (node_bytes next n ++ rest) 0 ≡ n
unfolding node_bytes node_at
node_read letters next n rest e =
    let p = half_whole n.capacitance.0 (omega (arith, (legal_node_record letters n e).most)) in
    λ i. record { role = n.role; start = n.start; capacitance = femtofarads (p i) }

node_further : (file : List ℕ) (r : ℕ) → node_at file r ≡ node_at (drop (record_at r) file) 0
unfolding node_at
node_further file r =
    let a = byte_further file (record_at r) 4 in
    let b = byte_further file (record_at r) 5 in
    let d = half_further file (record_at r) 6 in
    λ i. record { role = a i; start = b i; capacitance = femtofarads (d i) }

-- node records are read again as they were
pub node_written : (letters : ℕ) → Written node_kind node_bytes node_at node_blank (node_legal letters)
unfolding node_bytes node_blank zero_bytes
node_written letters = record {
  size = node_bytes_length;
  kind_read = λ next n rest. refl;
  next_read = λ next n rest h. half_whole next h;
  at_read = node_read letters;
  blank_read = λ next n rest. refl;
  at_further = node_further;
  blank_further = λ file r. ap₂ ◌&&◌ (zero_further file (record_at r) 1 1) (zero_further file (record_at r) 8 8);
}

transistor_read : (nodes next : ℕ) (t : Transistor) (rest : List ℕ) → transistor_legal nodes t ≡ true → transistor_at (transistor_bytes next t ++ rest) 0 ≡ t
unfolding transistor_bytes transistor_at
transistor_read nodes next t rest e =
    let p = word_whole t.resistance.0 (omega (arith, (legal_transistor_record nodes t e).most)) in
    λ i. record { polarity = t.polarity; gate = t.gate; first = t.first; second = t.second; resistance = ohms (p i) }

transistor_further : (file : List ℕ) (r : ℕ) → transistor_at file r ≡ transistor_at (drop (record_at r) file) 0
unfolding transistor_at
transistor_further file r =
    let a = byte_further file (record_at r) 4 in
    let b = byte_further file (record_at r) 5 in
    let d = byte_further file (record_at r) 6 in
    let e = byte_further file (record_at r) 7 in
    let f = word_further file (record_at r) 8 in
    λ i. record { polarity = a i; gate = b i; first = d i; second = e i; resistance = ohms (f i) }

-- transistors are
pub transistor_written : (nodes : ℕ) → Written transistor_kind transistor_bytes transistor_at transistor_blank (transistor_legal nodes)
unfolding transistor_bytes transistor_blank zero_bytes
transistor_written nodes = record {
  size = transistor_bytes_length;
  kind_read = λ next t rest. refl;
  next_read = λ next t rest h. half_whole next h;
  at_read = transistor_read nodes;
  blank_read = λ next t rest. refl;
  at_further = transistor_further;
  blank_further = λ file r. ap₂ ◌&&◌ (zero_further file (record_at r) 1 1) (zero_further file (record_at r) 4 12);
}

entry_read : (c : Circuit) → Limits (header_of c) → (next : ℕ) (e : Entry) (rest : List ℕ) → entry_legal c e ≡ true → entry_at (entry_bytes next e ++ rest) 0 ≡ e
unfolding entry_bytes entry_at
entry_read c limits next e rest legal =
    let p = word_whole e.time.0 (omega (arith, limits.most_horizon_lem, (legal_entry_record c e legal).most)) in
    λ i. record { input = e.input; source = e.source; time = picoseconds (p i) }

entry_further : (file : List ℕ) (r : ℕ) → entry_at file r ≡ entry_at (drop (record_at r) file) 0
unfolding entry_at
entry_further file r =
    let a = byte_further file (record_at r) 4 in
    let b = byte_further file (record_at r) 5 in
    let d = word_further file (record_at r) 8 in
    λ i. record { input = a i; source = b i; time = picoseconds (d i) }

-- schedule entries are, in a cell whose horizon is within its limit
pub entry_written : (c : Circuit) → Limits (header_of c) → Written entry_kind entry_bytes entry_at entry_blank (entry_legal c)
unfolding entry_bytes entry_blank zero_bytes
entry_written c limits = record {
  size = entry_bytes_length;
  kind_read = λ next e rest. refl;
  next_read = λ next e rest h. half_whole next h;
  at_read = entry_read c limits;
  blank_read = λ next e rest. refl;
  at_further = entry_further;
  blank_further = λ file r.
      ap₂ ◌&&◌ (ap₂ ◌&&◌ (zero_further file (record_at r) 1 1) (zero_further file (record_at r) 2 6)) (zero_further file (record_at r) 4 12);
}
