-- The ranges of a cell that passed the check, as plain facts.
use mathlib.Core.Path.{◌≡◌, ap}
use mathlib.Core.Logic.{◌⊎◌, inl, inr, ⊎_elim}
use mathlib.Core.Bool.{Bool, true, false, not, ◌&&◌, cond}
use mathlib.Core.List.{List, [], ◌∷◌}
use Prim.Native.Nat.{ℕ, zero, suc, ◌+◌, ◌-◌, ◌*◌, ◌≤◌, ◌<◌}
use native.Mathlib.Nat.{le_of_suc-le-suc}
use native.Mathlib.Omega.{arith}
use lib.ListN.{length, get_or, get_or-eq_default}
use lib.Dec.{leb, ltb, eqb}
use borrow.Author.Tests.{leb-true, ltb-true, eqb-true, eqb-false, not-true}
use Rattle.refusal.specs.Answer.{answered}
use Rattle.format.specs.declared.Header.{Header}
use Rattle.format.specs.declared.Node.{Node}
use Rattle.format.specs.declared.Transistor.{Transistor}
use Rattle.format.specs.declared.Entry.{Entry}
use Rattle.format.specs.Circuit.{Circuit, header_of, first_node_number, no_node, no_transistor, no_entry, node_record, every}
use Rattle.format.specs.Source.{source_legal}
use Rattle.format.specs.Legal.{most_nodes, most_transistors, most_entries, most_letters, most_horizon, most_capacitance, most_resistance, within, limits_kept}
use Rattle.format.specs.Legal.{inner, input, node_legal, node_number, transistor_legal, is_input, entry_legal, fields_legal, before, rising_from, rising, check_circuit}
use Rattle.format.specs.File.{read_cell}
use Rattle.lists.proofs.Cases.{bool_cases, lt_or_ge, and_left, and_right, and_both}
use Rattle.format.proofs.Every.{every_at}
use Rattle.format.proofs.Check.{circuit_checked}
use Rattle.format.proofs.Read.{read_checked}

-- counts, letters and horizon of a legal cell
pub record Limits (h : Header) : Type 0 where
  pub least_nodes : 1 ≤ h.nodes
  pub most_nodes_lem : h.nodes ≤ most_nodes
  pub least_transistors : 1 ≤ h.transistors
  pub most_transistors_lem : h.transistors ≤ most_transistors
  pub most_entries_lem : h.entries ≤ most_entries
  pub most_letters_lem : h.letters ≤ most_letters
  pub least_horizon : 1 ≤ h.horizon.0
  pub most_horizon_lem : h.horizon.0 ≤ most_horizon

-- a node record of a legal cell with K letters
pub record LegalNode (letters : ℕ) (n : Node) : Type 0 where
  pub source : n.start < 2 + 2 * letters
  pub role_is : (n.role ≡ inner) ⊎ (n.role ≡ input)
  pub inner_least : n.role ≡ inner → 1 ≤ n.capacitance.0
  pub input_none : n.role ≡ input → n.capacitance.0 ≡ 0
  pub most : n.capacitance.0 ≤ most_capacitance

-- a transistor of a legal cell with N node records
pub record LegalTransistor (nodes : ℕ) (t : Transistor) : Type 0 where
  pub polarity_is : t.polarity ≤ 1
  pub gate_is : t.gate < first_node_number + nodes
  pub first_is : t.first < first_node_number + nodes
  pub second_is : t.second < first_node_number + nodes
  pub ends_differ : t.first ≡ t.second → ⊥
  pub least : 1 ≤ t.resistance.0
  pub most : t.resistance.0 ≤ most_resistance

-- a schedule entry of a legal cell: its node is the record of an input
pub record LegalEntry (c : Circuit) (e : Entry) : Type 0 where
  pub record_least : first_node_number ≤ e.input
  pub record_most : e.input < first_node_number + length c.nodes
  pub is_input_lem : (node_record c e.input).role ≡ input
  pub source_is : e.source < 2 + 2 * c.letters
  pub least : 1 ≤ e.time.0
  pub most : e.time.0 ≤ c.horizon.0

-- one entry stands before another: by time, then by node
abbrev pub Before : Entry → Entry → Type 0
Before a b = (a.time.0 < b.time.0) ⊎ ((a.time.0 ≡ b.time.0) × (a.input < b.input))

-- all of a legal cell
pub record LegalCell (c : Circuit) : Type 0 where
  pub limits : Limits (header_of c)
  pub node : (i : ℕ) → i < length c.nodes → LegalNode c.letters (get_or c.nodes i no_node)
  pub transistor : (i : ℕ) → i < length c.transistors → LegalTransistor (length c.nodes) (get_or c.transistors i no_transistor)
  pub entry : (i : ℕ) → i < length c.schedule → LegalEntry c (get_or c.schedule i no_entry)
  pub order : (i j : ℕ) → i < j → j < length c.schedule → Before (get_or c.schedule i no_entry) (get_or c.schedule j no_entry)

-- a number within its range is at least the range's first
pub within_least : (least most x : ℕ) → within least most x ≡ true → least ≤ x
within_least least most x e = leb-true least x (and_left (leb least x) (leb x most) e)

-- and at most the range's last
pub within_most : (least most x : ℕ) → within least most x ≡ true → x ≤ most
within_most least most x e = leb-true x most (and_right (leb least x) (leb x most) e)

-- the header check, as ranges
pub legal_header : (h : Header) → limits_kept h ≡ true → Limits h
unfolding limits_kept
legal_header h e =
    let n = within 1 most_nodes h.nodes in
    let t = within 1 most_transistors h.transistors in
    let s = leb h.entries most_entries in
    let k = leb h.letters most_letters in
    let z = within 1 most_horizon h.horizon.0 in
    let e4 = and_left (n && t && s && k) z e in
    let e3 = and_left (n && t && s) k e4 in
    let e2 = and_left (n && t) s e3 in
    record {
      least_nodes = within_least _ _ _ (and_left n t e2);
      most_nodes_lem = within_most _ _ _ (and_left n t e2);
      least_transistors = within_least _ _ _ (and_right n t e2);
      most_transistors_lem = within_most _ _ _ (and_right n t e2);
      most_entries_lem = leb-true _ _ (and_right (n && t) s e3);
      most_letters_lem = leb-true _ _ (and_right (n && t && s) k e4);
      least_horizon = within_least _ _ _ (and_right (n && t && s && k) z e);
      most_horizon_lem = within_most _ _ _ (and_right (n && t && s && k) z e);
    }

-- the check of a node record, as ranges
pub legal_node_record : (letters : ℕ) (n : Node) → node_legal letters n ≡ true → LegalNode letters n
unfolding node_legal
legal_node_record letters n e =
    let role : Bool = eqb n.role inner in
    let held : Bool = within 1 most_capacitance n.capacitance.0 in
    let none : Bool = eqb n.role input && eqb n.capacitance.0 0 in
    let s = ltb-true n.start (2 + 2 * letters) (and_left (source_legal letters n.start) (cond role held none) e) in
    let f = and_right (source_legal letters n.start) (cond role held none) e in
    ⊎_elim
    (λ (t : role ≡ true).
    let w : held ≡ true = rw t at f in
    let z : n.role ≡ 0 = eqb-true n.role 0 t in
    record {
      source = s;
      role_is = inl z;
      inner_least = λ q. within_least 1 most_capacitance n.capacitance.0 w;
      input_none = λ q. absurd (omega arith);
      most = within_most 1 most_capacitance n.capacitance.0 w;
    })
    (λ (t : role ≡ false).
    let w : none ≡ true = rw t at f in
    let one : n.role ≡ 1 = eqb-true n.role 1 (and_left (eqb n.role input) (eqb n.capacitance.0 0) w) in
    let z : n.capacitance.0 ≡ 0 = eqb-true n.capacitance.0 0 (and_right (eqb n.role input) (eqb n.capacitance.0 0) w) in
    record {
      source = s;
      role_is = inr one;
      inner_least = λ q. absurd (omega arith);
      input_none = λ q. z;
      most = omega arith;
    })
    (bool_cases role)

-- the check of a transistor, as ranges
pub legal_transistor_record : (nodes : ℕ) (t : Transistor) → transistor_legal nodes t ≡ true → LegalTransistor nodes t
unfolding transistor_legal
legal_transistor_record nodes t e =
    let p = leb t.polarity 1 in
    let g = node_number nodes t.gate in
    let a = node_number nodes t.first in
    let b = node_number nodes t.second in
    let d = not (eqb t.first t.second) in
    let r = within 1 most_resistance t.resistance.0 in
    let e5 = and_left (p && g && a && b && d) r e in
    let e4 = and_left (p && g && a && b) d e5 in
    let e3 = and_left (p && g && a) b e4 in
    let e2 = and_left (p && g) a e3 in
    record {
      polarity_is = leb-true _ _ (and_left p g e2);
      gate_is = ltb-true _ _ (and_right p g e2);
      first_is = ltb-true _ _ (and_right (p && g) a e3);
      second_is = ltb-true _ _ (and_right (p && g && a) b e4);
      ends_differ = eqb-false _ _ (not-true (eqb t.first t.second) (and_right (p && g && a && b) d e5));
      least = within_least _ _ _ (and_right (p && g && a && b && d) r e);
      most = within_most _ _ _ (and_right (p && g && a && b && d) r e);
    }

-- a node number whose record is an input's is that of a record
input_recorded : (c : Circuit) (n : ℕ) → first_node_number ≤ n → (node_record c n).role ≡ input → n < first_node_number + length c.nodes
input_recorded c n h e =
    ⊎_elim
    (λ (lt : n < first_node_number + length c.nodes). lt)
    (λ (ge : first_node_number + length c.nodes ≤ n).
    let z : (node_record c n).role ≡ 0 = ap (λ (m : Node). m.role) (get_or-eq_default c.nodes no_node {n = n - first_node_number} (omega arith)) in
    absurd (omega arith))
    (lt_or_ge n (first_node_number + length c.nodes))

-- the check of a schedule entry, as ranges
pub legal_entry_record : (c : Circuit) (e : Entry) → entry_legal c e ≡ true → LegalEntry c e
unfolding entry_legal
legal_entry_record c e q =
    let n = is_input c e.input in
    let s = source_legal c.letters e.source in
    let t = within 1 c.horizon.0 e.time.0 in
    let q2 = and_left (n && s) t q in
    let q1 = and_left n s q2 in
    let l = leb-true 2 e.input (and_left (leb first_node_number e.input) (eqb (node_record c e.input).role input) q1) in
    let i = eqb-true _ _ (and_right (leb first_node_number e.input) (eqb (node_record c e.input).role input) q1) in
    record {
      record_least = l;
      record_most = input_recorded c e.input l i;
      is_input_lem = i;
      source_is = ltb-true _ _ (and_right n s q2);
      least = within_least _ _ _ (and_right (n && s) t q);
      most = within_most _ _ _ (and_right (n && s) t q);
    }

-- the test of two entries, as a fact
pub before_is : (a b : Entry) → before a b ≡ true → Before a b
before_is a b e =
    ⊎_elim
    (λ (t : ltb a.time.0 b.time.0 ≡ true). inl (ltb-true _ _ t))
    (λ (t : ltb a.time.0 b.time.0 ≡ false).
    let f : eqb a.time.0 b.time.0 && ltb a.input b.input ≡ true = rw t at e in
    let same = and_left (eqb a.time.0 b.time.0) (ltb a.input b.input) f in
    let less = and_right (eqb a.time.0 b.time.0) (ltb a.input b.input) f in
    inr (eqb-true _ _ same, ltb-true _ _ less))
    (bool_cases (ltb a.time.0 b.time.0))

-- an entry before another that is before a third is before the third
pub before_trans : (a b c : Entry) → Before a b → Before b c → Before a c
before_trans a b c (inl p) (inl q) = inl (omega arith)
before_trans a b c (inl p) (inr q) = inl (omega arith)
before_trans a b c (inr p) (inl q) = inl (omega arith)
before_trans a b c (inr p) (inr q) = inr (omega arith, omega arith)

-- the first entry of a schedule that rises is before each later one
rises_first : (a : Entry) (es : List Entry) → rising_from a es ≡ true → (j : ℕ) → j < length es → Before a (get_or es j no_entry)
unfolding rising_from
rises_first a [] e j h = absurd (omega arith)
rises_first a (b ∷ es) e zero h = before_is a b (and_left (before a b) (rising_from b es) e)
rises_first a (b ∷ es) e (suc j) h =
    before_trans a b (get_or es j no_entry) (before_is a b (and_left (before a b) (rising_from b es) e))
    (rises_first b es (and_right (before a b) (rising_from b es) e) j (le_of_suc-le-suc h))

rises_later : (a : Entry) (es : List Entry) → rising_from a es ≡ true → (i j : ℕ) → i < j → j < suc (length es) → Before (get_or (a ∷ es) i no_entry) (get_or (a ∷ es) j no_entry)
unfolding rising_from
rises_later a es e i zero lt h = absurd (omega arith)
rises_later a es e zero (suc j) lt h = rises_first a es e j (omega arith)
rises_later a [] e (suc i) (suc j) lt h = absurd (omega arith)
rises_later a (b ∷ es) e (suc i) (suc j) lt h = rises_later b es (and_right (before a b) (rising_from b es) e) i j (omega arith) (omega arith)

-- in a schedule that rises each entry is before each later one
pub rises : (es : List Entry) → rising es ≡ true → (i j : ℕ) → i < j → j < length es → Before (get_or es i no_entry) (get_or es j no_entry)
unfolding rising
rises [] e i j lt h = absurd (omega arith)
rises (a ∷ es) e i j lt h = rises_later a es e i j lt h

-- the three tests of the records of a cell
pub record Fields (c : Circuit) : Type 0 where
  pub nodes : every (node_legal c.letters) c.nodes ≡ true
  pub transistors : every (transistor_legal (length c.nodes)) c.transistors ≡ true
  pub entries : every (entry_legal c) c.schedule ≡ true

-- the test of all records, apart
pub fields_apart : (c : Circuit) → fields_legal c ≡ true → Fields c
unfolding fields_legal
fields_apart c e =
    let n = every (node_legal c.letters) c.nodes in
    let t = every (transistor_legal (length c.nodes)) c.transistors in
    let s = every (entry_legal c) c.schedule in
    record {
      nodes = and_left n t (and_left (n && t) s e);
      transistors = and_right n t (and_left (n && t) s e);
      entries = and_right (n && t) s e;
    }

-- and together
pub fields_joined : (c : Circuit) → Fields c → fields_legal c ≡ true
unfolding fields_legal
fields_joined c k = and_both _ _ (and_both _ _ k.nodes k.transistors) k.entries

module _ {c : Circuit} (e : check_circuit c ≡ answered c) where
  -- counts, letters and horizon of a legal cell
  pub legal_limits : Limits (header_of c)
  legal_limits = legal_header (header_of c) (circuit_checked e).limits

  -- each node record of a legal cell
  pub legal_node : (i : ℕ) → i < length c.nodes → LegalNode c.letters (get_or c.nodes i no_node)
  legal_node i h = legal_node_record c.letters _ (every_at (node_legal c.letters) c.nodes (fields_apart c (circuit_checked e).fields).nodes no_node i h)

  -- each transistor of a legal cell
  pub legal_transistor : (i : ℕ) → i < length c.transistors → LegalTransistor (length c.nodes) (get_or c.transistors i no_transistor)
  legal_transistor i h =
      legal_transistor_record (length c.nodes) _
      (every_at (transistor_legal (length c.nodes)) c.transistors (fields_apart c (circuit_checked e).fields).transistors no_transistor i h)

  -- each schedule entry of a legal cell
  pub legal_entry : (i : ℕ) → i < length c.schedule → LegalEntry c (get_or c.schedule i no_entry)
  legal_entry i h = legal_entry_record c _ (every_at (entry_legal c) c.schedule (fields_apart c (circuit_checked e).fields).entries no_entry i h)

  -- each schedule entry of a legal cell is before each later one
  pub legal_order : (i j : ℕ) → i < j → j < length c.schedule → Before (get_or c.schedule i no_entry) (get_or c.schedule j no_entry)
  legal_order i j lt h = rises c.schedule (circuit_checked e).order i j lt h

  -- a cell that passed the check is legal
  pub legal_cell : LegalCell c
  legal_cell = record { limits = legal_limits; node = legal_node; transistor = legal_transistor; entry = legal_entry; order = legal_order }

-- a cell that was read is legal
pub legal_read : (file : List ℕ) (c : Circuit) → read_cell file ≡ answered c → LegalCell c
legal_read file c e = legal_cell (read_checked file c e)
