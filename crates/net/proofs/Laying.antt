-- Laws of the cell that a column lays out: what it reads, when it is legal, and when it stays the same.
use mathlib.Core.Path.{◌≡◌, refl, sym, ◌∙◌, ap}
use mathlib.Core.List.{List, map}
use mathlib.Core.Logic.{⊎_elim}
use Prim.Native.Nat.{ℕ, ◌+◌, ◌-◌, ◌≤◌, ◌<◌}
use native.Mathlib.Omega.{arith}
use lib.ListN.{length, get_or, length-map}
use lib.Seq.{ext_get_or}
use lib.Dec.{eqb}
use borrow.Author.Tests.{le-leb}
use Rattle.lists.proofs.Map.{map_at, map_same}
use Rattle.refusal.specs.Answer.{answered}
use Rattle.units.specs.Units.{picoseconds}
use Rattle.format.specs.declared.Node.{Node}
use Rattle.format.specs.declared.Entry.{Entry}
use Rattle.format.specs.Circuit.{Circuit, no_node, no_transistor, no_entry, node_record}
use Rattle.format.specs.Legal.{most_nodes, most_transistors, most_entries, most_horizon, is_input, check_circuit}
use Rattle.format.proofs.Legal.{LegalNode, LegalTransistor, LegalEntry, legal_limits, legal_node, legal_transistor, legal_entry}
use Rattle.cell.specs.declared.Cell.{Cell}
use Rattle.cell.specs.Value.{firsts, circuit_of}
use Rattle.cell.proofs.Firsts.{length_firsts, firsts_at}
use Rattle.rules.specs.State.{up_from}
use Rattle.rules.proofs.State.{up_length, up_at}
use Rattle.net.specs.Net.{at, net_node, net_transistor, net_entry, net_circuit}
use Rattle.net.specs.Laid.{NodeWithin, TransistorWithin, EntryWithin, Within, Laid}
use Rattle.net.specs.Written.{OnlyAt, puts, header_writes, Put, Fielded}
use Rattle.net.proofs.Only.{only_then, only_wider, puts_hit, puts_only}
use Rattle.net.proofs.Rows.{node_path, transistor_path, entry_path}

module _ {A : Type 0} (f : ℕ → A) where
  -- as many as numbers
  pub rows_length : (n : ℕ) → length (map f (up_from n 0)) ≡ n
  rows_length n = length-map (up_from n 0) f ∙ up_length n 0

  -- the record at a place
  pub rows_at : (n i : ℕ) (d : A) → i < n → get_or (map f (up_from n 0)) i d ≡ f i
  rows_at n i d h =
      let e : 0 + i ≡ i = omega arith in
      map_at f (up_from n 0) 0 d i (omega (arith, up_length n 0)) ∙ ap f (up_at n 0 i 0 h ∙ e)

  -- records that stand in their places are the list
  pub rows_firsts : (n : ℕ) (d : A) (xs : List A) → ((i : ℕ) → i < n → f i ≡ get_or xs i d) → map f (up_from n 0) ≡ firsts n d xs
  rows_firsts n d xs h =
      ext_get_or d (map f (up_from n 0)) (firsts n d xs) (rows_length n ∙ sym (length_firsts d n xs))
      (λ i l.
      let k : i < n = omega (arith, rows_length n) in
      rows_at n i d k ∙ h i k ∙ sym (firsts_at d n xs i k))

-- two rows that agree
pub rows_same : {A : Type 0} (f g : ℕ → A) (n : ℕ) → ((i : ℕ) → i < n → f i ≡ g i) → map f (up_from n 0) ≡ map g (up_from n 0)
rows_same f g n h =
    map_same f g 0 (up_from n 0)
    (λ i l.
    let k : i < n = omega (arith, up_length n 0) in
    let e : get_or (up_from n 0) i 0 ≡ i = up_at n 0 i 0 k ∙ omega arith in
    rw e (h i k))

module _ (net : List ℕ) where
  pub nodes_length : length (net_circuit net).nodes ≡ at net 0
  unfolding net_circuit
  nodes_length = rows_length (net_node net) (at net 0)

  pub transistors_length : length (net_circuit net).transistors ≡ at net 1
  unfolding net_circuit
  transistors_length = rows_length (net_transistor net) (at net 1)

  pub schedule_length : length (net_circuit net).schedule ≡ at net 2
  unfolding net_circuit
  schedule_length = rows_length (net_entry net) (at net 2)

  pub node_at_lem : (i : ℕ) → i < at net 0 → get_or (net_circuit net).nodes i no_node ≡ net_node net i
  unfolding net_circuit
  node_at_lem i h = rows_at (net_node net) (at net 0) i no_node h

  pub transistor_at_lem : (i : ℕ) → i < at net 1 → get_or (net_circuit net).transistors i no_transistor ≡ net_transistor net i
  unfolding net_circuit
  transistor_at_lem i h = rows_at (net_transistor net) (at net 1) i no_transistor h

  pub entry_at_lem : (i : ℕ) → i < at net 2 → get_or (net_circuit net).schedule i no_entry ≡ net_entry net i
  unfolding net_circuit
  entry_at_lem i h = rows_at (net_entry net) (at net 2) i no_entry h

  -- the letters and the horizon stand at their places
  pub letters_at : (net_circuit net).letters ≡ at net 3
  unfolding net_circuit
  letters_at = refl

  pub horizon_at : (net_circuit net).horizon.0 ≡ at net 4
  unfolding net_circuit
  horizon_at = refl

-- a column that lays out a cell lays out its own
pub laid_own : {c : Circuit} {net : List ℕ} → Laid c net → Laid (net_circuit net) net
laid_own l = rw l.circuit l

-- a node record is an input's if its role says so
pub input_at : (net : List ℕ) (n : ℕ) → 2 ≤ n → n < 2 + at net 0 → is_input (net_circuit net) n ≡ eqb (at net (8 + (n - 2))) 1
input_at net n least most =
    let e : (node_record (net_circuit net) n).role ≡ at net (8 + (n - 2)) = ap (λ (x : Node). x.role) (node_at_lem net (n - 2) (omega arith)) in
    rw (le-leb 2 n least, e)

legal_role : {letters : ℕ} {n : Node} → LegalNode letters n → n.role ≤ 1
legal_role l = ⊎_elim (λ e. omega arith) (λ e. omega arith) l.role_is

-- the column of a legal cell is within limits
pub legal_within : (net : List ℕ) → check_circuit (net_circuit net) ≡ answered (net_circuit net) → Within net
unfolding net_circuit
legal_within net e =
    let l = legal_limits {c = net_circuit net} e in
    let n = nodes_length net in
    let m = transistors_length net in
    let k = schedule_length net in
    record {
      least_nodes = omega (arith, l.least_nodes);
      nodes = omega (arith, l.most_nodes_lem);
      least_transistors = omega (arith, l.least_transistors);
      transistors = omega (arith, l.most_transistors_lem);
      entries = omega (arith, l.most_entries_lem);
      letters = l.most_letters_lem;
      least_horizon = l.least_horizon;
      horizon = l.most_horizon_lem;
      node = λ i h. node i h;
      transistor = λ i h. transistor i h;
      entry = λ i h. entry i h;
    }
  where
    node : (i : ℕ) → i < at net 0 → NodeWithin (at net 3) (net_node net i)
    node i h =
        let l : LegalNode (at net 3) (net_node net i) = rw (node_at_lem net i h) at (legal_node {c = net_circuit net} e i (omega (arith, nodes_length net))) in
        record { role = legal_role l; source = l.source; capacitance = l.most }

    transistor : (i : ℕ) → i < at net 1 → TransistorWithin (at net 0) (net_transistor net i)
    transistor i h =
        let l : LegalTransistor (at net 0) (net_transistor net i) = rw (transistor_at_lem net i h, nodes_length net) at (legal_transistor {c = net_circuit net} e i (omega (arith, transistors_length net))) in
        record { polarity = l.polarity_is; gate = l.gate_is; first = l.first_is; second = l.second_is; differ = l.ends_differ; least = l.least; most = l.most }

    entry : (i : ℕ) → i < at net 2 → EntryWithin (at net 0) (at net 3) (at net 4) (net_entry net i)
    entry i h =
        let l : LegalEntry (net_circuit net) (net_entry net i) = rw (entry_at_lem net i h) at (legal_entry {c = net_circuit net} e i (omega (arith, schedule_length net))) in
        record { input_least = l.record_least; input_most = rw (nodes_length net) at l.record_most; source = l.source_is; time_least = l.least; time_most = l.most }

-- the fields are as before
abbrev pub Same : List ℕ → List ℕ → Type 0
Same a b = (j : ℕ) → j < 592 → at b j ≡ at a j

module _ (a b : List ℕ) (same : Same a b) where
  pub same_node : (i : ℕ) → i < 24 → net_node b i ≡ net_node a i
  same_node i h = node_path (same (8 + i) (omega arith)) (same (32 + i) (omega arith)) (same (56 + i) (omega arith))

  pub same_transistor : (i : ℕ) → i < 64 → net_transistor b i ≡ net_transistor a i
  same_transistor i h =
      transistor_path (same (80 + i) (omega arith)) (same (144 + i) (omega arith)) (same (208 + i) (omega arith)) (same (272 + i) (omega arith)) (same (336 + i) (omega arith))

  pub same_entry : (i : ℕ) → i < 64 → net_entry b i ≡ net_entry a i
  same_entry i h = entry_path (same (400 + i) (omega arith)) (same (464 + i) (omega arith)) (same (528 + i) (omega arith))

  module _ (w : Within a) where
    -- the cell is as before
    pub same_circuit : net_circuit b ≡ net_circuit a
    unfolding net_circuit
    same_circuit = λ t. record {
      letters = same 3 (omega arith) t;
      horizon = picoseconds (same 4 (omega arith) t);
      nodes = nodes t;
      transistors = transistors t;
      schedule = schedule t;
    }
      where
        nodes : map (net_node b) (up_from (at b 0) 0) ≡ map (net_node a) (up_from (at a 0) 0)
        nodes = rw (same 0 (omega arith)) (rows_same (net_node b) (net_node a) (at a 0) (λ i h. same_node i (omega arith)))

        transistors : map (net_transistor b) (up_from (at b 1) 0) ≡ map (net_transistor a) (up_from (at a 1) 0)
        transistors = rw (same 1 (omega arith)) (rows_same (net_transistor b) (net_transistor a) (at a 1) (λ i h. same_transistor i (omega arith)))

        schedule : map (net_entry b) (up_from (at b 2) 0) ≡ map (net_entry a) (up_from (at a 2) 0)
        schedule = rw (same 2 (omega arith)) (rows_same (net_entry b) (net_entry a) (at a 2) (λ i h. same_entry i (omega arith)))

    -- and within limits
    pub same_within : Within b
    same_within =
        let n = same 0 (omega arith) in
        let m = same 1 (omega arith) in
        let k = same 2 (omega arith) in
        let l = same 3 (omega arith) in
        let z = same 4 (omega arith) in
        record {
          least_nodes = omega (arith, w.least_nodes);
          nodes = omega (arith, w.nodes);
          least_transistors = omega (arith, w.least_transistors);
          transistors = omega (arith, w.transistors);
          entries = omega (arith, w.entries);
          letters = omega (arith, w.letters);
          least_horizon = omega (arith, w.least_horizon);
          horizon = omega (arith, w.horizon);
          node = λ i h. let g : i < at a 0 = omega arith in rw (l, same_node i (omega (arith, w.nodes))) (w.node i g);
          transistor = λ i h. let g : i < at a 1 = omega arith in rw (n, same_transistor i (omega (arith, w.transistors))) (w.transistor i g);
          entry = λ i h. let g : i < at a 2 = omega arith in rw (n, l, z, same_entry i (omega (arith, w.entries))) (w.entry i g);
        }

-- what was written behind the fields left them
pub same_only : {first past : ℕ} {a b : List ℕ} → 592 ≤ first → OnlyAt first past a b → Same a b
same_only h o = λ j l. o.below j (omega arith)

-- a legal cell's counts and times fit their places
pub record Fitting (cell : Cell) : Type 0 where
  pub nodes : cell.header.nodes ≤ most_nodes
  pub transistors : cell.header.transistors ≤ most_transistors
  pub entries : cell.header.entries ≤ most_entries
  pub horizon : cell.header.horizon.0 ≤ most_horizon
  pub times : (i : ℕ) → i < cell.header.entries → (get_or cell.schedule i no_entry).time.0 ≤ most_horizon

pub legal_fits : (cell : Cell) → check_circuit (circuit_of cell) ≡ answered (circuit_of cell) → Fitting cell
unfolding circuit_of
legal_fits cell e =
    let l = legal_limits {c = circuit_of cell} e in
    let n = length_firsts no_node cell.header.nodes cell.nodes in
    let m = length_firsts no_transistor cell.header.transistors cell.transistors in
    let k = length_firsts no_entry cell.header.entries cell.schedule in
    record {
      nodes = omega (arith, l.most_nodes_lem);
      transistors = omega (arith, l.most_transistors_lem);
      entries = omega (arith, l.most_entries_lem);
      horizon = l.most_horizon_lem;
      times = λ i h.
          let t = legal_entry {c = circuit_of cell} e i (omega arith) in
          let s = ap (λ (x : Entry). x.time.0) (firsts_at no_entry cell.header.entries cell.schedule i h) in
          omega (arith, t.most, l.most_horizon_lem, s);
    }

-- The fields, part by part: header, nodes, transistors, entries.
module _ (cell : Cell) (fits : Fitting cell) (a b c d e : List ℕ) (long : length a ≡ 2315) (header : b ≡ puts a (header_writes cell.header))
    (nodes : Put 8 80 net_node no_node cell.nodes cell.header.nodes b c) (transistors : Put 80 400 net_transistor no_transistor cell.transistors cell.header.transistors c d)
    (entries : Put 400 592 net_entry no_entry cell.schedule cell.header.entries d e) where
  header_only : OnlyAt 0 8 a b
  header_only = rw header (puts_only 0 8 a (header_writes cell.header) (omega arith))

  pub fields_only : OnlyAt 0 592 a e
  fields_only =
      only_then (only_wider 0 592 (omega arith) (omega arith) header_only)
      (only_then (only_wider 0 592 (omega arith) (omega arith) nodes.rest)
      (only_then (only_wider 0 592 (omega arith) (omega arith) transistors.rest) (only_wider 0 592 (omega arith) (omega arith) entries.rest)))

  -- the header's numbers stay
  head : (k : ℕ) → k < 8 → at e k ≡ at b k
  head k h = entries.rest.below k (omega arith) ∙ transistors.rest.below k (omega arith) ∙ nodes.rest.below k (omega arith)

  hit : (k : ℕ) (v : ℕ) → k < 8 → at (puts a (header_writes cell.header)) k ≡ v → at e k ≡ v
  hit k v h p = head k h ∙ ap (λ (l : List ℕ). at l k) header ∙ p

  counts_n : at e 0 ≡ cell.header.nodes
  counts_n = hit 0 _ (omega arith) (puts_hit a (header_writes cell.header) 0 (omega arith) (omega arith) (omega arith))

  counts_m : at e 1 ≡ cell.header.transistors
  counts_m = hit 1 _ (omega arith) (puts_hit a (header_writes cell.header) 1 (omega arith) (omega arith) (omega arith))

  counts_e : at e 2 ≡ cell.header.entries
  counts_e = hit 2 _ (omega arith) (puts_hit a (header_writes cell.header) 2 (omega arith) (omega arith) (omega arith))

  counts_k : at e 3 ≡ cell.header.letters
  counts_k = hit 3 _ (omega arith) (puts_hit a (header_writes cell.header) 3 (omega arith) (omega arith) (omega arith))

  counts_h : at e 4 ≡ cell.header.horizon.0
  counts_h = hit 4 _ (omega arith) (puts_hit a (header_writes cell.header) 4 (omega arith) (omega arith) (omega arith))

  -- so do the nodes and the transistors
  node_kept : (i : ℕ) → i < cell.header.nodes → net_node e i ≡ get_or cell.nodes i no_node
  node_kept i h =
      let after : (j : ℕ) → j < 80 → at e j ≡ at c j = λ j l. entries.rest.below j (omega arith) ∙ transistors.rest.below j (omega arith) in
      let g : i < 24 = omega (arith, fits.nodes) in
      node_path (after (8 + i) (omega arith)) (after (32 + i) (omega arith)) (after (56 + i) (omega arith)) ∙ nodes.each i h

  transistor_kept : (i : ℕ) → i < cell.header.transistors → net_transistor e i ≡ get_or cell.transistors i no_transistor
  transistor_kept i h =
      let after : (j : ℕ) → j < 400 → at e j ≡ at d j = λ j l. entries.rest.below j (omega arith) in
      let g : i < 64 = omega (arith, fits.transistors) in
      transistor_path (after (80 + i) (omega arith)) (after (144 + i) (omega arith)) (after (208 + i) (omega arith)) (after (272 + i) (omega arith)) (after (336 + i) (omega arith)) ∙ transistors.each i h

  fields_circuit : net_circuit e ≡ circuit_of cell
  unfolding net_circuit circuit_of
  fields_circuit = λ t. record { letters = counts_k t; horizon = picoseconds (counts_h t); nodes = ns t; transistors = ts t; schedule = es t }
    where
      ns : map (net_node e) (up_from (at e 0) 0) ≡ firsts cell.header.nodes no_node cell.nodes
      ns = rw counts_n (rows_firsts (net_node e) cell.header.nodes no_node cell.nodes node_kept)

      ts : map (net_transistor e) (up_from (at e 1) 0) ≡ firsts cell.header.transistors no_transistor cell.transistors
      ts = rw counts_m (rows_firsts (net_transistor e) cell.header.transistors no_transistor cell.transistors transistor_kept)

      es : map (net_entry e) (up_from (at e 2) 0) ≡ firsts cell.header.entries no_entry cell.schedule
      es = rw counts_e (rows_firsts (net_entry e) cell.header.entries no_entry cell.schedule entries.each)

  pub fields_laid : Fielded (circuit_of cell) a e
  fields_laid = record { rest = fields_only; circuit = fields_circuit }
