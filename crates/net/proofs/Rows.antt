-- Laws of the fields of the records in a column.
use mathlib.Core.Path.{◌≡◌, ◌∙◌}
use mathlib.Core.List.{List}
use Prim.Native.Nat.{ℕ, ◌+◌, ◌<◌}
use native.Mathlib.Omega.{arith}
use lib.ListN.{length, get_or}
use Rattle.units.specs.Units.{ohms, femtofarads, picoseconds}
use Rattle.format.specs.declared.Node.{Node}
use Rattle.format.specs.declared.Transistor.{Transistor}
use Rattle.format.specs.declared.Entry.{Entry}
use Rattle.format.specs.Circuit.{no_node, no_transistor, no_entry}
use Rattle.format.specs.Legal.{most_nodes, most_transistors, most_entries}
use Rattle.net.specs.Net.{net_length, net_node, net_transistor, net_entry}
use Rattle.net.specs.Written.{OnlyAt, puts, Put, node_writes, transistor_writes, entry_writes}
use Rattle.net.proofs.Only.{puts_away, puts_hit, puts_only, length_puts, put_more}

pub node_path : {a b : Node} → a.role ≡ b.role → a.start ≡ b.start → a.capacitance.0 ≡ b.capacitance.0 → a ≡ b
node_path p q r = λ t. record { role = p t; start = q t; capacitance = femtofarads (r t) }

pub transistor_path : {a b : Transistor} → a.polarity ≡ b.polarity → a.gate ≡ b.gate → a.first ≡ b.first → a.second ≡ b.second → a.resistance.0 ≡ b.resistance.0 → a ≡ b
transistor_path p q r s u = λ t. record { polarity = p t; gate = q t; first = r t; second = s t; resistance = ohms (u t) }

pub entry_path : {a b : Entry} → a.input ≡ b.input → a.source ≡ b.source → a.time.0 ≡ b.time.0 → a ≡ b
entry_path p q r = λ t. record { input = p t; source = q t; time = picoseconds (r t) }

module _ (net : List ℕ) (long : length net ≡ net_length) where
  module _ (i : ℕ) (n : Node) (h : i < most_nodes) where
    node_only : OnlyAt 8 80 net (puts net (node_writes i n))
    node_only = puts_only 8 80 net (node_writes i n) (omega arith)

    node_new : net_node (puts net (node_writes i n)) i ≡ n
    node_new =
        let hit = puts_hit net (node_writes i n) in
        node_path (hit 0 (omega arith) (omega arith) (omega arith)) (hit 1 (omega arith) (omega arith) (omega arith)) (hit 2 (omega arith) (omega arith) (omega arith))

    node_old : (j : ℕ) → j < i → net_node (puts net (node_writes i n)) j ≡ net_node net j
    node_old j l =
        let away = puts_away net (node_writes i n) in
        node_path (away (8 + j) (omega arith)) (away (32 + j) (omega arith)) (away (56 + j) (omega arith))

  module _ (i : ℕ) (t : Transistor) (h : i < most_transistors) where
    transistor_only : OnlyAt 80 400 net (puts net (transistor_writes i t))
    transistor_only = puts_only 80 400 net (transistor_writes i t) (omega arith)

    transistor_new : net_transistor (puts net (transistor_writes i t)) i ≡ t
    transistor_new =
        let hit = puts_hit net (transistor_writes i t) in
        transistor_path (hit 0 (omega arith) (omega arith) (omega arith)) (hit 1 (omega arith) (omega arith) (omega arith)) (hit 2 (omega arith) (omega arith) (omega arith))
        (hit 3 (omega arith) (omega arith) (omega arith)) (hit 4 (omega arith) (omega arith) (omega arith))

    transistor_old : (j : ℕ) → j < i → net_transistor (puts net (transistor_writes i t)) j ≡ net_transistor net j
    transistor_old j l =
        let away = puts_away net (transistor_writes i t) in
        transistor_path (away (80 + j) (omega arith)) (away (144 + j) (omega arith)) (away (208 + j) (omega arith)) (away (272 + j) (omega arith)) (away (336 + j) (omega arith))

  module _ (i : ℕ) (e : Entry) (h : i < most_entries) where
    entry_only : OnlyAt 400 592 net (puts net (entry_writes i e))
    entry_only = puts_only 400 592 net (entry_writes i e) (omega arith)

    entry_new : net_entry (puts net (entry_writes i e)) i ≡ e
    entry_new =
        let hit = puts_hit net (entry_writes i e) in
        entry_path (hit 0 (omega arith) (omega arith) (omega arith)) (hit 1 (omega arith) (omega arith) (omega arith)) (hit 2 (omega arith) (omega arith) (omega arith))

    entry_old : (j : ℕ) → j < i → net_entry (puts net (entry_writes i e)) j ≡ net_entry net j
    entry_old j l =
        let away = puts_away net (entry_writes i e) in
        entry_path (away (400 + j) (omega arith)) (away (464 + j) (omega arith)) (away (528 + j) (omega arith))

-- one more node record
pub node_more : (records : List Node) (i : ℕ) (before net next : List ℕ) → length net ≡ net_length → i < most_nodes → Put 8 80 net_node no_node records i before net → next ≡ puts net (node_writes i (get_or records i no_node))
    → (length next ≡ net_length) × Put 8 80 net_node no_node records (i + 1) before next
node_more records i before net next long h p e =
    let r : Node = get_or records i no_node in
    rw e (
      length_puts net (node_writes i r) ∙ long,
      put_more 8 80 net_node no_node records i before net (puts net (node_writes i r)) p (node_only net long i r h) (node_new net long i r h) (node_old net long i r h),
    )

-- one more transistor record
pub transistor_more : (records : List Transistor) (i : ℕ) (before net next : List ℕ) → length net ≡ net_length → i < most_transistors → Put 80 400 net_transistor no_transistor records i before net → next ≡ puts net (transistor_writes i (get_or records i no_transistor))
    → (length next ≡ net_length) × Put 80 400 net_transistor no_transistor records (i + 1) before next
transistor_more records i before net next long h p e =
    let r : Transistor = get_or records i no_transistor in
    rw e (
      length_puts net (transistor_writes i r) ∙ long,
      put_more 80 400 net_transistor no_transistor records i before net (puts net (transistor_writes i r)) p (transistor_only net long i r h) (transistor_new net long i r h) (transistor_old net long i r h),
    )

-- one more entry record
pub entry_more : (records : List Entry) (i : ℕ) (before net next : List ℕ) → length net ≡ net_length → i < most_entries → Put 400 592 net_entry no_entry records i before net → next ≡ puts net (entry_writes i (get_or records i no_entry))
    → (length next ≡ net_length) × Put 400 592 net_entry no_entry records (i + 1) before next
entry_more records i before net next long h p e =
    let r : Entry = get_or records i no_entry in
    rw e (
      length_puts net (entry_writes i r) ∙ long,
      put_more 400 592 net_entry no_entry records i before net (puts net (entry_writes i r)) p (entry_only net long i r h) (entry_new net long i r h) (entry_old net long i r h),
    )
