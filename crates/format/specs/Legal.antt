-- The check of a cell: refusal 2 (counts, letters, horizon), 4 (any other field), 5 (the schedule's order), in that order.
use Rattle.std.specs.Prelude.{ℕ, ◌+◌, List, [], ◌∷◌, Bool, true, not, ◌&&◌, ◌||◌, cond, length, leb, ltb, eqb}
use Rattle.refusal.specs.declared.Refusal.TheVariants.{Header, Record, Order}
use Rattle.refusal.specs.Answer.{Answer, answered, check}
use Rattle.format.specs.declared.Header as header
use Rattle.format.specs.declared.Node.{Node}
use Rattle.format.specs.declared.Transistor.{Transistor}
use Rattle.format.specs.declared.Entry.{Entry}
use Rattle.format.specs.Circuit.{Circuit, header_of, first_node_number, node_record, every}
use Rattle.format.specs.Source.{source_legal}

-- The limits of a cell: most nodes, transistors, schedule entries, letters, and the latest horizon.
abbrev pub most_nodes : ℕ
most_nodes = 24

abbrev pub most_transistors : ℕ
most_transistors = 64

abbrev pub most_entries : ℕ
most_entries = 64

abbrev pub most_letters : ℕ
most_letters = 12

abbrev pub most_horizon : ℕ
most_horizon = 1000000

abbrev pub most_capacitance : ℕ
most_capacitance = 65535

-- document 02, wish 3: the weakest transistor there is
abbrev pub most_resistance : ℕ
most_resistance = 240000

abbrev pub within : ℕ → ℕ → ℕ → Bool
within least most x = leb least x && leb x most

-- 2: counts, letters and horizon are within their limits
unfoldable pub limits_kept : header.Header → Bool
limits_kept h =
    within 1 most_nodes h.nodes
    && within 1 most_transistors h.transistors
    && leb h.entries most_entries
    && leb h.letters most_letters
    && within 1 most_horizon h.horizon.0

abbrev pub inner : ℕ
inner = 0

abbrev pub input : ℕ
input = 1

-- 4: a node record
unfoldable pub node_legal : ℕ → Node → Bool
node_legal letters n =
    source_legal letters n.start
    && cond (eqb n.role inner) (within 1 most_capacitance n.capacitance.0) (eqb n.role input && eqb n.capacitance.0 0)

-- a gate or channel end: a rail or a node record
abbrev pub node_number : ℕ → ℕ → Bool
node_number nodes n = ltb n (first_node_number + nodes)

-- 4: a transistor
unfoldable pub transistor_legal : ℕ → Transistor → Bool
transistor_legal nodes t =
    leb t.polarity 1
    && node_number nodes t.gate
    && node_number nodes t.first
    && node_number nodes t.second
    && not (eqb t.first t.second)
    && within 1 most_resistance t.resistance.0

-- the number is that of an input
abbrev pub is_input : Circuit → ℕ → Bool
is_input c n = leb first_node_number n && eqb (node_record c n).role input

-- 4: a schedule entry
unfoldable pub entry_legal : Circuit → Entry → Bool
entry_legal c e =
    is_input c e.input
    && source_legal c.letters e.source
    && within 1 c.horizon.0 e.time.0

-- 4: all records, nodes, then transistors, then schedule
unfoldable pub fields_legal : Circuit → Bool
fields_legal c =
    every (node_legal c.letters) c.nodes
    && every (transistor_legal (length c.nodes)) c.transistors
    && every (entry_legal c) c.schedule

-- one entry stands before another: by time, then by node
abbrev pub before : Entry → Entry → Bool
before a b = ltb a.time.0 b.time.0 || (eqb a.time.0 b.time.0 && ltb a.input b.input)

-- 5: the schedule rises strictly
unfoldable pub rising_from : Entry → List Entry → Bool
rising_from a [] = true
rising_from a (b ∷ es) = before a b && rising_from b es

unfoldable pub rising : List Entry → Bool
rising [] = true
rising (e ∷ es) = rising_from e es

-- the check of a cell handed over as a value
unfoldable pub check_circuit : Circuit → Answer Circuit
check_circuit c =
    check (limits_kept (header_of c)) Header
    (check (fields_legal c) Record
    (check (rising c.schedule) Order
    (answered c)))
