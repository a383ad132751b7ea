-- What each part of laying a cell out writes, and leaves as it was.
use Rattle.std.specs.Prelude.{ℕ, ◌+◌, ◌*◌, ◌≤◌, ◌<◌, List, [], ◌∷◌, Bool, false, ◌&&◌, cond, ◌≡◌, length, get_or, take, set, eqb}
use Rattle.format.specs.declared.Node.{Node}
use Rattle.format.specs.declared.Transistor.{Transistor}
use Rattle.format.specs.declared.Entry.{Entry}
use Rattle.format.specs.declared.Header.{Header}
use Rattle.format.specs.Circuit.{Circuit, first_node_number}
use Rattle.rules.specs.Label.{Labels, label_at, join, between_inner}
use Rattle.rules.specs.Group.{groups}
use Rattle.net.specs.Net.{nodes_place, transistors_place, entries_place, letters_place, horizon_place, role_place, start_place, capacitance_place, polarity_place, gate_place, first_place, second_place, resistance_place, input_place, source_place, time_place, degree_place, arms_place, group_place, loops_place, net_length, at, net_circuit, arms_from, net_arms}
use Rattle.net.specs.Loop.{closes}

-- only places from `first` on and before `past` have changed
pub record OnlyAt (first past : ℕ) (before after : List ℕ) : Type 0 where
  pub long : length after ≡ length before
  pub below : (i : ℕ) → i < first → at after i ≡ at before i
  pub above : (i : ℕ) → past ≤ i → at after i ≡ at before i

-- a place and the number to stand there
abbrev pub Write : Type 0
Write = ℕ × ℕ

-- writes, one after the other
abbrev pub puts : List ℕ → List Write → List ℕ
puts net [] = net
puts net (w ∷ ws) = puts (set net w.0 w.1) ws

abbrev pub header_writes : Header → List Write
header_writes h =
    (nodes_place, h.nodes) ∷ (transistors_place, h.transistors) ∷ (entries_place, h.entries) ∷ (letters_place, h.letters) ∷ (horizon_place, h.horizon.0) ∷ []

abbrev pub node_writes : ℕ → Node → List Write
node_writes i n = (role_place + i, n.role) ∷ (start_place + i, n.start) ∷ (capacitance_place + i, n.capacitance.0) ∷ []

abbrev pub transistor_writes : ℕ → Transistor → List Write
transistor_writes i t =
    (polarity_place + i, t.polarity) ∷ (gate_place + i, t.gate) ∷ (first_place + i, t.first) ∷ (second_place + i, t.second) ∷ (resistance_place + i, t.resistance.0) ∷ []

abbrev pub entry_writes : ℕ → Entry → List Write
entry_writes i e = (input_place + i, e.input) ∷ (source_place + i, e.source) ∷ (time_place + i, e.time.0) ∷ []

-- the first n records stand in their places
pub record Put {A : Type 0} (first past : ℕ) (read : List ℕ → ℕ → A) (d : A) (records : List A) (n : ℕ) (before after : List ℕ) : Type 0 where
  pub rest : OnlyAt first past before after
  pub each : (i : ℕ) → i < n → read after i ≡ get_or records i d

-- n places from `place` on hold f
pub record Row (place n : ℕ) (f : ℕ → ℕ) (before after : List ℕ) : Type 0 where
  pub rest : OnlyAt place (place + n) before after
  pub each : (i : ℕ) → i < n → at after (place + i) ≡ f i

-- the fields of a cell stand in their places
pub record Fielded (c : Circuit) (before after : List ℕ) : Type 0 where
  pub rest : OnlyAt 0 degree_place before after
  pub circuit : net_circuit after ≡ c

-- arm i put at the end of node n's
abbrev pub arm_writes : List ℕ → ℕ → ℕ → List Write
arm_writes net n i = (arms_place + 64 * n + at net (degree_place + n), i) ∷ (degree_place + n, at net (degree_place + n) + 1) ∷ []

-- every node's arms among the first k transistors are listed
pub record Armed (ts : List Transistor) (k : ℕ) (before after : List ℕ) : Type 0 where
  pub rest : OnlyAt degree_place group_place before after
  pub degree : (n : ℕ) → n < 26 → at after (degree_place + n) ≤ k
  pub arms : (n : ℕ) → n < 26 → net_arms after n ≡ arms_from n 0 (take k ts)

-- labels of 26 nodes from a place on: b's label becomes a's
abbrev pub relabelled : List ℕ → ℕ → ℕ → ℕ → ℕ → ℕ
relabelled column place old new n = cond (eqb (at column (place + n)) old) new (at column (place + n))

-- the column holds these labels of the node records
abbrev pub Labelled : List ℕ → ℕ → Labels → Type 0
Labelled column place ls = (n : ℕ) → first_node_number ≤ n → n < first_node_number + length ls → at column (place + n) ≡ label_at ls n

-- whether the ends of a transistor have one label in the column
abbrev pub same_label : List ℕ → Transistor → Bool
same_label column t = eqb (at column (group_place + t.first)) (at column (group_place + t.second))

-- transistor i was noted if it closes a loop
abbrev pub noted : Circuit → Transistor → ℕ → List ℕ → List ℕ
noted c t i net = cond (between_inner c t && same_label net t) (set net loops_place (i + 1)) net

-- the labels of the groups, one transistor more
pub record Linked (c : Circuit) (t : Transistor) (before after : List ℕ) : Type 0 where
  pub rest : OnlyAt group_place loops_place before after
  pub labels : (ls : Labels) → length ls ≡ length c.nodes → Labelled before group_place ls → Labelled after group_place (cond (between_inner c t) (join ls t.first t.second) ls)

-- the column holds the labels of the groups
pub record Grouped (c : Circuit) (before after : List ℕ) : Type 0 where
  pub rest : OnlyAt group_place net_length before after
  pub labels : Labelled after group_place (groups c)
  pub loops : (i : ℕ) → at after loops_place ≤ i → i < length c.transistors → closes c i ≡ false
