-- A cell laid out flat in one column of numbers, with each node's arms listed: what the work of a step reads.
use Rattle.std.specs.Prelude.{ℕ, suc, ◌+◌, ◌*◌, List, [], ◌∷◌, map, ◌||◌, cond, get_or, take, drop, eqb}
use Rattle.units.specs.Units.{ohms, femtofarads, picoseconds}
use Rattle.format.specs.declared.Node.{Node}
use Rattle.format.specs.declared.Transistor.{Transistor}
use Rattle.format.specs.declared.Entry.{Entry}
use Rattle.format.specs.Circuit.{Circuit}
use Rattle.rules.specs.State.{up_from}

-- the places: N, M, E, K, H, then each field of the records, then for each node number how many arms it has, the arms, and its group
abbrev pub nodes_place : ℕ
nodes_place = 0

abbrev pub transistors_place : ℕ
transistors_place = 1

abbrev pub entries_place : ℕ
entries_place = 2

abbrev pub letters_place : ℕ
letters_place = 3

abbrev pub horizon_place : ℕ
horizon_place = 4

abbrev pub role_place : ℕ
role_place = 8

abbrev pub start_place : ℕ
start_place = 32

abbrev pub capacitance_place : ℕ
capacitance_place = 56

abbrev pub polarity_place : ℕ
polarity_place = 80

abbrev pub gate_place : ℕ
gate_place = 144

abbrev pub first_place : ℕ
first_place = 208

abbrev pub second_place : ℕ
second_place = 272

abbrev pub resistance_place : ℕ
resistance_place = 336

abbrev pub input_place : ℕ
input_place = 400

abbrev pub source_place : ℕ
source_place = 464

abbrev pub time_place : ℕ
time_place = 528

abbrev pub degree_place : ℕ
degree_place = 592

abbrev pub arms_place : ℕ
arms_place = 624

abbrev pub group_place : ℕ
group_place = 2288

-- the number after the last transistor that closes a loop of channels
abbrev pub loops_place : ℕ
loops_place = 2314

abbrev pub net_length : ℕ
net_length = 2315

abbrev pub at : List ℕ → ℕ → ℕ
at net i = get_or net i 0

abbrev pub net_node : List ℕ → ℕ → Node
net_node net i = record {
  role = at net (role_place + i);
  start = at net (start_place + i);
  capacitance = femtofarads (at net (capacitance_place + i));
}

abbrev pub net_transistor : List ℕ → ℕ → Transistor
net_transistor net i = record {
  polarity = at net (polarity_place + i);
  gate = at net (gate_place + i);
  first = at net (first_place + i);
  second = at net (second_place + i);
  resistance = ohms (at net (resistance_place + i));
}

abbrev pub net_entry : List ℕ → ℕ → Entry
net_entry net i = record {
  input = at net (input_place + i);
  source = at net (source_place + i);
  time = picoseconds (at net (time_place + i));
}

-- the cell that a flat column lays out
unfoldable pub net_circuit : List ℕ → Circuit
net_circuit net = record {
  letters = at net letters_place;
  horizon = picoseconds (at net horizon_place);
  nodes = map (net_node net) (up_from (at net nodes_place) 0);
  transistors = map (net_transistor net) (up_from (at net transistors_place) 0);
  schedule = map (net_entry net) (up_from (at net entries_place) 0);
}

-- the numbers of the transistors with a channel end at node n, rising, from transistor i on
unfoldable pub arms_from : ℕ → ℕ → List Transistor → List ℕ
arms_from n i [] = []
arms_from n i (t ∷ ts) = cond (eqb t.first n || eqb t.second n) (i ∷ arms_from n (suc i) ts) (arms_from n (suc i) ts)

abbrev pub arms_of : Circuit → ℕ → List ℕ
arms_of c n = arms_from n 0 c.transistors

-- the arms that the column lists for node n
abbrev pub net_arms : List ℕ → ℕ → List ℕ
net_arms net n = take (at net (degree_place + n)) (drop (arms_place + 64 * n) net)

-- the label of node n's group
abbrev pub net_group : List ℕ → ℕ → ℕ
net_group net n = at net (group_place + n)
