-- Document 01's ten worked cases, (d) as document 02's wish 6 extends it, as one table: what the definitions give beside what the paper says, both as lists of numbers.
use Rattle.std.specs.Prelude.{ℕ, zero, suc, ◌+◌, ◌*◌, ◌≡◌, List, [], ◌∷◌, ◌++◌, map, cond, length, get_or, replicate, eqb}
use Prim.Native.String.{String}
use Rattle.refusal.specs.Number.{refusal_number}
use Rattle.refusal.specs.Answer.{Answer, refused, answered, answer_number}
use Rattle.units.specs.declared.Resistance.{Resistance}
use Rattle.units.specs.declared.Resistance.TheVariants.{Infinite, Finite}
use Rattle.units.specs.Units.{ohms, femtofarads, picoseconds}
use Rattle.units.specs.Rules.{parallel}
use Rattle.format.specs.declared.Node.{Node}
use Rattle.format.specs.declared.Transistor.{Transistor}
use Rattle.format.specs.declared.Entry.{Entry}
use Rattle.format.specs.Circuit.{Circuit}
use Rattle.format.specs.Legal.{check_circuit}
use Rattle.format.specs.File.{read_cell}
use Rattle.diagram.specs.Pattern.{letter_at}
use Rattle.diagram.specs.Table.{number_at}
use Rattle.diagram.specs.Store.{store, fresh}
use Rattle.diagram.specs.Call.{Columns, columns_of}
use Rattle.rules.specs.State.{change_at, node_numbers}
use Rattle.rules.specs.Kept.{kept}
use Rattle.rules.specs.Step.{target, initial, started}
use Rattle.rules.specs.Run.{Moment, continued}
use Rattle.rules.specs.Call.{least_working, start_call, step_call}

pub record Case : Type 0 where
  pub name : String
  pub given : List ℕ
  pub expected : List ℕ

abbrev pub row : String → List ℕ → List ℕ → Case
row name given expected = record { name = name; given = given; expected = expected }

-- in every row the given and the expected numbers are the same
abbrev pub Agree : List Case → Type 0
Agree rows = map (λ (row : Case). row.given) rows ≡ map (λ (row : Case). row.expected) rows

-- What cells are written of. The rails: an n gated by supply always conducts, and so does a p gated by ground.
abbrev pub ground : ℕ
ground = 0

abbrev pub supply : ℕ
supply = 1

-- sources
abbrev pub low : ℕ
low = 0

abbrev pub high : ℕ
high = 1

abbrev pub letter : ℕ → ℕ
letter k = 2 + 2 * k

abbrev pub complement : ℕ → ℕ
complement k = 3 + 2 * k

-- nodes by source and femtofarads
abbrev pub input : ℕ → Node
input source = record { role = 1; start = source; capacitance = femtofarads 0 }

abbrev pub inner : ℕ → ℕ → Node
inner source capacitance = record { role = 0; start = source; capacitance = femtofarads capacitance }

-- transistors by gate, the two ends and ohms
abbrev pub n_type : ℕ → ℕ → ℕ → ℕ → Transistor
n_type gate first second resistance = record { polarity = 0; gate = gate; first = first; second = second; resistance = ohms resistance }

abbrev pub p_type : ℕ → ℕ → ℕ → ℕ → Transistor
p_type gate first second resistance = record { polarity = 1; gate = gate; first = first; second = second; resistance = ohms resistance }

-- at a time an input takes a source
abbrev pub at : ℕ → ℕ → ℕ → Entry
at time node source = record { input = node; source = source; time = picoseconds time }

-- a cell of K letters with the inverter's horizon
abbrev pub cell : ℕ → List Node → List Transistor → List Entry → Circuit
cell letters nodes transistors schedule = record {
  letters = letters;
  horizon = picoseconds 1000;
  nodes = nodes;
  transistors = transistors;
  schedule = schedule;
}

-- the ohms of a resistance, none where it is infinite
abbrev pub ohms_of : Resistance → List ℕ
ohms_of Infinite = []
ohms_of (Finite r) = r.0 ∷ []

abbrev pub kiloohm : Resistance
kiloohm = Finite (ohms 1000)

-- asked of a legal cell; nothing comes of any other
abbrev pub if_answered : Answer Circuit → (Circuit → List ℕ) → List ℕ
if_answered (refused why) ask = []
if_answered (answered c) ask = ask c

abbrev pub of_legal : Circuit → (Circuit → List ℕ) → List ℕ
of_legal c ask = if_answered (check_circuit c) ask

-- rule 5 at the start: the new value of each node at a pattern
unfoldable pub new_values : Circuit → ℕ → List ℕ
new_values c pattern =
    let s = initial c pattern in
    let ks = kept c s in
    map (target c s ks) (node_numbers c)

-- (c): one node with the same resistance to supply and to ground; its value is letter 0, so that both values are tried
abbrev pub equal_drive : Circuit
equal_drive = cell 1 (inner (letter 0) 10 ∷ []) (n_type supply supply 2 1000 ∷ n_type supply ground 2 1000 ∷ []) []

-- (d) and (e): two nodes that only a channel joins
abbrev pub two_charges : ℕ → Node → Node → Circuit
two_charges letters a b = cell letters (a ∷ b ∷ []) (n_type supply 2 3 1000 ∷ []) []

-- (f): ground, the middle 2, the output 3
abbrev pub series_pair : Circuit
series_pair = cell 0 (inner high 20 ∷ inner high 50 ∷ []) (n_type supply ground 2 1000 ∷ n_type supply 2 3 1000 ∷ []) []

abbrev pub inverter : Circuit
inverter =
    cell 2 (input (letter 0) ∷ inner (complement 0) 50 ∷ []) (p_type 2 supply 3 2000 ∷ n_type 2 ground 3 1000 ∷ []) (at 200 2 (letter 1) ∷ [])

-- working of the least length
abbrev pub working : Columns
working = columns_of least_working []

-- the start on a fresh table of some size, and k steps: each is a call that checks the cell, the run and the table
unfoldable pub after : ℕ → ℕ → Circuit → Answer Moment
after size zero c = start_call (check_circuit c) (columns_of size fresh) (length fresh) working
after size (suc k) c =
    continued (after size k c) (λ (m : Moment). step_call (check_circuit c) (columns_of size m.table) m.run working)

-- the time and the used count; a refusal's number where there is one
abbrev pub time_and_used : Answer Moment → List ℕ
time_and_used (refused why) = refusal_number why ∷ []
time_and_used (answered m) = m.run.time ∷ m.run.used ∷ []

-- the same after the start and after each of k steps
unfoldable pub times_and_used : ℕ → ℕ → Circuit → List ℕ
times_and_used size zero c = time_and_used (after size zero c)
times_and_used size (suc k) c = times_and_used size k c ++ time_and_used (after size (suc k) c)

-- the entry of a node's value
abbrev pub entry_of : Moment → ℕ → ℕ
entry_of m i = get_or m.run.values i 0

-- (h): the function of node 3 at the four patterns; then 1 for each letter whose entry is that function's, else 0
abbrev pub output_function : Answer Moment → List ℕ
output_function (refused why) = []
output_function (answered m) =
    map (number_at 2 m.table (entry_of m 1)) (0 ∷ 1 ∷ 2 ∷ 3 ∷ [])
    ++ map (λ (k : ℕ). cond (eqb (store 2 0 (letter_at k) m.table).entry (entry_of m 1)) 1 0) (0 ∷ 1 ∷ [])

-- (i) and (j): N inner nodes, each record followed in the chain by the one before it
unfoldable pub node_records : ℕ → List ℕ
node_records zero = []
node_records (suc next) = node_records next ++ (1 ∷ 0 ∷ next ∷ 0 ∷ 0 ∷ 0 ∷ 1 ∷ 0 ∷ replicate 8 0)

-- a whole file of N nodes and K letters, with one transistor, no schedule and horizon 1
unfoldable pub file_of : ℕ → ℕ → List ℕ
file_of nodes letters =
    (nodes ∷ 1 ∷ 0 ∷ letters ∷ 1 ∷ 0 ∷ 0 ∷ 0 ∷ nodes ∷ 0 ∷ suc nodes ∷ 0 ∷ replicate 4 0)
    ++ node_records nodes
    ++ (2 ∷ 0 ∷ 0 ∷ 0 ∷ 0 ∷ 1 ∷ 0 ∷ 2 ∷ 1 ∷ 0 ∷ 0 ∷ 0 ∷ replicate 4 0)

-- 0 where the file is read, else the refusal's number
abbrev pub reading : ℕ → ℕ → ℕ
reading nodes letters = answer_number (read_cell (file_of nodes letters))

-- the table
unfoldable pub cases : List Case
cases =
    -- two of 1 ohm in parallel, rounded up
    row "a" (ohms_of (parallel (Finite (ohms 1)) (Finite (ohms 1)))) (1 ∷ [])
    -- three of 1000 ohm, joined one by one
    ∷ row "b" (ohms_of (parallel kiloohm kiloohm) ++ ohms_of (parallel (parallel kiloohm kiloohm) kiloohm)) (500 ∷ 334 ∷ [])
    -- equal drive: low stays low (pattern 0), high stays high (pattern 1)
    ∷ row "c" (of_legal equal_drive (λ c. new_values c 0 ++ new_values c 1)) (0 ∷ 1 ∷ [])
    -- 30 fF high and 20 fF low: both are to be high, and over 1000 ohm the low one rises at 20 (document 02, wish 6)
    ∷ row "d" (of_legal (two_charges 0 (inner high 30) (inner low 20)) (λ c. new_values c 0 ++ (change_at (started c 0) 3 ∷ []))) (1 ∷ 1 ∷ 20 ∷ [])
    -- 20 fF and 20 fF at opposite values: each keeps its own, whichever is the high one
    ∷ row "e" (of_legal (two_charges 1 (inner (letter 0) 20) (inner (complement 0) 20)) (λ c. new_values c 0 ++ new_values c 1)) (0 ∷ 1 ∷ 1 ∷ 0 ∷ [])
    -- both nodes are to be low, and the output falls at 120
    ∷ row "f" (of_legal series_pair (λ c. new_values c 0 ++ (change_at (started c 0) 3 ∷ []))) (0 ∷ 0 ∷ 120 ∷ [])
    -- times and used counts in a table that just suffices; after that the run is finished, 10
    ∷ row "g" (times_and_used 14 4 inverter) (0 ∷ 5 ∷ 200 ∷ 11 ∷ 250 ∷ 14 ∷ 300 ∷ 14 ∷ 10 ∷ [])
    -- one entry fewer: the step to 250 finds the table full, 6
    ∷ row "g, 13 entries" (times_and_used 13 2 inverter) (0 ∷ 5 ∷ 200 ∷ 11 ∷ 6 ∷ [])
    -- four entries: the start does
    ∷ row "g, 4 entries" (times_and_used 4 0 inverter) (6 ∷ [])
    -- at 250 node 3 is high where both letters are 0 and nowhere else, and it is neither letter
    ∷ row "h" (output_function (after 14 2 inverter)) (1 ∷ 0 ∷ 0 ∷ 0 ∷ 0 ∷ 0 ∷ [])
    -- the most nodes, and one more
    ∷ row "i" (reading 24 0 ∷ reading 25 0 ∷ []) (0 ∷ 2 ∷ [])
    -- the most letters, and one more
    ∷ row "j" (reading 1 12 ∷ reading 1 13 ∷ []) (0 ∷ 2 ∷ [])
    ∷ []
