-- What each part of preparing a step works out, number by number.
use Rattle.std.specs.Prelude.{◌≡◌, List, Bool, false, true, not, ◌&&◌, ◌||◌, cond, ℕ, ◌+◌, ◌<◌, ◌≤◌, ◌-◌, min, get_or, ltb, eqb}
use Rattle.format.specs.declared.Transistor.{Transistor}
use Rattle.format.specs.Circuit.{Circuit, first_node_number}
use Rattle.format.specs.Legal.{is_input}
use Rattle.diagram.specs.Pattern.{patterns}
use Rattle.diagram.specs.Table.{Table, number_at}
use Rattle.diagram.specs.Held.{held}
use Rattle.diagram.specs.Extends.{Extends}
use Rattle.functions.specs.Open.{Open}
use Rattle.table.specs.declared.Stop.{Stop}
use Rattle.table.specs.Stop.{stopped}
use Rattle.working.specs.Grown.{bit, Crowded}
use Rattle.working.specs.Many.{cell, AllUsed, Filled, Matrixed, linked_number}
use Rattle.rules.specs.State.{State, value_at, is_inner, node_numbers}
use Rattle.rules.specs.Label.{label_at, of_piece, some, between_inner}
use Rattle.rules.specs.Group.{groups}
use Rattle.rules.specs.Kept.{conducts}
use Rattle.rules.specs.Matrix.{is_held, matrix_at, transistor_at}
use Rattle.net.specs.Net.{nodes_place, transistors_place, loops_place, at, net_transistor, net_circuit}

-- a state has the values that entries, by node number, take at a pattern
abbrev pub Shows : ℕ → Table → List ℕ → ℕ → ℕ → State → Type 0
Shows letters t entries nodes p s = (n : ℕ) → n < first_node_number + nodes → value_at s n ≡ number_at letters t (get_or entries n 0) p

-- entries, by node number, that are 0 or 1 at every pattern
abbrev pub Bits : ℕ → Table → List ℕ → ℕ → Type 0
Bits letters t entries count = (n p : ℕ) → n < count → p < patterns letters → number_at letters t (get_or entries n 0) p ≤ 1

-- the entry is 1 at a pattern
abbrev pub one : ℕ → Table → ℕ → ℕ → Bool
one letters t e p = eqb (number_at letters t e p) 1

-- the label of the group of a transistor, 0 where no end is inner
abbrev pub group_of : Circuit → Transistor → ℕ
group_of c t = cond (is_inner c t.first) (label_at (groups c) t.first) (cond (is_inner c t.second) (label_at (groups c) t.second) 0)

-- rule 2 for one transistor, over the nodes that changed
abbrev pub disturbed_by : Circuit → (ℕ → Bool) → Transistor → Bool
disturbed_by c changed t = changed t.gate || (is_input c t.first && changed t.first) || (is_input c t.second && changed t.second)

-- every group, or one
abbrev pub considered : ℕ → ℕ → Bool
considered only g = eqb only 0 || eqb g only

-- an inner node of a considered group
abbrev pub is_considered : Circuit → ℕ → ℕ → Bool
is_considered c only n = is_inner c n && considered only (label_at (groups c) n)

-- rule 2 for one node, over the nodes that changed
abbrev pub seed_by : Circuit → (ℕ → Bool) → ℕ → Bool
seed_by c changed n = some (λ (t : Transistor). of_piece c (node_numbers c) n t && disturbed_by c changed t) c.transistors

-- 1 for a seed among the first `count` nodes, if its group is considered: everywhere where `all`
abbrev pub seed_number : Circuit → ℕ → Bool → ℕ → (ℕ → Bool) → ℕ → ℕ
seed_number c count all only changed n = cond (ltb n count) (bit (is_considered c only n && (all || seed_by c changed n))) 0

-- node n has other numbers at a pattern, by the entries before and after
abbrev pub differs : ℕ → ℕ → Table → List ℕ → List ℕ → ℕ → ℕ → Bool
differs count letters t before after p n = ltb n count && not (eqb (number_at letters t (get_or before n 0) p) (number_at letters t (get_or after n 0) p))

-- by label, 0 or 1: 1 for each group with an inner node whose seed function is not entry 0
pub record Active (c : Circuit) (count : ℕ) (seeds active : List ℕ) : Type 0 where
  pub bits : (g : ℕ) → g < 26 → get_or active g 0 ≤ 1
  pub marked : (n : ℕ) → n < count → is_inner c n ≡ true → (get_or seeds n 0 ≡ 0 → ⊥) → get_or active (label_at (groups c) n) 0 ≡ 1

-- an n conducts where its gate is 1, a p where it is not
abbrev pub conducts_number : (polarity gate : ℕ) → ℕ
conducts_number polarity gate = cond (eqb polarity 1) (cond (eqb gate 1) 0 1) gate

-- kept: of an active group, conducting, and not joined already where both ends are inner
abbrev pub kept_number : (polarity : ℕ) (between : Bool) (active gate joined : ℕ) → ℕ
kept_number polarity between active gate joined =
    cond between (cond (eqb joined 1) 0 (cond (eqb active 1) (conducts_number polarity gate) 0)) (cond (eqb active 1) (conducts_number polarity gate) 0)

-- whether the group of a transistor is active at a pattern
abbrev pub looked_at : Circuit → ℕ → Table → List ℕ → ℕ → ℕ → Bool
looked_at c letters t active p i = one letters t (get_or active (group_of c (transistor_at c i)) 0) p

-- the first `count` transistors gone through: their kept functions, and the matrix after them
pub record Keeping (c : Circuit) (nodes letters : ℕ) (t : Table) (values active : List ℕ) (count : ℕ) (l w h ix : List ℕ) (used : ℕ) (kept : List ℕ) (joined : List (List ℕ)) : Type 0 where
  pub opened : Open letters l w h ix used
  pub extends : Extends t (held l w h used)
  pub kept_used : AllUsed 64 kept used
  pub joined_used : (x y : ℕ) → x < 24 → y < 24 → cell joined x y < used
  pub kept_is : (i p : ℕ) (s : State) → i < count → p < patterns letters → Shows letters t values nodes p s
      → number_at letters (held l w h used) (get_or kept i 0) p ≡ bit (is_held c s (looked_at c letters t active p) i)
  pub joined_is : (x y p : ℕ) (s : State) → x < 24 → y < 24 → p < patterns letters → Shows letters t values nodes p s
      → number_at letters (held l w h used) (cell joined x y) p ≡ bit (matrix_at c s (looked_at c letters t active p) count (x + 2) (y + 2))

-- past the last transistor that closes a loop: where it conducts; nowhere where its group is not active
abbrev pub open_number : (polarity active gate : ℕ) → ℕ
open_number polarity active gate = cond (eqb active 0) 0 (conducts_number polarity gate)

abbrev pub is_open : Circuit → State → List ℕ → ℕ → Bool
is_open c s active i = not (eqb (get_or active (group_of c (transistor_at c i)) 0) 0) && conducts s (transistor_at c i)

-- the kept functions of the transistors before `count` that the matrix was asked for
pub record KeptLooped (c : Circuit) (nodes letters : ℕ) (t : Table) (values active : List ℕ) (count : ℕ) (l w h ix : List ℕ) (used : ℕ) (kept : List ℕ) : Type 0 where
  pub opened : Open letters l w h ix used
  pub extends : Extends t (held l w h used)
  pub kept_used : AllUsed 64 kept used
  pub kept_is : (i p : ℕ) (s : State) → i < count → p < patterns letters → Shows letters t values nodes p s
      → number_at letters (held l w h used) (get_or kept i 0) p ≡ bit (is_held c s (looked_at c letters t active p) i)

-- those from `from` on and before `count`, beside some before them
pub record KeptRest (c : Circuit) (nodes letters : ℕ) (t : Table) (values active before : List ℕ) (from count : ℕ) (l w h ix : List ℕ) (used : ℕ) (kept : List ℕ) : Type 0 where
  pub opened : Open letters l w h ix used
  pub extends : Extends t (held l w h used)
  pub kept_used : AllUsed 64 kept used
  pub same : (i : ℕ) → i < from → get_or kept i 0 ≡ get_or before i 0
  pub open_is : (i p : ℕ) (s : State) → from ≤ i → i < count → p < patterns letters → Shows letters t values nodes p s
      → number_at letters (held l w h used) (get_or kept i 0) p ≡ bit (is_open c s active i)

-- the kept functions of all transistors: those before `from` by the matrix, the others where they conduct
pub record KeptAll (c : Circuit) (nodes letters : ℕ) (t : Table) (values active : List ℕ) (from count : ℕ) (l w h ix : List ℕ) (used : ℕ) (kept : List ℕ) : Type 0 where
  pub opened : Open letters l w h ix used
  pub extends : Extends t (held l w h used)
  pub kept_used : AllUsed 64 kept used
  pub kept_is : (i p : ℕ) (s : State) → i < from → p < patterns letters → Shows letters t values nodes p s
      → number_at letters (held l w h used) (get_or kept i 0) p ≡ bit (is_held c s (looked_at c letters t active p) i)
  pub open_is : (i p : ℕ) (s : State) → from ≤ i → i < count → p < patterns letters → Shows letters t values nodes p s
      → number_at letters (held l w h used) (get_or kept i 0) p ≡ bit (is_open c s active i)

-- What the parts leave, by the columns of working afterwards.

-- where each node is a seed by what changed at a pattern, unless there was no room
abbrev pub Seeds : (net : List ℕ) (letters : ℕ) (t : Table) (all : Bool) (only : ℕ) (changed : ℕ → ℕ → Bool) (l w h ix : List ℕ) (stop : Stop) (used : ℕ) (entries : List ℕ) → Type 0
Seeds net letters t all only changed l w h ix stop used entries =
    (stopped stop ≡ false → Filled 26 letters t (λ n p. seed_number (net_circuit net) (first_node_number + at net nodes_place) all only (changed p) n) l w h ix used entries)
    × (stopped stop ≡ true → Crowded letters t l w h ix)

-- the kept number of transistor i at a pattern, by the entries of values, active groups and joined pairs
abbrev pub kept_at : (net : List ℕ) (letters : ℕ) (t : Table) (values active : List ℕ) (joined : List (List ℕ)) (i p : ℕ) → ℕ
kept_at net letters t values active joined i p =
    kept_number (net_transistor net i).polarity (between_inner (net_circuit net) (net_transistor net i))
    (number_at letters t (get_or active (group_of (net_circuit net) (net_transistor net i)) 0) p)
    (number_at letters t (get_or values (net_transistor net i).gate 0) p)
    (number_at letters t (cell joined ((net_transistor net i).first - 2) ((net_transistor net i).second - 2)) p)

-- the joined number of x and y at a pattern, once transistor i is kept where `kept` says
abbrev pub linked_at : (net : List ℕ) (letters : ℕ) (t : Table) (kept : ℕ) (joined : List (List ℕ)) (i x y p : ℕ) → ℕ
linked_at net letters t kept joined i x y p =
    cond (between_inner (net_circuit net) (net_transistor net i))
    (linked_number (number_at letters t kept p) (number_at letters t (cell joined x y) p)
    (number_at letters t (cell joined x ((net_transistor net i).first - 2)) p) (number_at letters t (cell joined ((net_transistor net i).second - 2) y) p)
    (number_at letters t (cell joined x ((net_transistor net i).second - 2)) p) (number_at letters t (cell joined ((net_transistor net i).first - 2) y) p))
    (number_at letters t (cell joined x y) p)

-- the matrix after transistor i, unless there was no room, which a used count of 0 tells
abbrev pub Linking : (net : List ℕ) (letters : ℕ) (t : Table) (kept : ℕ) (joined : List (List ℕ)) (i : ℕ) (l w h ix : List ℕ) (used : ℕ) (after : List (List ℕ)) → Type 0
Linking net letters t kept joined i l w h ix used after =
    ((used ≡ 0 → ⊥) → Matrixed letters t (linked_at net letters t kept joined i) l w h ix used after) × (used ≡ 0 → Crowded letters t l w h ix)

-- the kept functions of all transistors, unless there was no room
abbrev pub KeptWhole : (net : List ℕ) (letters : ℕ) (t : Table) (values active l w h ix : List ℕ) (stop : Stop) (used : ℕ) (kept : List ℕ) → Type 0
KeptWhole net letters t values active l w h ix stop used kept =
    (stopped stop ≡ false → KeptAll (net_circuit net) (at net nodes_place) letters t values active (min (at net loops_place) (at net transistors_place)) (at net transistors_place) l w h ix used kept)
    × (stopped stop ≡ true → Crowded letters t l w h ix)
