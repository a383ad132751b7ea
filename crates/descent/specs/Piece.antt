-- The piece of a node: the inner nodes that it still reaches over transistors that are not known to be off; and the roots that matter to it.
use Rattle.std.specs.Prelude.{◌≡◌, ◌⊎◌, List, Bool, true, false, not, ◌&&◌, ◌||◌, cond, ℕ, ◌+◌, ◌-◌, ◌<◌, ◌≤◌, length, get_or, eqb, ltb}
use Rattle.lists.specs.Tests.{count_below}
use Rattle.format.specs.Circuit.{Circuit, first_node_number}
use Rattle.diagram.specs.Table.{Table}
use Rattle.rules.specs.State.{is_driven}
use Rattle.rules.specs.Label.{joined}
use Rattle.rules.specs.Sum.{far_end}
use Rattle.net.specs.Net.{nodes_place, transistors_place, at, net_transistor, net_circuit, net_arms}
use Rattle.net.specs.Roots.{kept_place, leaf_length, seeds_place, pending_place, roots_length}
use Rattle.plain.specs.Leaf.{net_channel}
use Rattle.descent.specs.Settle.{leaf_at, is_off, parts, settled_at, Roots, Calm}

-- marks of the nodes by number: 1 in the piece, 2 a driven end beside it, 0 neither
abbrev pub marks_length : ℕ
marks_length = 26

abbrev pub is_in : List ℕ → ℕ → Bool
is_in marks m = eqb (get_or marks m 0) 1

abbrev pub is_near : List ℕ → ℕ → Bool
is_near marks m = not (eqb (get_or marks m 0) 0)

-- what stands beside a node of the piece: a node of the piece, or a driven end that is marked
abbrev pub Beside : Circuit → List ℕ → ℕ → Type 0
Beside c marks m = (is_in marks m ≡ true) ⊎ ((is_driven c m ≡ true) × (is_near marks m ≡ true))

-- transistor i was crossed from node x: it is off, or its far end is marked
abbrev pub Crossed : List ℕ → List ℕ → List ℕ → ℕ → ℕ → Type 0
Crossed net roots marks x i = is_off roots i ≡ false → Beside (net_circuit net) marks (far_end x (net_channel net i))

-- all arms of node x were crossed
abbrev pub AllCrossed : List ℕ → List ℕ → List ℕ → ℕ → Type 0
AllCrossed net roots marks x = (k : ℕ) → k < length (net_arms net x) → Crossed net roots marks x (get_or (net_arms net x) k 0)

-- the marks, and the nodes of the piece in the order in which they were found
pub record Found (net marks found : List ℕ) (count : ℕ) : Type 0 where
  pub marks_long : length marks ≡ marks_length
  pub found_long : length found ≡ marks_length
  pub counted : count ≡ count_below marks_length (is_in marks)
  pub inner : (m : ℕ) → is_in marks m ≡ true → is_driven (net_circuit net) m ≡ false
  pub small : (m : ℕ) → is_in marks m ≡ true → m < first_node_number + at net nodes_place
  pub listed : (m : ℕ) → is_in marks m ≡ true → (j : ℕ) × (j < count) × (get_or found j 0 ≡ m)
  pub marked : (j : ℕ) → j < count → is_in marks (get_or found j 0) ≡ true

-- more was found
pub record Grew (marks found : List ℕ) (count : ℕ) (marks' found' : List ℕ) (count' : ℕ) : Type 0 where
  pub inside : (m : ℕ) → is_in marks m ≡ true → is_in marks' m ≡ true
  pub near : (m : ℕ) → is_near marks m ≡ true → is_near marks' m ≡ true
  pub same : (j : ℕ) → j < count → get_or found' j 0 ≡ get_or found j 0
  pub longer : count ≤ count'

-- what a search leaves: sound marks, and all that was found before
pub record Searched (net marks list : List ℕ) (count : ℕ) (marks' list' : List ℕ) (count' : ℕ) : Type 0 where
  pub found : Found net marks' list' count'
  pub grew : Grew marks list count marks' list' count'

-- the marked nodes are of n's piece
abbrev pub Within : List ℕ → List ℕ → ℕ → List ℕ → Type 0
Within net roots n marks = (m : ℕ) → is_in marks m ≡ true → joined (parts (net_circuit net) roots) n m ≡ true

-- a search that began in n's piece has stayed in it
abbrev pub StaysIn : List ℕ → List ℕ → List ℕ → List ℕ → Type 0
StaysIn net roots marks marks' = (n : ℕ) → Within net roots n marks → Within net roots n marks'

-- node x is an end of transistor i
abbrev pub is_end_of : List ℕ → ℕ → ℕ → Bool
is_end_of net i x = eqb (net_transistor net i).first x || eqb (net_transistor net i).second x

-- exactly n's piece: inner nodes that transistors which are not off join to it (`within`), and each to which such a one leads from there (`closed`)
pub record Piece (net roots : List ℕ) (n : ℕ) (marks : List ℕ) : Type 0 where
  pub long : length marks ≡ marks_length
  pub own : is_in marks n ≡ true
  pub inner : (m : ℕ) → is_in marks m ≡ true → is_driven (net_circuit net) m ≡ false
  pub small : (m : ℕ) → is_in marks m ≡ true → m < first_node_number + at net nodes_place
  pub closed : (m : ℕ) → is_in marks m ≡ true → AllCrossed net roots marks m
  pub within : Within net roots n marks

-- transistor i touches the piece
abbrev pub is_touching : List ℕ → List ℕ → ℕ → Bool
is_touching net marks i = ltb i (at net transistors_place) && (is_in marks (net_transistor net i).first || is_in marks (net_transistor net i).second)

-- the roots that matter: the rails, the marked nodes, the transistors that touch the piece, the seeds in it, and pending; of the seeds `sole`
-- alone, where it is a node
unfoldable pub matters : List ℕ → List ℕ → ℕ → ℕ → Bool
matters net marks sole j =
    cond (ltb j kept_place)
    (ltb j first_node_number || is_near marks j)
    (cond (ltb j leaf_length) (is_touching net marks (j - kept_place)) (cond (ltb j pending_place) (cond (eqb sole 0) (is_in marks (j - seeds_place)) (eqb (j - seeds_place) sole)) true))

-- the others are entry 0
pub record Selected (net roots marks : List ℕ) (sole : ℕ) (out : List ℕ) : Type 0 where
  pub long : length out ≡ roots_length
  pub is : (j : ℕ) → j < roots_length → get_or out j 0 ≡ cond (matters net marks sole j) (get_or roots j 0) 0

-- where node n is a seed at every pattern, no other seed matters to it
abbrev pub sole_seed : List ℕ → ℕ → ℕ
sole_seed roots n = cond (eqb (get_or roots (seeds_place + n) 0) 1) n 0

-- roots without those that do not matter to node n: they settle the same at every pattern
pub record Narrowed (c : Circuit) (n : ℕ) (roots out : List ℕ) : Type 0 where
  pub long : length out ≡ roots_length
  pub either : (j : ℕ) → j < roots_length → (get_or out j 0 ≡ get_or roots j 0) ⊎ (get_or out j 0 ≡ 0)
  pub settles : (letters : ℕ) (w : Table) → Roots letters w roots → (time p : ℕ) → settled_at c time n (leaf_at letters w out p) ≡ settled_at c time n (leaf_at letters w roots p)
  pub calm : (letters : ℕ) (w : Table) → Roots letters w roots → (p : ℕ) → Calm c (leaf_at letters w roots p) → Calm c (leaf_at letters w out p)
