-- What the steps of a descent ask and answer.
use Rattle.std.specs.Prelude.{◌≡◌, List, map, false, cond, ℕ, ◌+◌, ◌<◌, ◌≤◌, length, get_or, eqb}
use Rattle.diagram.specs.Table.{terminal_letter}
use Rattle.diagram.specs.Held.{held}
use Rattle.rules.specs.State.{is_driven}
use Rattle.net.specs.Net.{net_circuit}
use Rattle.net.specs.Roots.{seeds_place, roots_length}
use Rattle.plain.specs.Ready.{Net, Noded}
use Rattle.functions.specs.Open.{Legible, Operand}
use Rattle.descent.specs.Settle.{Calm, AllCalm}

-- an inner node of the cell
pub record Inner (net : List ℕ) (n : ℕ) : Type 0 where
  pub cell : Net net
  pub node : Noded net n
  pub inner : is_driven (net_circuit net) n ≡ false

-- entries of a column
pub record Entries (column roots : List ℕ) : Type 0 where
  pub long : length roots ≡ roots_length
  pub within : (j : ℕ) → j < roots_length → get_or roots j 0 < length column

-- the least letter of the roots
pub record Least (letter roots : List ℕ) (m : ℕ) : Type 0 where
  pub least : (j : ℕ) → j < roots_length → m ≤ get_or letter (get_or roots j 0) 0
  pub taken : (m ≡ terminal_letter → ⊥) → (j : ℕ) × (j < roots_length) × (get_or letter (get_or roots j 0) 0 ≡ m)

-- the parts of the roots at letter m, by a column of low or high parts
pub record HalfOf (letter side roots : List ℕ) (m : ℕ) (out : List ℕ) : Type 0 where
  pub long : length out ≡ roots_length
  pub is : (j : ℕ) → j < roots_length → get_or out j 0 ≡ cond (eqb (get_or letter (get_or roots j 0) 0) m) (get_or side (get_or roots j 0) 0) (get_or roots j 0)

-- the numbers of terminals
pub record NumbersOf (low roots out : List ℕ) : Type 0 where
  pub long : length out ≡ roots_length
  pub is : (j : ℕ) → j < roots_length → get_or out j 0 ≡ get_or low (get_or roots j 0) 0

-- numbers by which node n may be settled
pub record Settleable (net : List ℕ) (n : ℕ) (numbers : List ℕ) : Type 0 where
  pub node : Inner net n
  pub long : length numbers ≡ roots_length
  pub calm : Calm (net_circuit net) numbers

-- the low parts of the roots
abbrev pub low_of : List ℕ → List ℕ → List ℕ
low_of low roots = map (λ (e : ℕ). get_or low e 0) roots

-- roots that are terminals
pub record LeafOf (net : List ℕ) (n : ℕ) (low roots : List ℕ) : Type 0 where
  pub entries : Entries low roots
  pub node : Inner net n
  pub calm : Calm (net_circuit net) (low_of low roots)

-- roots in the working columns, calm at every pattern, whose letters are among the last `left` of k
pub record Rooted (net : List ℕ) (n k : ℕ) (l w h : List ℕ) (used : ℕ) (roots : List ℕ) (left : ℕ) : Type 0 where
  pub node : Inner net n
  pub working : Legible k l w h used
  pub long : length roots ≡ roots_length
  pub operand : (j : ℕ) → j < roots_length → Operand k (held l w h used) used left (get_or roots j 0)
  pub calm : AllCalm (net_circuit net) k (held l w h used) roots

-- no node is a seed at any pattern: the roots are entry 0
abbrev pub NoSeed : List ℕ → Type 0
NoSeed roots = (m : ℕ) → m < 26 → get_or roots (seeds_place + m) 0 ≡ 0
