-- Rule 3 as the work over all patterns goes by it: which pairs of nodes are joined already, and the transistors that are kept by that. It is no rule of
-- its own: for the nodes of a group whose transistors are all looked at, the same ones are kept (law `group-kept`).
use Rattle.std.specs.Prelude.{ℕ, zero, suc, Bool, not, ◌&&◌, ◌||◌, List, map, get_or, eqb}
use Rattle.format.specs.declared.Transistor.{Transistor}
use Rattle.format.specs.Circuit.{Circuit, no_transistor}
use Rattle.rules.specs.State.{State}
use Rattle.rules.specs.Label.{between_inner, some}
use Rattle.rules.specs.Kept.{Channel, conducts, kept}

-- the transistors of some channels
abbrev pub carriers : List Channel → List Transistor
carriers ks = map (λ (k : Channel). k.transistor) ks

-- transistor i is kept
unfoldable pub is_kept : Circuit → State → ℕ → Bool
is_kept c s i = some (λ (k : Channel). eqb k.number i) (kept c s)

-- the transistor of a number
abbrev pub transistor_at : Circuit → ℕ → Transistor
transistor_at c i = get_or c.transistors i no_transistor

-- which pairs of nodes are joined
abbrev pub Matrix : Type 0
Matrix = ℕ → ℕ → Bool

-- at first each node is joined to itself alone
abbrev pub identity : Matrix
identity x y = eqb x y

-- the ends a and b joined, where the transistor between them is kept
abbrev pub linked : Bool → ℕ → ℕ → Matrix → Matrix
linked k a b j x y = j x y || (k && ((j x a && j b y) || (j x b && j a y)))

-- a transistor that conducts and is looked at is broken if its ends are inner nodes that are joined already
abbrev pub holds : Circuit → State → Bool → Matrix → Transistor → Bool
holds c s looked j t = (conducts s t && looked) && not (between_inner c t && j t.first t.second)

abbrev pub after_held : Circuit → State → Bool → Matrix → Transistor → Matrix
after_held c s looked j t = linked (holds c s looked j t && between_inner c t) t.first t.second j

-- the matrix after the first i transistors, of which some are looked at
unfoldable pub matrix_at : Circuit → State → (ℕ → Bool) → ℕ → Matrix
matrix_at c s looked zero = identity
matrix_at c s looked (suc i) = after_held c s (looked i) (matrix_at c s looked i) (transistor_at c i)

-- transistor i is kept by the matrix
abbrev pub is_held : Circuit → State → (ℕ → Bool) → ℕ → Bool
is_held c s looked i = holds c s (looked i) (matrix_at c s looked i) (transistor_at c i)
