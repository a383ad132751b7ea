-- The next change of a node for every pattern: the roots of a descent, and what their numbers at a pattern come to.
use Rattle.std.specs.Prelude.{◌≡◌, List, map, Bool, true, not, ◌&&◌, cond, ℕ, ◌+◌, ◌<◌, ◌≤◌, length, get_or, take, eqb}
use Rattle.format.specs.Circuit.{Circuit}
use Rattle.diagram.specs.Pattern.{most_letters, patterns}
use Rattle.diagram.specs.Table.{Table, number_at}
use Rattle.diagram.specs.Sound.{sound}
use Rattle.rules.specs.State.{node_numbers}
use Rattle.rules.specs.Label.{Labels, joined, pieces, some}
use Rattle.rules.specs.Kept.{Channel}
use Rattle.rules.specs.Matrix.{carriers}
use Rattle.net.specs.Roots.{kept_place, leaf_length, seeds_place, pending_place, roots_length}
use Rattle.plain.specs.Exceeded.{change_or_exceeded}
use Rattle.plain.specs.Leaf.{kept_by, leaf_state, leaf_channels}
use Rattle.plain.specs.Ready.{Leaf, Ranged}
use Rattle.plain.specs.Settle.{pending_after}

-- the numbers of the roots, entries of a table, at a pattern
abbrev pub leaf_at : ℕ → Table → List ℕ → ℕ → List ℕ
leaf_at letters w roots p = map (λ (e : ℕ). number_at letters w e p) roots

-- node m is a seed
abbrev pub is_seeded : List ℕ → ℕ → Bool
is_seeded numbers m = eqb (get_or numbers (seeds_place + m) 0) 1

-- transistor i is off: its number is 0, or its entry, which is then 0 at every pattern
abbrev pub is_off : List ℕ → ℕ → Bool
is_off roots i = eqb (get_or roots (kept_place + i) 0) 0

-- the pieces into which the transistors that are not off part the nodes
abbrev pub parts : Circuit → List ℕ → Labels
parts c roots = pieces c (carriers (kept_by (λ (i : ℕ). not (is_off roots i)) 0 c.transistors))

-- rule 2 by the numbers: n's piece holds a seed
unfoldable pub is_reached : Circuit → ℕ → List ℕ → Bool
is_reached c n numbers = some (λ (m : ℕ). is_seeded numbers m && joined (parts c numbers) n m) (node_numbers c)

-- the pending change once T has happened
abbrev pub pending_of : ℕ → List ℕ → ℕ
pending_of time numbers = pending_after time (get_or numbers pending_place 0)

-- the pending change by an entry of a table, over all patterns
abbrev pub pending_by : ℕ → ℕ → Table → ℕ → ℕ → ℕ
pending_by time letters w e p = pending_after time (number_at letters w e p)

-- the next change of node n by the numbers of one pattern, or that its walk exceeds the ceiling (plain's Exceeded)
unfoldable pub settled_at : Circuit → ℕ → ℕ → List ℕ → ℕ
settled_at c time n numbers =
    cond (is_reached c n numbers)
    (change_or_exceeded c time (leaf_state c (pending_of time numbers) numbers) (leaf_channels c numbers) n)
    (pending_of time numbers)

-- the same over all patterns: what a descent stores
abbrev pub settled_by : Circuit → ℕ → ℕ → ℕ → Table → List ℕ → ℕ → ℕ
settled_by c time n letters w roots p = settled_at c time n (leaf_at letters w roots p)

-- roots are entries of a sound table
pub record Roots (letters : ℕ) (w : Table) (roots : List ℕ) : Type 0 where
  pub few : letters ≤ most_letters
  pub sound : sound letters w ≡ true
  pub long : length roots ≡ roots_length
  pub within : (i : ℕ) → i < roots_length → get_or roots i 0 < length w

-- the numbers of a pattern are a leaf's, and the charges of its walks are small
pub record Calm (c : Circuit) (numbers : List ℕ) : Type 0 where
  pub leaf : Leaf c (take leaf_length numbers)
  pub charges : Ranged c (leaf_state c 0 numbers) (leaf_channels c numbers)

-- so at every pattern
pub record AllCalm (c : Circuit) (letters : ℕ) (w : Table) (roots : List ℕ) : Type 0 where
  pub calm : (p : ℕ) → p < patterns letters → Calm c (leaf_at letters w roots p)

-- transistor i is one of the channels
abbrev pub is_of : List Channel → ℕ → Bool
is_of ks i = some (λ (k : Channel). eqb k.number i) ks
