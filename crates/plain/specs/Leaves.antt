-- The kept transistors of a pattern, as flags behind its values.
use Rattle.std.specs.Prelude.{ℕ, ◌+◌, ◌-◌, ◌≤◌, ◌<◌, List, [], ◌∷◌, Bool, not, ◌&&◌, cond, ◌≡◌, length, get_or, take, set, eqb}
use Rattle.format.specs.declared.Transistor.{Transistor}
use Rattle.format.specs.Circuit.{Circuit}
use Rattle.rules.specs.State.{State, node_numbers}
use Rattle.rules.specs.Label.{Labels, join, between_inner, pieces, only}
use Rattle.rules.specs.Kept.{conducts, kept, kept_from, after_kept}
use Rattle.net.specs.Net.{transistors_place, at, net_circuit}
use Rattle.net.specs.Written.{OnlyAt, Labelled}
use Rattle.net.specs.Roots.{kept_place, leaf_length}
use Rattle.plain.specs.Leaf.{kept_by, is_kept, leaf_channels}
use Rattle.plain.specs.Shown.{Shows}

-- the tests, read off a column of values and one of labels
abbrev pub conducts_at : List ℕ → Transistor → Bool
conducts_at values t = eqb (get_or values t.gate 0) (1 - t.polarity)

abbrev pub keeps_at : Circuit → List ℕ → List ℕ → Transistor → Bool
keeps_at c values labels t = conducts_at values t && not (between_inner c t && eqb (get_or labels t.first 0) (get_or labels t.second 0))

-- the labels after a transistor that is kept
abbrev pub EndsJoined : Circuit → Transistor → List ℕ → List ℕ → Type 0
EndsJoined c t before after =
    (ls : Labels) → length ls ≡ length c.nodes → Labelled before 0 ls → Labelled after 0 (cond (between_inner c t) (join ls t.first t.second) ls)

-- one transistor: its flag, and the labels after it
pub record OneKept (c : Circuit) (values : List ℕ) (i : ℕ) (t : Transistor) (leaf next labels after : List ℕ) : Type 0 where
  pub flag : next ≡ set leaf (kept_place + i) (cond (keeps_at c values labels t) 1 0)
  pub joined : (ls : Labels) → length ls ≡ length c.nodes → Labelled labels 0 ls → Labelled after 0 (cond (keeps_at c values labels t && between_inner c t) (join ls t.first t.second) ls)

-- the labels after these transistors
unfoldable pub labels_after : Circuit → State → Labels → List Transistor → Labels
labels_after c s ls [] = ls
labels_after c s ls (t ∷ ts) = labels_after c s (after_kept c s ls t) ts

-- the first k transistors have their flags
pub record KeptTo (c : Circuit) (values : List ℕ) (k : ℕ) (before leaf labels : List ℕ) : Type 0 where
  pub rest : OnlyAt kept_place (kept_place + k) before leaf
  pub bits : (i : ℕ) → i < k → get_or leaf (kept_place + i) 0 ≤ 1
  pub channels : (s : State) → Shows c values s → kept_by (is_kept leaf) 0 (take k c.transistors) ≡ kept_from c s (node_numbers c) 0 (take k c.transistors)
  pub labelled : (s : State) → Shows c values s → Labelled labels 0 (labels_after c s (node_numbers c) (take k c.transistors))

-- a leaf: the values, and a flag for each transistor that rule 3 keeps in a state with these values
pub record KeptLeaf (net values leaf : List ℕ) : Type 0 where
  pub long : length leaf ≡ leaf_length
  pub same : (n : ℕ) → n < 26 → get_or leaf n 0 ≡ get_or values n 0
  pub bits : (i : ℕ) → get_or leaf (kept_place + i) 0 ≤ 1
  pub none : (i : ℕ) → at net transistors_place ≤ i → get_or leaf (kept_place + i) 0 ≡ 0
  pub channels : (s : State) → Shows (net_circuit net) values s → leaf_channels (net_circuit net) leaf ≡ kept (net_circuit net) s

-- labels by node number of the pieces into which the channels that conduct in a state with these values part the inner nodes
pub record Parted (net values labels : List ℕ) : Type 0 where
  pub long : length labels ≡ 26
  pub label : (s : State) → Shows (net_circuit net) values s → Labelled labels 0 (pieces (net_circuit net) (only (conducts s) (net_circuit net).transistors))
