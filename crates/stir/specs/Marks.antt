-- Marks of the nodes that a step stirs, of what they are worked out from, and the entries that marks leave.
use Rattle.std.specs.Prelude.{◌≡◌, ◌⊎◌, List, Bool, true, false, not, ◌||◌, cond, ℕ, ◌<◌, length, get_or, eqb}
use Rattle.format.specs.declared.Transistor.{Transistor}
use Rattle.rules.specs.State.{is_inner}
use Rattle.rules.specs.Label.{label_at}
use Rattle.rules.specs.Group.{groups, in_group}
use Rattle.net.specs.Net.{transistors_place, at, net_transistor, net_circuit}
use Rattle.plain.specs.Ready.{Noded}
use Rattle.plain.specs.Shown.{disturbed_at}
use Rattle.prepare.specs.Steps.{group_of}
use Rattle.stir.specs.Rest.{stirred_for}

-- marks by the label of a group: the group of a transistor that stirs has one
pub record GroupMarks (net before after marks : List ℕ) : Type 0 where
  pub long : length marks ≡ 26
  pub stir : (i : ℕ) → i < at net transistors_place → disturbed_at (net_circuit net) before after (net_transistor net i) ≡ true
      → get_or marks (group_of (net_circuit net) (net_transistor net i)) 0 ≡ 1

-- the mark of an inner node: that of its group, and one where `all`
abbrev pub NodeMark : List ℕ → List ℕ → Bool → ℕ → ℕ → Type 0
NodeMark net marks all n mark = is_inner (net_circuit net) n ≡ true → mark ≡ cond all 1 (get_or marks (label_at (groups (net_circuit net)) n) 0)

-- marks by node number: an inner node without one is stirred by nothing, and the nodes of a group are marked alike
pub record NodeMarks (net before after : List ℕ) (all : Bool) (marks : List ℕ) : Type 0 where
  pub long : length marks ≡ 26
  pub rest : (n : ℕ) → Noded net n → is_inner (net_circuit net) n ≡ true → get_or marks n 0 ≡ 0 → (all ≡ false) × (stirred_for (net_circuit net) before after n ≡ false)
  pub together : (n m : ℕ) → Noded net n → Noded net m → is_inner (net_circuit net) n ≡ true → in_group (net_circuit net) n m ≡ true → get_or marks m 0 ≡ get_or marks n 0

-- a transistor with a marked end
abbrev pub end_marked : List ℕ → Transistor → Bool
end_marked marks t = not (eqb (get_or marks t.first 0) 0) || not (eqb (get_or marks t.second 0) 0)

-- the gate or an end of a transistor
abbrev pub AtTransistor : Transistor → ℕ → Type 0
AtTransistor t x = (x ≡ t.gate) ⊎ ((x ≡ t.first) ⊎ (x ≡ t.second))

-- marks of what the marked nodes are worked out from: these, the supply, and gate and ends of each transistor at one of them
pub record Needed (net marks need : List ℕ) : Type 0 where
  pub long : length need ≡ 26
  pub own : (n : ℕ) → get_or need n 0 ≡ 0 → get_or marks n 0 ≡ 0
  pub supply : get_or need 1 0 ≡ 0 → ⊥
  pub wired : (i x : ℕ) → i < at net transistors_place → AtTransistor (net_transistor net i) x → get_or need x 0 ≡ 0 → end_marked marks (net_transistor net i) ≡ false

-- the entries of the marked nodes, 0 for the others
pub record Masked (marks entries masked : List ℕ) : Type 0 where
  pub long : length masked ≡ 26
  pub is : (n : ℕ) → n < 26 → get_or masked n 0 ≡ cond (eqb (get_or marks n 0) 0) 0 (get_or entries n 0)
