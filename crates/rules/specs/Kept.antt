-- Step rule 3: which transistors conduct, and which of those are kept.
use Rattle.std.specs.Prelude.{ℕ, suc, ◌-◌, List, [], ◌∷◌, Bool, not, ◌&&◌, cond, eqb}
use Rattle.format.specs.declared.Transistor.{Transistor}
use Rattle.format.specs.Circuit.{Circuit}
use Rattle.rules.specs.State.{State, value_at, node_numbers}
use Rattle.rules.specs.Label.{Labels, joined, join, between_inner}

-- an n (0) conducts at gate 1, a p (1) at gate 0
abbrev pub conducts : State → Transistor → Bool
conducts s t = eqb (value_at s t.gate) (1 - t.polarity)

-- a kept transistor and its number
pub record Channel : Type 0 where
  pub number : ℕ
  pub transistor : Transistor

-- a conducting transistor is broken if its two ends are inner nodes that kept ones have joined already
abbrev pub keeps : Circuit → State → Labels → Transistor → Bool
keeps c s ls t = conducts s t && not (between_inner c t && joined ls t.first t.second)

-- what a kept transistor joins: its ends, if both are inner nodes
abbrev pub after_kept : Circuit → State → Labels → Transistor → Labels
after_kept c s ls t = cond (keeps c s ls t && between_inner c t) (join ls t.first t.second) ls

-- by rising number, from transistor i on
unfoldable pub kept_from : Circuit → State → Labels → ℕ → List Transistor → List Channel
kept_from c s ls i [] = []
kept_from c s ls i (t ∷ ts) =
    cond (keeps c s ls t)
    (record { number = i; transistor = t } ∷ kept_from c s (after_kept c s ls t) (suc i) ts)
    (kept_from c s (after_kept c s ls t) (suc i) ts)

unfoldable pub kept : Circuit → State → List Channel
kept c s = kept_from c s (node_numbers c) 0 c.transistors
