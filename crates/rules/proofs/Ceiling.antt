-- Refusal 11 (document 02, wish 3) on small cells, each of which a mistake near at hand would answer otherwise. What is expected was worked out
-- by hand; the comments say how, and what the mistake would give.
use mathlib.Core.Path.{◌≡◌, refl}
use mathlib.Core.List.{[], ◌∷◌}
use Prim.Native.Nat.{ℕ}
use lib.ListN.{length}
use Rattle.format.specs.Circuit.{Circuit}
use Rattle.format.specs.Legal.{check_circuit}
use Rattle.diagram.specs.Store.{fresh}
use Rattle.diagram.specs.Call.{columns_of}
use Rattle.rules.specs.Run.{Run, never_entry}
use Rattle.rules.specs.Call.{step_call}
use Rattle.rules.specs.Cases.{ground, supply, low, high, letter, input, inner, n_type, p_type, at, cell, new_values, after, time_and_used, times_and_used, working}
use Rattle.rules.proofs.Opened.{opened}

-- Node 3 has h ohm to supply and 1 to ground; a transistor of r ohm leads from there to node 2. Its arm to high has h + r + r × h ohm.
-- Both nodes are low and stay low: the side that exceeds does not decide, and no node changes.
abbrev fight : ℕ → ℕ → Circuit
fight h r = cell 0 (inner low 1 ∷ inner low 1 ∷ []) (p_type ground supply 3 h ∷ n_type supply ground 3 1 ∷ n_type supply 2 3 r ∷ []) []

-- the same with high and low exchanged
abbrev mirrored : ℕ → ℕ → Circuit
mirrored h r = cell 0 (inner high 1 ∷ inner high 1 ∷ []) (n_type supply ground 3 h ∷ p_type ground supply 3 1 ∷ n_type supply 2 3 r ∷ []) []

-- 52,579 × 19,019 is 1,000,000,001, so these arms have exactly 1,000,000,000 ohm: answered. One ohm more of the far transistor is refused, on either side.
-- Capped, both are answered; refused at the ceiling, none is; looked at only where a node changes, both are answered.
pub at_the_ceiling : (times_and_used 3 0 (fight 52578 19018) ≡ 0 ∷ 3 ∷ []) × (times_and_used 3 0 (mirrored 52578 19018) ≡ 0 ∷ 3 ∷ [])
unfolding opened after times_and_used
at_the_ceiling = (refl, refl)

pub above_the_ceiling : (times_and_used 3 0 (fight 52579 19018) ≡ 11 ∷ []) × (times_and_used 3 0 (mirrored 52579 19018) ≡ 11 ∷ [])
unfolding opened after times_and_used
above_the_ceiling = (refl, refl)

-- The pull-down of node 4 is gated by input 2, which takes a source at 100; before it there is no fight, and the nodes are high.
abbrev gated : ℕ → Circuit
gated source =
    cell 1
    (input low ∷ inner high 1 ∷ inner high 1 ∷ [])
    (p_type ground supply 4 240000 ∷ n_type 2 ground 4 1 ∷ n_type supply 3 4 240000 ∷ [])
    (at 100 2 source ∷ [])

-- One pattern of two exceeds, in the step to 100. Fixed at 0 the letter takes the refusal away, and fixed at 1 it stays.
pub one_pattern : (times_and_used 14 1 (gated (letter 0)) ≡ 0 ∷ 3 ∷ 11 ∷ []) × (times_and_used 14 1 (gated low) ≡ 0 ∷ 3 ∷ 100 ∷ 3 ∷ []) × (times_and_used 14 1 (gated high) ≡ 0 ∷ 3 ∷ 11 ∷ [])
unfolding opened after times_and_used
one_pattern = (refl, refl, refl)

-- The letter of input 2 is a fourth entry, and the table has three: a step both full and above the ceiling is 11. So is a start, whose input is a letter.
abbrev gated_at_once : Circuit
gated_at_once = cell 1 (input (letter 0) ∷ inner high 1 ∷ inner high 1 ∷ []) (p_type ground supply 4 240000 ∷ n_type 2 ground 4 1 ∷ n_type supply 3 4 240000 ∷ []) []

pub full_and_above : (times_and_used 3 1 (gated (letter 0)) ≡ 0 ∷ 3 ∷ 11 ∷ []) × (times_and_used 3 0 gated_at_once ≡ 11 ∷ [])
unfolding opened after times_and_used
full_and_above = (refl, refl)

-- Node 5 is gated by input 2, which rises at 100; nodes 3 and 4 fight for ever. A start of this cell is refused 11. In a record that was handed over
-- the step to 100 reconsiders node 5 alone, and is answered: nodes 3 and 4 are not looked at.
abbrev aside : Circuit
aside =
    cell 0
    (input low ∷ inner low 1 ∷ inner low 1 ∷ inner low 1 ∷ [])
    (p_type ground supply 3 240000 ∷ n_type supply ground 3 1 ∷ n_type supply 3 4 240000 ∷ n_type 2 ground 5 1000 ∷ [])
    (at 100 2 high ∷ [])

abbrev handed : Run
handed = record { time = 0; used = length fresh; values = 0 ∷ 0 ∷ 0 ∷ 0 ∷ []; changes = never_entry ∷ never_entry ∷ never_entry ∷ never_entry ∷ [] }

pub not_looked_at : (times_and_used 3 0 aside ≡ 11 ∷ []) × (time_and_used (step_call (check_circuit aside) (columns_of 3 fresh) handed working) ≡ 100 ∷ 3 ∷ [])
unfolding opened after times_and_used
not_looked_at = (refl, refl)

-- Taking the ceiling for infinite. Node 3 has 19,018 ohm to supply and 1 to ground; its arm of 52,578 has exactly the ceiling to high, and to low
-- 1 + 52,578 + 3 = 52,582. Node 2 joins 52,583 to supply: the ceiling beside that is 52,581, less than 52,582: high. Were the ceiling infinite, 52,583
-- would be left for high, more than 52,582: low.
abbrev near_ceiling : Circuit
near_ceiling =
    cell 0
    (inner low 1 ∷ inner low 1 ∷ [])
    (p_type ground supply 3 19018 ∷ n_type supply ground 3 1 ∷ n_type supply 2 3 52578 ∷ p_type ground supply 2 52583 ∷ [])
    []

pub ceiling_is_finite : new_values near_ceiling 0 ≡ 1 ∷ 0 ∷ []
unfolding opened new_values
ceiling_is_finite = refl
