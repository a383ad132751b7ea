-- How much a wire's load can matter (document 02, wish 11) on small cells: the bound reached, a delay that stays, why each word of the claim is there, and a
-- run of which it says nothing. What is expected was worked out by hand; the comments say how.
use mathlib.Core.Path.{◌≡◌, refl}
use mathlib.Core.List.{List, [], ◌∷◌, ◌++◌}
use Prim.Native.Nat.{ℕ}
use Rattle.units.specs.Units.{femtofarads}
use Rattle.format.specs.Circuit.{Circuit}
use Rattle.diagram.specs.Table.{never}
use Rattle.rules.specs.Delay.{in_ohms}
use Rattle.rules.specs.Step.{initial}
use Rattle.rules.specs.Cases.{ground, supply, low, high, input, inner, n_type, p_type, at, cell, ohms_of, of_legal, two_charges}
use Rattle.rules.specs.Sensitivity.{raised, goes_to, delay_of, resistance_of, most_growth}
use Rattle.rules.proofs.Opened.{opened}
use Rattle.rules.proofs.Examples.{line, listing}

-- node n at the start of a cell: its new value, its delay, and its ohms
unfoldable pub at_start : ℕ → Circuit → List ℕ
at_start n c =
    let s = initial c 0 in
    goes_to c s n ∷ delay_of c s n ∷ ohms_of (resistance_of c s n)

-- the same with more femtofarads at node m, and the most picoseconds by which the delay may grow
unfoldable pub figures : ℕ → ℕ → ℕ → Circuit → List ℕ
figures n m more c =
    of_legal c (at_start n)
    ++ of_legal (raised c m (femtofarads more)) (at_start n)
    ++ (most_growth (in_ohms (resistance_of c (initial c 0) n)) (femtofarads more) ∷ [])

-- One node that falls over 1,500 ohm. With 2 fF: 3 ps. With one more: 4.5, so 5. It grows by 2, and 1,500 × 1 / 1000 is 1.5, rounded up 2: the bound is
-- reached. Without the rounding up it would be 1.
abbrev single : Circuit
single = cell 0 (inner high 2 ∷ []) (n_type supply ground 2 1500 ∷ []) []

pub bound_reached : figures 2 2 1 single ≡ 0 ∷ 3 ∷ 1500 ∷ 0 ∷ 5 ∷ 1500 ∷ 2 ∷ []
unfolding opened raised at_start figures
bound_reached = refl

-- Ground, node 2, node 3: the near transistor, then the far one.
abbrev chain : ℕ → ℕ → ℕ → ℕ → Circuit
chain value capacitance near far = cell 0 (inner value capacitance ∷ inner high 50 ∷ []) (n_type supply ground 2 near ∷ n_type supply 2 3 far ∷ []) []

-- Node 3 falls over 2,000 ohm, with its 50 fF and the share of node 2: 1 × 1000 / 2000 is rounded up to 1, and 2 × 1000 / 2000 is 1 too. 102 ps, and the delay
-- stays the same.
pub delay_stays : figures 3 2 1 (chain high 1 1000 1000) ≡ 0 ∷ 102 ∷ 2000 ∷ 0 ∷ 102 ∷ 2000 ∷ 2 ∷ []
unfolding opened raised at_start figures
delay_stays = refl

-- So it does where node 2 is low already: its charge has not to move.
pub delay_stays_behind_holder : figures 3 2 10 (chain low 20 1000 1000) ≡ 0 ∷ 100 ∷ 2000 ∷ 0 ∷ 100 ∷ 2000 ∷ 20 ∷ []
unfolding opened raised at_start figures
delay_stays_behind_holder = refl

-- R is the changing node's. Node 2 stands 1 ohm from ground, node 3 10,000 further. Of 10,001 fF node 3 has a share of 1, of 10,002 one of 2: 51 fF and then 52
-- over 10,001 ohm, 511 ps and then 521. Node 2's own ohm would allow for 1 ps.
pub changing_nodes_ohms :
    (figures 3 2 1 (chain high 10001 1 10000) ≡ 0 ∷ 511 ∷ 10001 ∷ 0 ∷ 521 ∷ 10001 ∷ 11 ∷ [])
    × (figures 2 2 1 (chain high 10001 1 10000) ≡ 0 ∷ 11 ∷ 1 ∷ 0 ∷ 11 ∷ 1 ∷ 1 ∷ [])
unfolding opened raised at_start figures
changing_nodes_ohms = (refl, refl)

-- A side drives it. Case (d), with 20 fF more at the low node: 40 against 30, and the node that was to rise stays low. Charge is what a load is.
pub new_value_by_charge : figures 3 3 20 (two_charges 0 (inner high 30) (inner low 20)) ≡ 1 ∷ 20 ∷ 1000 ∷ 0 ∷ 1 ∷ 0 ∷ 20 ∷ []
unfolding opened raised at_start figures
new_value_by_charge = refl

-- Of whole runs nothing is said. At 100 input 2 rises: node 3 is to rise over 1,000 ohm, and node 4, from the input, over a channel that node 3 shuts off. With
-- 50 fF node 3 rises at 150, before node 4 would at 160, and node 4 stays low for ever. With 20 fF more node 3 rises at 170, and node 4 rises at 160.
abbrev race : ℕ → Circuit
race capacitance =
    cell 0
    (input low ∷ inner low capacitance ∷ inner low 60 ∷ [])
    (n_type 2 supply 3 1000 ∷ p_type 3 2 4 1000 ∷ [])
    (at 100 2 high ∷ [])

pub node_shut_off :
    listing 2 0 (race 50)
    ≡ line 0 (0 ∷ 0 ∷ 0 ∷ []) (never ∷ never ∷ never ∷ [])
    ∷ line 100 (1 ∷ 0 ∷ 0 ∷ []) (never ∷ 150 ∷ 160 ∷ [])
    ∷ line 150 (1 ∷ 1 ∷ 0 ∷ []) (never ∷ never ∷ never ∷ [])
    ∷ []
unfolding listing
node_shut_off = refl

pub node_rises_before :
    listing 3 0 (race 70)
    ≡ line 0 (0 ∷ 0 ∷ 0 ∷ []) (never ∷ never ∷ never ∷ [])
    ∷ line 100 (1 ∷ 0 ∷ 0 ∷ []) (never ∷ 170 ∷ 160 ∷ [])
    ∷ line 160 (1 ∷ 0 ∷ 1 ∷ []) (never ∷ 170 ∷ never ∷ [])
    ∷ line 170 (1 ∷ 1 ∷ 1 ∷ []) (never ∷ never ∷ never ∷ [])
    ∷ []
unfolding listing
node_rises_before = refl
