-- Mistakes near at hand, each shut out by a small cell that it would compute otherwise. What is expected was worked out by hand from
-- document 01; the comments say how, and what the mistake would give.
use mathlib.Core.Path.{◌≡◌, refl}
use mathlib.Core.Bool.{false}
use mathlib.Core.List.{List, [], ◌∷◌, ◌++◌, map}
use Prim.Native.Nat.{ℕ}
use Rattle.units.specs.declared.Resistance.TheVariants.{Infinite, Finite}
use Rattle.units.specs.Units.{ohms, femtofarads}
use Rattle.units.specs.Rules.{ceiling}
use Rattle.format.specs.Circuit.{Circuit}
use Rattle.diagram.specs.Table.{never, terminal, branch}
use Rattle.diagram.specs.Store.{fresh}
use Rattle.rules.specs.Kept.{Channel, kept}
use Rattle.rules.specs.Sum.{new_value}
use Rattle.rules.specs.Step.{initial}
use Rattle.rules.specs.Run.{start_moment}
use Rattle.rules.specs.Cases.{ground, supply, low, high, letter, complement, input, inner, n_type, p_type, at, cell}
use Rattle.rules.proofs.Opened.{opened}
use Rattle.rules.proofs.Examples.{line, listing}

-- Reconsidering a node for patterns in which nothing disturbed what it reaches.
-- Nodes 4 and 5 are joined at 95; node 5 is then to rise over 1100 ohm with 100 + 100 × 1000 / 1100 = 191 fF: 95 + 211 = 306.
-- Node 4 rises at 100, which disturbs no transistor. At 101 the input 2, at the end of a channel that never conducts, takes letter 0.
-- Where that is 0 nothing changed: 306 stays. Where it is 1 the channel is disturbed, its other end is node 5, and with 100 fF left: 101 + 110 = 211.
-- Reconsidered at 100, node 5 would rise at 210; at 101 for both patterns, at 211 in both. With inputs that disturb only where the channel
-- conducts, 306 would stay in both.
abbrev touching : Circuit
touching =
    cell 1
    (input low ∷ input low ∷ inner low 100 ∷ inner low 100 ∷ [])
    (p_type ground supply 4 1000 ∷ n_type 3 4 5 100 ∷ n_type ground 2 5 10 ∷ [])
    (at 95 3 high ∷ at 101 2 (letter 0) ∷ [])

pub still_pattern_keeps :
    listing 5 0 touching
    ≡ line 0 (0 ∷ 0 ∷ 0 ∷ 0 ∷ []) (never ∷ never ∷ 100 ∷ never ∷ [])
    ∷ line 95 (0 ∷ 1 ∷ 0 ∷ 0 ∷ []) (never ∷ never ∷ 100 ∷ 306 ∷ [])
    ∷ line 100 (0 ∷ 1 ∷ 1 ∷ 0 ∷ []) (never ∷ never ∷ never ∷ 306 ∷ [])
    ∷ line 101 (0 ∷ 1 ∷ 1 ∷ 0 ∷ []) (never ∷ never ∷ never ∷ 306 ∷ [])
    ∷ line 211 (0 ∷ 1 ∷ 1 ∷ 0 ∷ []) (never ∷ never ∷ never ∷ 306 ∷ [])
    ∷ line 306 (0 ∷ 1 ∷ 1 ∷ 1 ∷ []) (never ∷ never ∷ never ∷ never ∷ [])
    ∷ []
unfolding listing
still_pattern_keeps = refl

pub disturbed_pattern_reconsidered :
    listing 4 1 touching
    ≡ line 0 (0 ∷ 0 ∷ 0 ∷ 0 ∷ []) (never ∷ never ∷ 100 ∷ never ∷ [])
    ∷ line 95 (0 ∷ 1 ∷ 0 ∷ 0 ∷ []) (never ∷ never ∷ 100 ∷ 306 ∷ [])
    ∷ line 100 (0 ∷ 1 ∷ 1 ∷ 0 ∷ []) (never ∷ never ∷ never ∷ 306 ∷ [])
    ∷ line 101 (1 ∷ 1 ∷ 1 ∷ 0 ∷ []) (never ∷ never ∷ never ∷ 211 ∷ [])
    ∷ line 211 (1 ∷ 1 ∷ 1 ∷ 1 ∷ []) (never ∷ never ∷ never ∷ never ∷ [])
    ∷ []
unfolding listing
disturbed_pattern_reconsidered = refl

-- The whole group of channels, conducting or not. As `touching`, but at 101 the input 2 gates a transistor of node 6, which only a channel
-- that never conducts links to node 5: it is not reached, and rises at 306. With the whole group it would rise at 211.
abbrev cut_off : Circuit
cut_off =
    cell 0
    (input low ∷ input low ∷ inner low 100 ∷ inner low 100 ∷ inner low 10 ∷ [])
    (p_type ground supply 4 1000 ∷ n_type 3 4 5 100 ∷ n_type ground 5 6 10 ∷ n_type 2 ground 6 10 ∷ [])
    (at 95 3 high ∷ at 101 2 high ∷ [])

pub cut_off_keeps :
    listing 4 0 cut_off
    ≡ line 0 (0 ∷ 0 ∷ 0 ∷ 0 ∷ 0 ∷ []) (never ∷ never ∷ 100 ∷ never ∷ never ∷ [])
    ∷ line 95 (0 ∷ 1 ∷ 0 ∷ 0 ∷ 0 ∷ []) (never ∷ never ∷ 100 ∷ 306 ∷ never ∷ [])
    ∷ line 100 (0 ∷ 1 ∷ 1 ∷ 0 ∷ 0 ∷ []) (never ∷ never ∷ never ∷ 306 ∷ never ∷ [])
    ∷ line 101 (1 ∷ 1 ∷ 1 ∷ 0 ∷ 0 ∷ []) (never ∷ never ∷ never ∷ 306 ∷ never ∷ [])
    ∷ line 306 (1 ∷ 1 ∷ 1 ∷ 1 ∷ 0 ∷ []) (never ∷ never ∷ never ∷ never ∷ never ∷ [])
    ∷ []
unfolding listing
cut_off_keeps = refl

-- Reach through an input. Input 7 is high and always joined to nodes 5 and 6, to node 5 over 240,000 ohm. Node 5 is to rise at 95 + 210 = 305: 1100
-- ohm beside 240,000 are 1095, with 191 fF. At 101 the input 2 gates a transistor of node 6, which leads to node 5 only through input 7.
-- Reconsidered, node 5 would rise at 101 + 110 = 211.
abbrev beyond_input : Circuit
beyond_input =
    cell 0
    (input low ∷ input low ∷ inner low 100 ∷ inner low 100 ∷ inner high 10 ∷ input high ∷ [])
    (p_type ground supply 4 1000 ∷ n_type 3 4 5 100 ∷ n_type supply 7 5 240000 ∷ n_type supply 7 6 10 ∷ n_type 2 supply 6 10 ∷ [])
    (at 95 3 high ∷ at 101 2 high ∷ [])

pub input_leads_nowhere :
    listing 4 0 beyond_input
    ≡ line 0 (0 ∷ 0 ∷ 0 ∷ 0 ∷ 1 ∷ 1 ∷ []) (never ∷ never ∷ 100 ∷ never ∷ never ∷ never ∷ [])
    ∷ line 95 (0 ∷ 1 ∷ 0 ∷ 0 ∷ 1 ∷ 1 ∷ []) (never ∷ never ∷ 100 ∷ 305 ∷ never ∷ never ∷ [])
    ∷ line 100 (0 ∷ 1 ∷ 1 ∷ 0 ∷ 1 ∷ 1 ∷ []) (never ∷ never ∷ never ∷ 305 ∷ never ∷ never ∷ [])
    ∷ line 101 (1 ∷ 1 ∷ 1 ∷ 0 ∷ 1 ∷ 1 ∷ []) (never ∷ never ∷ never ∷ 305 ∷ never ∷ never ∷ [])
    ∷ line 305 (1 ∷ 1 ∷ 1 ∷ 1 ∷ 1 ∷ 1 ∷ []) (never ∷ never ∷ never ∷ never ∷ never ∷ never ∷ [])
    ∷ []
unfolding listing
input_leads_nowhere = refl

-- Only the ends of a disturbed transistor. Node 3 is the end of the pull-down that opens at 10, node 4 stands behind it: 3 falls over 1000 ohm with
-- 10 + 20 fF, 4 over 2000 with 20 + 10 × 1000 / 2000 = 25. Not reconsidered, node 4 would stay high.
abbrev behind : Circuit
behind = cell 0 (input low ∷ inner high 10 ∷ inner high 20 ∷ []) (n_type 2 ground 3 1000 ∷ n_type supply 3 4 1000 ∷ []) (at 10 2 high ∷ [])

pub channels_lead_on :
    listing 3 0 behind
    ≡ line 0 (0 ∷ 1 ∷ 1 ∷ []) (never ∷ never ∷ never ∷ [])
    ∷ line 10 (1 ∷ 1 ∷ 1 ∷ []) (never ∷ 40 ∷ 60 ∷ [])
    ∷ line 40 (1 ∷ 0 ∷ 1 ∷ []) (never ∷ never ∷ 60 ∷ [])
    ∷ line 60 (1 ∷ 0 ∷ 0 ∷ []) (never ∷ never ∷ never ∷ [])
    ∷ []
unfolding listing
channels_lead_on = refl

-- Disturbed transistors that conduct alone. The pull-down of node 3 shuts at 50, before its fall at 100, which is taken back: nothing drives the
-- node any more. With transistors that conduct after T alone it would fall.
abbrev shutting : Circuit
shutting = cell 0 (input high ∷ inner high 100 ∷ []) (n_type 2 ground 3 1000 ∷ []) (at 50 2 low ∷ [])

pub shutting_disturbs :
    listing 1 0 shutting
    ≡ line 0 (1 ∷ 1 ∷ []) (never ∷ 100 ∷ [])
    ∷ line 50 (0 ∷ 1 ∷ []) (never ∷ never ∷ [])
    ∷ []
unfolding listing
shutting_disturbs = refl

-- Flipping one node and reading its neighbours before the rest.
-- At 60 node 2 rises (1000 ohm, 60 fF) and input 4 falls. Before: 600 ohm to supply, 1000 to ground, high. After: the other 1000 ohm to
-- ground alone, and 50 fF: node 3 falls at 110. With node 2 flipped first both are to ground, 500 ohm: 85. With input 4 first, or
-- neither, supply holds node 3.
abbrev together : Circuit
together =
    cell 0
    (inner low 60 ∷ inner high 50 ∷ input high ∷ [])
    (p_type ground supply 2 1000 ∷ p_type 2 supply 3 600 ∷ n_type 2 ground 3 1000 ∷ n_type 4 ground 3 1000 ∷ [])
    (at 60 4 low ∷ [])

pub all_flips_before_reading :
    listing 2 0 together
    ≡ line 0 (0 ∷ 1 ∷ 1 ∷ []) (60 ∷ never ∷ never ∷ [])
    ∷ line 60 (1 ∷ 1 ∷ 0 ∷ []) (never ∷ 110 ∷ never ∷ [])
    ∷ line 110 (1 ∷ 0 ∷ 0 ∷ []) (never ∷ never ∷ never ∷ [])
    ∷ []
unfolding listing
all_flips_before_reading = refl

-- A precharged output 2 behind two n in series, the middle 3 low. At 10 the lower one shuts as the upper one opens: nothing drives, and
-- the output's 50 fF lift the middle's 10 fF over 1000 ohm after 10 ps. With the upper one open before the lower one shuts the output would be driven low.
abbrev precharged : Circuit
precharged =
    cell 0
    (inner high 50 ∷ inner low 10 ∷ input low ∷ input high ∷ [])
    (n_type 4 2 3 1000 ∷ n_type 5 ground 3 1000 ∷ [])
    (at 10 4 high ∷ at 10 5 low ∷ [])

pub no_path_in_between :
    listing 2 0 precharged
    ≡ line 0 (1 ∷ 0 ∷ 0 ∷ 1 ∷ []) (never ∷ never ∷ never ∷ never ∷ [])
    ∷ line 10 (1 ∷ 0 ∷ 1 ∷ 0 ∷ []) (never ∷ 20 ∷ never ∷ never ∷ [])
    ∷ line 20 (1 ∷ 1 ∷ 1 ∷ 0 ∷ []) (never ∷ never ∷ never ∷ never ∷ [])
    ∷ []
unfolding listing
no_path_in_between = refl

-- Charge that moves past a node of the old value. A high node 2 of 100 fF lifts 3 and, behind it, 4. Node 3: 1000 ohm to node 2, and behind an
-- infinite arm all of node 4's charge, 10 + 20 fF: 30. Node 4: 2000 ohm, 20 + 10 × 1000 / 2000 = 25 fF: 50. Were node 3 an end, node 4 would have
-- no path, or with node 3 at the new value 20; with nothing but rails and inputs as ends, neither would have one.
abbrev handed_on : Circuit
handed_on = cell 0 (inner high 100 ∷ inner low 10 ∷ inner low 20 ∷ []) (n_type supply 2 3 1000 ∷ n_type supply 3 4 1000 ∷ []) []

pub charge_handed_on : listing 0 0 handed_on ≡ line 0 (1 ∷ 0 ∷ 0 ∷ []) (never ∷ 30 ∷ 50 ∷ []) ∷ []
unfolding listing
charge_handed_on = refl

-- Holders counted as ends where a side drives. Supply lifts node 2 over 1000 ohm, 10 fF: 10. Node 3 behind it is high already and drives
-- nothing; as an end beside supply it would make 500 ohm: 5.
abbrev held_beside : Circuit
held_beside = cell 0 (inner low 10 ∷ inner high 50 ∷ []) (p_type ground supply 2 1000 ∷ n_type supply 2 3 1000 ∷ []) []

pub holders_do_not_drive : listing 0 0 held_beside ≡ line 0 (0 ∷ 1 ∷ []) (10 ∷ never ∷ []) ∷ []
unfolding listing
holders_do_not_drive = refl

-- Two holders, 2 and 4, on either side of node 3: 1000 ohm beside 3000, 750, and 40 fF: 30. Node 5 behind holder 4 is low: 4 alone is its end,
-- over 500 ohm, 30 fF: 15; its charge is not node 3's.
abbrev between_holders : Circuit
between_holders =
    cell 0
    (inner high 50 ∷ inner low 40 ∷ inner high 50 ∷ inner low 30 ∷ [])
    (n_type supply 2 3 1000 ∷ n_type supply 3 4 3000 ∷ n_type supply 4 5 500 ∷ [])
    []

pub ends_at_holders : listing 0 0 between_holders ≡ line 0 (1 ∷ 0 ∷ 1 ∷ 0 ∷ []) (never ∷ 30 ∷ never ∷ 15 ∷ []) ∷ []
unfolding listing
ends_at_holders = refl

-- The least delay is 1: 1 ohm and 1 fF.
abbrev least_delay : Circuit
least_delay = cell 0 (inner low 2 ∷ inner high 1 ∷ []) (n_type supply 2 3 1 ∷ []) []

pub least_delay_lem : listing 0 0 least_delay ≡ line 0 (0 ∷ 1 ∷ []) (never ∷ 1 ∷ []) ∷ []
unfolding listing
least_delay_lem = refl

-- the numbers of the kept transistors at the start
pub kept_numbers : Circuit → List ℕ
unfolding opened
kept_numbers c = map (λ (k : Channel). k.number) (kept c (initial c 0))

-- Counting two parallel pull-ups through supply as a loop to break, or two channels from an input.
-- Node 3: 500 ohm, 100 fF: 50 (with one pull-up 100). Node 4: 250 ohm, 40 fF: 10 (with one channel 20).
abbrev pull_ups : Circuit
pull_ups =
    cell 0
    (input high ∷ inner low 100 ∷ inner low 40 ∷ [])
    (p_type ground supply 3 1000 ∷ p_type ground supply 3 1000 ∷ n_type supply 2 4 500 ∷ p_type ground 2 4 500 ∷ [])
    []

pub pull_ups_are_no_loop : listing 0 0 pull_ups ≡ line 0 (1 ∷ 0 ∷ 0 ∷ []) (never ∷ 50 ∷ 10 ∷ []) ∷ []
unfolding listing
pull_ups_are_no_loop = refl

pub pull_ups_kept : kept_numbers pull_ups ≡ 0 ∷ 1 ∷ 2 ∷ 3 ∷ []
unfolding kept_numbers
pull_ups_kept = refl

-- Two nodes that meet at supply are not joined by it, so the channel between them is kept.
-- For each node 1000 ohm beside 2000, 667, and 10 + 10 × 1000 / 2000 = 15 fF: 11 (without the channel 10).
abbrev meet_at_rail : Circuit
meet_at_rail =
    cell 0
    (inner low 10 ∷ inner low 10 ∷ [])
    (p_type ground supply 2 1000 ∷ p_type ground supply 3 1000 ∷ n_type supply 2 3 1000 ∷ [])
    []

pub rail_joins_nothing : listing 0 0 meet_at_rail ≡ line 0 (0 ∷ 0 ∷ []) (11 ∷ 11 ∷ []) ∷ []
unfolding listing
rail_joins_nothing = refl

-- Of two channels between the same inner nodes the second is broken.
-- Node 2: 1000 ohm, 30 + 10 fF: 40. Node 3: 1500 ohm, 10 + 30 × 1000 / 1500 = 30 fF: 45 (with both channels 1250 ohm and 34 fF: 43).
abbrev pass_gate : Circuit
pass_gate =
    cell 0
    (inner low 30 ∷ inner low 10 ∷ [])
    (p_type ground supply 2 1000 ∷ n_type supply 2 3 500 ∷ p_type ground 2 3 500 ∷ [])
    []

pub second_channel_broken : listing 0 0 pass_gate ≡ line 0 (0 ∷ 0 ∷ []) (40 ∷ 45 ∷ []) ∷ []
unfolding listing
second_channel_broken = refl

-- A ring of three nodes pulled up at node 2, so that the third channel is broken.
-- 2: 1000 ohm, 30 fF. 3: 2000 ohm, 10 + 10 + 10 × 1000 / 2000 = 25 fF. 4: 3000 ohm, 10 + 15 × 2000 / 3000 = 20 fF.
abbrev ring : Circuit
ring =
    cell 0
    (inner low 10 ∷ inner low 10 ∷ inner low 10 ∷ [])
    (n_type supply 2 3 1000 ∷ n_type supply 3 4 1000 ∷ n_type supply 4 2 1000 ∷ p_type ground supply 2 1000 ∷ [])
    []

pub ring_broken_once : listing 0 0 ring ≡ line 0 (0 ∷ 0 ∷ 0 ∷ []) (30 ∷ 50 ∷ 60 ∷ []) ∷ []
unfolding listing
ring_broken_once = refl

pub ring_kept : kept_numbers ring ≡ 0 ∷ 1 ∷ 3 ∷ []
unfolding kept_numbers
ring_kept = refl

-- Taking the ceiling of resistance for infinite. What lies above it is refused (Ceiling.antt); at the ceiling a side drives, whatever the charges.
pub ceiling_drives_high :
    new_value (record { high = Finite (ohms ceiling); low = Infinite; high_charge = femtofarads 0; low_charge = femtofarads 1; exceeds = false }) 0 ≡ 1
unfolding new_value
ceiling_drives_high = refl

pub ceiling_drives_low :
    new_value (record { high = Infinite; low = Finite (ohms ceiling); high_charge = femtofarads 1; low_charge = femtofarads 0; exceeds = false }) 1 ≡ 0
unfolding new_value
ceiling_drives_low = refl

-- Equality decided one way. Node 3 has 1000 ohm to either rail, and so node 2 has 2000 behind its channel, on either side:
-- at both patterns both nodes keep their values, which differ.
abbrev balanced : Circuit
balanced =
    cell 1
    (inner (letter 0) 10 ∷ inner (complement 0) 10 ∷ [])
    (n_type supply supply 3 1000 ∷ n_type supply ground 3 1000 ∷ n_type supply 2 3 500 ∷ [])
    []

pub equality_keeps :
    listing 0 0 balanced ++ listing 0 1 balanced
    ≡ line 0 (0 ∷ 1 ∷ []) (never ∷ never ∷ [])
    ∷ line 0 (1 ∷ 0 ∷ []) (never ∷ never ∷ [])
    ∷ []
unfolding listing
equality_keeps = refl

-- T taken from one pattern only. Node 3 starts as its gate, so it rises at 100 where letter 0 is 0 and falls at 50 where it is 1.
abbrev follower : ℕ → ℕ → Circuit
follower up down = cell 1 (input (letter 0) ∷ inner (letter 0) 50 ∷ []) (p_type 2 supply 3 up ∷ n_type 2 ground 3 down ∷ []) []

pub earliest_of_all_patterns :
    listing 2 0 (follower 2000 1000)
    ≡ line 0 (0 ∷ 0 ∷ []) (never ∷ 100 ∷ [])
    ∷ line 50 (0 ∷ 0 ∷ []) (never ∷ 100 ∷ [])
    ∷ line 100 (0 ∷ 1 ∷ []) (never ∷ never ∷ [])
    ∷ []
unfolding listing
earliest_of_all_patterns = refl

-- the ohms exchanged: the first pattern is the earlier one
pub earliest_of_the_first_pattern :
    listing 2 1 (follower 1000 2000)
    ≡ line 0 (1 ∷ 1 ∷ []) (never ∷ 100 ∷ [])
    ∷ line 50 (1 ∷ 1 ∷ []) (never ∷ 100 ∷ [])
    ∷ line 100 (1 ∷ 0 ∷ []) (never ∷ never ∷ [])
    ∷ []
unfolding listing
earliest_of_the_first_pattern = refl

-- Next changes stored before or between the values. Node 2 is letter 1 and rises at 10 where it is low; node 3 is letter 0 and rises at
-- 20. Entries 3 and 4 are the values in node order; then 10 and its branch on letter 1, then 20 and its branch on letter 0.
abbrev rising : Circuit
rising = cell 2 (inner (letter 1) 10 ∷ inner (letter 0) 10 ∷ []) (p_type ground supply 2 1000 ∷ p_type ground supply 3 2000 ∷ []) []

pub values_stored_first :
    start_moment rising fresh
    ≡ record {
      run = record { time = 0; used = 9; values = 3 ∷ 4 ∷ []; changes = 6 ∷ 8 ∷ [] };
      table = fresh ++ (branch 1 0 1 ∷ branch 0 0 1 ∷ terminal 10 ∷ branch 1 5 2 ∷ terminal 20 ∷ branch 0 7 2 ∷ []);
    }
unfolding opened
values_stored_first = refl

-- A transistor with both ends driven. As `touching`, but input 2 gates a channel from supply to input 3: its change at 101 reaches no inner node,
-- and node 5 rises at 306.
abbrev driven_ends : Circuit
driven_ends =
    cell 0
    (input low ∷ input low ∷ inner low 100 ∷ inner low 100 ∷ [])
    (p_type ground supply 4 1000 ∷ n_type 3 4 5 100 ∷ n_type 2 supply 3 10 ∷ [])
    (at 95 3 high ∷ at 101 2 high ∷ [])

pub driven_ends_reach_nothing :
    listing 4 0 driven_ends
    ≡ line 0 (0 ∷ 0 ∷ 0 ∷ 0 ∷ []) (never ∷ never ∷ 100 ∷ never ∷ [])
    ∷ line 95 (0 ∷ 1 ∷ 0 ∷ 0 ∷ []) (never ∷ never ∷ 100 ∷ 306 ∷ [])
    ∷ line 100 (0 ∷ 1 ∷ 1 ∷ 0 ∷ []) (never ∷ never ∷ never ∷ 306 ∷ [])
    ∷ line 101 (1 ∷ 1 ∷ 1 ∷ 0 ∷ []) (never ∷ never ∷ never ∷ 306 ∷ [])
    ∷ line 306 (1 ∷ 1 ∷ 1 ∷ 1 ∷ []) (never ∷ never ∷ never ∷ never ∷ [])
    ∷ []
unfolding listing
driven_ends_reach_nothing = refl

-- A node that no channel reaches, 3, keeps its charge; node 4 beside it falls 20 ps after its gate rises.
abbrev alone : Circuit
alone = cell 0 (input low ∷ inner high 10 ∷ inner high 20 ∷ []) (n_type 2 ground 4 1000 ∷ []) (at 10 2 high ∷ [])

pub node_alone_keeps :
    listing 2 0 alone
    ≡ line 0 (0 ∷ 1 ∷ 1 ∷ []) (never ∷ never ∷ never ∷ [])
    ∷ line 10 (1 ∷ 1 ∷ 1 ∷ []) (never ∷ never ∷ 30 ∷ [])
    ∷ line 30 (1 ∷ 1 ∷ 0 ∷ []) (never ∷ never ∷ never ∷ [])
    ∷ []
unfolding listing
node_alone_keeps = refl

-- A node that gates its own pull-down: 1000 ohm against 3000 to supply. Each flip of its disturbs that transistor, so it gets its next change at
-- once: down in 40, up in 120.
abbrev self_gated : Circuit
self_gated = cell 0 (inner high 40 ∷ []) (n_type 2 ground 2 1000 ∷ p_type ground supply 2 3000 ∷ []) []

pub own_gate_disturbs :
    listing 3 0 self_gated
    ≡ line 0 (1 ∷ []) (40 ∷ [])
    ∷ line 40 (0 ∷ []) (160 ∷ [])
    ∷ line 160 (1 ∷ []) (200 ∷ [])
    ∷ line 200 (0 ∷ []) (320 ∷ [])
    ∷ []
unfolding listing
own_gate_disturbs = refl
