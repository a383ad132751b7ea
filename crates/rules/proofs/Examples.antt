-- Runs of small cells, computed: what a run shows after its start and after each step.
use mathlib.Core.Path.{◌≡◌, refl}
use mathlib.Core.List.{List, [], ◌∷◌}
use Prim.Native.Nat.{ℕ, zero, suc}
use Rattle.refusal.specs.Answer.{Answer, refused, answered}
use Rattle.format.specs.Circuit.{Circuit}
use Rattle.format.specs.Legal.{check_circuit}
use Rattle.diagram.specs.Table.{never}
use Rattle.diagram.specs.Store.{fresh}
use Rattle.rules.specs.Run.{Moment, state_of, start_moment, step_moment}
use Rattle.rules.specs.Cases.{ground, supply, low, high, input, inner, n_type, p_type, at, cell}
use Rattle.rules.proofs.Opened.{opened}

-- a moment at one pattern: the time, the values of the node records, their next changes
pub record Line : Type 0 where
  pub time : ℕ
  pub values : List ℕ
  pub changes : List ℕ

abbrev pub line : ℕ → List ℕ → List ℕ → Line
line time values changes = record { time = time; values = values; changes = changes }

unfoldable pub line_of : Circuit → ℕ → Moment → Line
line_of c pattern m =
    let s = state_of c m.table m.run pattern in
    line m.run.time s.values s.changes

unfoldable pub lines_from : ℕ → ℕ → Circuit → Moment → List Line
lines_from zero pattern c m = line_of c pattern m ∷ []
lines_from (suc steps) pattern c m =
    let next = step_moment c m in
    line_of c pattern m ∷ lines_from steps pattern c next

-- the start of a legal cell, and some steps
unfoldable pub lines_of : ℕ → ℕ → Answer Circuit → List Line
lines_of steps pattern (refused why) = []
lines_of steps pattern (answered c) = lines_from steps pattern c (start_moment c fresh)

unfoldable pub listing : ℕ → ℕ → Circuit → List Line
unfolding opened line_of lines_from lines_of
listing steps pattern c = lines_of steps pattern (check_circuit c)

-- Charge alone decides: while the channel conducts, 30 fF high against 20 fF low. The high node counts as an end, over 1000 ohm, and the low one
-- rises after 20 ps.
abbrev sharing : Circuit
sharing = cell 0 (input low ∷ inner high 30 ∷ inner low 20 ∷ []) (n_type 2 3 4 1000 ∷ []) (at 5 2 high ∷ at 27 2 low ∷ [])

pub charge_shared :
    listing 3 0 sharing
    ≡ line 0 (0 ∷ 1 ∷ 0 ∷ []) (never ∷ never ∷ never ∷ [])
    ∷ line 5 (1 ∷ 1 ∷ 0 ∷ []) (never ∷ never ∷ 25 ∷ [])
    ∷ line 25 (1 ∷ 1 ∷ 1 ∷ []) (never ∷ never ∷ never ∷ [])
    ∷ line 27 (0 ∷ 1 ∷ 1 ∷ []) (never ∷ never ∷ never ∷ [])
    ∷ []
unfolding listing
charge_shared = refl

-- The horizon itself, 1000, is a time; 1001 is never.
abbrev long_rise : Circuit
long_rise = cell 0 (inner low 1000 ∷ inner low 1001 ∷ []) (p_type ground supply 2 1000 ∷ p_type ground supply 3 1000 ∷ []) []

pub horizon_reached :
    listing 1 0 long_rise
    ≡ line 0 (0 ∷ 0 ∷ []) (1000 ∷ never ∷ [])
    ∷ line 1000 (1 ∷ 0 ∷ []) (never ∷ never ∷ [])
    ∷ []
unfolding listing
horizon_reached = refl

-- Parallel joins by rising number, rounded up each time. 7, 9, 12: 63/16 is 4, 48/16 is 3. 12, 9, 7: 108/21 is 6, 42/13 is 4.
abbrev orders : Circuit
orders =
    cell 0
    (inner low 1000 ∷ inner low 1000 ∷ [])
    (p_type ground supply 2 7
    ∷ p_type ground supply 2 9
    ∷ p_type ground supply 2 12
    ∷ p_type ground supply 3 12
    ∷ p_type ground supply 3 9
    ∷ p_type ground supply 3 7
    ∷ [])
    []

pub order_of_joins : listing 0 0 orders ≡ line 0 (0 ∷ 0 ∷ []) (3 ∷ 4 ∷ []) ∷ []
unfolding listing
order_of_joins = refl

-- A pulse shorter than the delay: the fall at 10 + 50 is dropped at 30, when the new value is the present one again.
abbrev pulsed : Circuit
pulsed =
    cell 0 (input low ∷ inner high 50 ∷ []) (p_type 2 supply 3 2000 ∷ n_type 2 ground 3 1000 ∷ []) (at 10 2 high ∷ at 30 2 low ∷ [])

pub pulse_dropped :
    listing 2 0 pulsed
    ≡ line 0 (0 ∷ 1 ∷ []) (never ∷ never ∷ [])
    ∷ line 10 (1 ∷ 1 ∷ []) (never ∷ 60 ∷ [])
    ∷ line 30 (0 ∷ 1 ∷ []) (never ∷ never ∷ [])
    ∷ []
unfolding listing
pulse_dropped = refl
