-- How long a dump is: of each time and of the whole, at most a number that follows from the node records and the horizon.
use mathlib.Core.Path.{◌≡◌}
use mathlib.Core.Logic.{⊎_elim}
use mathlib.Core.Bool.{Bool, true, false, cond}
use mathlib.Core.List.{List, [], ◌++◌}
use Prim.Native.Nat.{ℕ, zero, suc, ◌+◌, ◌*◌, ◌≤◌, ◌<◌}
use native.Mathlib.Omega.{arith}
use lib.ListN.{length, length-append}
use lib.Dec.{eqb}
use Rattle.lists.proofs.Cases.{lt_or_ge}
use Rattle.refusal.specs.Answer.{answered}
use Rattle.format.specs.Circuit.{Circuit}
use Rattle.format.specs.Legal.{most_nodes, most_horizon, check_circuit}
use Rattle.format.proofs.Legal.{legal_limits}
use Rattle.diagram.specs.Table.{never}
use Rattle.text.proofs.Decimal.{decimal_within}
use Rattle.text.proofs.Lines.{lines_short}
use Rattle.rules.specs.State.{value_at}
use Rattle.commute.specs.Alone.{Alone, own_time, start_alone}
use Rattle.vcd.specs.Lines.{var_line, declarations, time_line, value_line, value_lines, change_lines, unchanged, moment_lines}
use Rattle.vcd.specs.Dump.{step_lines, lines_after, start_lines, run_lines}
use Rattle.vcd.specs.Bound.{start_most, moment_most, dump_most}
use Rattle.vcd.proofs.Steps.{Going, own_within, start_going, step_going, lines_more, lines_none}

-- either of two short texts
either_short : (b : Bool) (x y : List ℕ) (most : ℕ) → length x ≤ most → length y ≤ most → length (cond b x y) ≤ most
either_short true x y most hx hy = hx
either_short false x y most hx hy = hy

-- a node's wire, for two digits
var_short : (n : ℕ) → n < 100 → length (var_line n) ≤ 23
unfolding var_line
var_short n h = simp length-append (omega (arith, decimal_within 1 n h))

-- the declarations, `#0` and all values
pub start_short : (nodes : ℕ) (value : ℕ → ℕ) → nodes ≤ most_nodes → length (declarations nodes ++ time_line 0 ++ value_lines nodes value) ≤ start_most nodes
unfolding declarations value_lines
start_short nodes value few =
    let vars = lines_short nodes 23 (λ i. var_line (2 + i)) (λ i l. var_short (2 + i) (omega arith)) in
    let values = lines_short nodes 3 (λ i. value_line (2 + i) (value (2 + i))) (λ i l. omega arith) in
    simp length-append (omega (arith, decimal_within 0 0 (omega arith)))

-- a time with its changes
pub moment_short : (nodes time : ℕ) (before after : ℕ → ℕ) → time ≤ most_horizon → length (moment_lines nodes time before after) ≤ moment_most nodes
unfolding moment_lines change_lines
moment_short nodes time before after h =
    let changes = lines_short nodes 3 (λ i. cond (eqb (before (2 + i)) (after (2 + i))) [] (value_line (2 + i) (after (2 + i))))
    (λ i l. either_short (eqb (before (2 + i)) (after (2 + i))) [] (value_line (2 + i) (after (2 + i))) 3 (omega arith) (omega arith)) in
    either_short (unchanged nodes before after) [] _ (moment_most nodes) (omega arith)
    (simp length-append (omega (arith, decimal_within 6 time (omega arith))))

module _ {c : Circuit} (legal : check_circuit c ≡ answered c) (p : ℕ) where
  horizon_short : c.horizon.0 ≤ most_horizon
  horizon_short = (legal_limits legal).most_horizon_lem

  -- the lines of a step
  pub step_short : {a : Alone} → Going c a → own_time c a < never → length (step_lines c p a) ≤ moment_most (length c.nodes)
  unfolding step_lines
  step_short g more = moment_short _ _ _ _ (omega (arith, own_within legal g more, horizon_short))

  -- and of all steps that may follow
  pub after_short : (k : ℕ) {a : Alone} → Going c a → c.horizon.0 ≤ a.time + k → length (lines_after c p a) ≤ k * moment_most (length c.nodes)
  after_short zero {a} g h =
      ⊎_elim
      (λ (more : own_time c a < never). absurd (omega (arith, own_within legal g more)))
      (λ (end : never ≤ own_time c a). rw (lines_none legal p g end) (omega arith))
      (lt_or_ge (own_time c a) never)
  after_short (suc k) {a} g h =
      ⊎_elim
      (λ (more : own_time c a < never).
      let w = own_within legal g more in
      rw (lines_more legal p g more)
      (simp length-append (omega (arith, step_short g more, after_short k (step_going legal p g more) (omega arith)))))
      (λ (end : never ≤ own_time c a). rw (lines_none legal p g end) (omega arith))
      (lt_or_ge (own_time c a) never)

  -- the whole run
  pub run_short : length (run_lines c p) ≤ dump_most (length c.nodes) c.horizon.0
  unfolding run_lines start_lines
  run_short =
      let start = start_short (length c.nodes) (value_at (start_alone c p).state) (legal_limits legal).most_nodes_lem in
      let after = after_short c.horizon.0 (start_going legal p) (omega arith) in
      simp length-append (omega (arith, simp length-append at start))
