-- The numbers of one pattern: what their columns of values show, and the next change by them.
use mathlib.Core.Path.{◌≡◌, refl, sym, ◌∙◌, ap}
use mathlib.Core.List.{List}
use mathlib.Core.Bool.{Bool, true, false, not, ◌||◌, cond}
use Prim.Native.Nat.{ℕ, ◌+◌, ◌<◌, ◌≤◌}
use native.Mathlib.Omega.{arith}
use lib.ListN.{length, get_or, take, drop, length-take, length-drop}
use lib.Seq.{get_or-take, get_or-drop, ext_get_or}
use Rattle.format.specs.Circuit.{Circuit}
use Rattle.rules.specs.State.{State, change_at, is_inner}
use Rattle.rules.specs.Reach.{reconsidered}
use Rattle.rules.specs.Kept.{kept}
use Rattle.net.specs.Net.{net_circuit}
use Rattle.net.specs.Roots.{change_place}
use Rattle.net.proofs.Laying.{nodes_length}
use Rattle.plain.specs.Exceeded.{change_or_exceeded}
use Rattle.plain.specs.Ready.{Net}
use Rattle.plain.specs.Shown.{Shows}
use Rattle.plain.specs.Settle.{pending_after, considers, change_between, Between}
use Rattle.plain.proofs.Cell.{leaf_change_lem}
use Rattle.descent.specs.Descend.{Inner}
use Rattle.attempt.specs.Change.{pending_in, before_state, after_state, change_from}
use Rattle.evaluate.specs.Numbers.{Numbers}

-- the first 26 numbers of a list have the values of a cell's nodes
values_first : (net xs : List ℕ) → Net net → 26 ≤ length xs → take (length (net_circuit net).nodes) (drop 2 xs) ≡ take (length (net_circuit net).nodes) (drop 2 (take 26 xs))
values_first net xs cell long =
    let count : ℕ = length (net_circuit net).nodes in
    let few : count ≤ 24 = omega (arith, nodes_length net, cell.within.nodes) in
    ext_get_or 0 (take count (drop 2 xs)) (take count (drop 2 (take 26 xs))) (simp (length-take, length-drop) (omega arith))
    (λ i h.
    let small : i < count = omega (arith, length-take count (drop 2 xs)) in
    get_or-take count (drop 2 xs) i 0 small
    ∙ get_or-drop 2 xs i 0
    ∙ sym (get_or-take count (drop 2 (take 26 xs)) i 0 small ∙ get_or-drop 2 (take 26 xs) i 0 ∙ get_or-take 26 xs (2 + i) 0 (omega arith)))

-- every node that is considered is an inner one
all_inner : (all inner touched : Bool) → inner ≡ true → cond all inner touched ≡ (all || touched)
all_inner true inner touched e = e
all_inner false inner touched e = refl

module _ {net numbers : List ℕ} {n : ℕ} (node : Inner net n) (w : Numbers numbers) where
  abbrev c : Circuit
  c = net_circuit net

  after_at : (j : ℕ) → j < 26 → get_or (take 26 (drop 26 numbers)) j 0 ≡ get_or numbers (26 + j) 0
  after_at j h = get_or-take 26 (drop 26 numbers) j 0 h ∙ get_or-drop 26 numbers j 0

  -- the values before T and after it
  pub numbers_between : Between net (take 26 numbers) (take 26 (drop 26 numbers))
  numbers_between = record {
    cell = node.cell;
    before = record {
      long = simp length-take (omega (arith, w.long));
      ground = get_or-take 26 numbers 0 0 (omega arith) ∙ w.ground_before;
      supply = get_or-take 26 numbers 1 0 (omega arith) ∙ w.supply_before;
    };
    after = record {
      long = simp (length-take, length-drop) (omega (arith, w.long));
      ground = after_at 0 (omega arith) ∙ w.ground_after;
      supply = after_at 1 (omega arith) ∙ w.supply_after;
    };
    bits = λ j h. let small : j < 26 = omega (arith, node.cell.within.nodes) in rw (after_at j small) (w.bits (26 + j) (omega arith));
  }

  -- by them the node has its next change
  pub numbers_change : (time : ℕ) (all : Bool) (v : ℕ)
      → ((s t : State) → Shows (net_circuit net) (take 26 numbers) s → Shows (net_circuit net) (take 26 (drop 26 numbers)) t → change_at t n ≡ pending_after time (get_or numbers change_place 0)
      → v ≡ change_between (net_circuit net) time all s t n)
      → v ≡ change_from (net_circuit net) time all n numbers
  unfolding change_from
  numbers_change time all v is =
      let s : State = before_state c numbers in
      let t : State = after_state c time numbers in
      let inner : is_inner c n ≡ true = ap not node.inner in
      let waits : change_at t n ≡ pending_in time numbers = leaf_change_lem c (drop 26 numbers) (pending_in time numbers) n node.node.least (omega (arith, nodes_length net, node.node.most)) in
      let moves : considers c all s t n ≡ (all || reconsidered c s t n) = all_inner all (is_inner c n) (reconsidered c s t n) inner in
      is s t (values_first net numbers node.cell (omega (arith, w.long))) (values_first net (drop 26 numbers) node.cell (omega (arith, w.long, length-drop 26 numbers))) waits
      ∙ (λ i. cond (moves i) (change_or_exceeded c time t (kept c t) n) (waits i))
