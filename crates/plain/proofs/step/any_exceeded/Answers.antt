use mathlib.Core.Path.{◌≡◌, refl, sym, ◌∙◌, ap}
use mathlib.Core.Bool.{Bool, ◌||◌}
use mathlib.Core.List.{List, [], ◌∷◌, map}
use Prim.Native.Nat.{ℕ, ◌+◌, ◌-◌, ◌≤◌}
use native.Mathlib.Omega.{arith}
use lib.ListN.{length, drop, take, length-take, length-drop}
use lib.Dec.{eqb}
use Rattle.std.specs.List.{list_any}
use Rattle.diagram.specs.Table.{never}
use Rattle.rules.specs.Label.{some}
use Rattle.rules.specs.State.{State, change_at, node_numbers}
use Rattle.rules.proofs.State.{numbers_eta, change_place_lem}
use Rattle.net.specs.Net.{at, net_circuit}
use Rattle.net.specs.Laid.{Laid}
use Rattle.net.proofs.Laying.{nodes_length}
use Rattle.plain.specs.Exceeded.{any_exceeded}
use Rattle.plain.specs.Pattern.{shown_by, of_nodes}
use Rattle.plain.proofs.step.any_exceeded.Goals as goal

some_map : (test : ℕ → Bool) (f : ℕ → ℕ) (xs : List ℕ) → list_any test (map f xs) ≡ some (λ (n : ℕ). test (f n)) xs
unfolding some
some_map test f [] = refl
some_map test f (x ∷ xs) = ap (λ (b : Bool). test (f x) || b) (some_map test f xs)

-- the next changes of the node records hold a 0 just where one of the state does
held : (net changes : List ℕ) → Laid (net_circuit net) net → length changes ≡ 26 → (values : List ℕ)
    → list_any (λ (y : ℕ). eqb y 0) (take (2 + at net 0 - 2) (drop 2 changes)) ≡ any_exceeded (net_circuit net) (shown_by (net_circuit net) values changes)
unfolding any_exceeded
held net changes laid long values =
    let c = net_circuit net in
    let s : State = shown_by (net_circuit net) values changes in
    let past : 2 + at net 0 - 2 ≡ length c.nodes = omega (arith, nodes_length net) in
    let few : length c.nodes ≤ 24 = omega (arith, nodes_length net, laid.within.nodes) in
    let whole : length (of_nodes (net_circuit net) changes) ≡ length c.nodes = simp (length-take, length-drop) (omega arith) in
    rw past
    (ap (list_any (λ (y : ℕ). eqb y 0))
    (numbers_eta (net_circuit net) (change_at s) never (of_nodes (net_circuit net) changes) whole (λ n h. sym (change_place_lem s n h.least)))
    ∙ some_map (λ (y : ℕ). eqb y 0) (change_at s) (node_numbers (net_circuit net)))

pub returns : goal.returns
returns c values = c.contains.ensures.value ∙ held c.args.net.now c.args.changes.now c.requires.0 c.requires.1 values
