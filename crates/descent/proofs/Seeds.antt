-- The search for a seed among the listed roots, and among the nodes of a piece.
use mathlib.Core.Path.{◌≡◌, sym, ◌∙◌, ap}
use mathlib.Core.Logic.{⊎_elim}
use mathlib.Core.List.{List}
use mathlib.Core.Bool.{true, false, not, ◌&&◌}
use Prim.Native.Nat.{ℕ, ◌+◌, ◌-◌, ◌<◌, ◌≤◌}
use native.Mathlib.Omega.{arith}
use lib.ListN.{get_or}
use lib.Dec.{eqb, ltb, leb}
use borrow.Author.Tests.{eq-eqb, not-true, leb-true, ltb-true}
use Rattle.lists.proofs.Cases.{bool_cases, and_left, and_right, and_both, true_false}
use Rattle.net.specs.Net.{net_circuit}
use Rattle.net.specs.Roots.{seeds_place, pending_place}
use Rattle.net.proofs.Laying.{nodes_length}
use Rattle.rules.proofs.Label.{joined_refl}
use Rattle.plain.proofs.Cell.{inner_least}
use Rattle.descent.specs.Settle.{is_seeded, parts, is_reached}
use Rattle.descent.specs.Piece.{is_in, Piece}
use Rattle.descent.specs.Descend.{Inner, NoSeed}
use Rattle.descent.proofs.Reaching.{reached_seed, seed_reached}
use Rattle.descent.proofs.Narrow.{piece_whole}

-- none of the listed places from i on has the root of a seed that is not entry 0
abbrev pub NoneFrom : List ℕ → List ℕ → ℕ → ℕ → Type 0
NoneFrom roots live count i = (j : ℕ) → i ≤ j → j < count → seeds_place ≤ get_or live j 0 → get_or live j 0 < pending_place → get_or roots (get_or live j 0) 0 ≡ 0

-- a place that passes is a seed's
pub seed_found : (roots : List ℕ) (a : ℕ) → (leb seeds_place a && ltb a pending_place) && not (eqb (get_or roots a 0) 0) ≡ true → NoSeed roots → ⊥
seed_found roots a e none =
    let both : leb seeds_place a && ltb a pending_place ≡ true = and_left (leb seeds_place a && ltb a pending_place) _ e in
    let least : seeds_place ≤ a = leb-true seeds_place a (and_left (leb seeds_place a) (ltb a pending_place) both) in
    let most : a < pending_place = ltb-true a pending_place (and_right (leb seeds_place a) (ltb a pending_place) both) in
    let place : seeds_place + (a - seeds_place) ≡ a = omega arith in
    let zero : get_or roots a 0 ≡ 0 = ap (λ (j : ℕ). get_or roots j 0) (sym place) ∙ none (a - seeds_place) (omega arith) in
    true_false (eqb (get_or roots a 0) 0) (eq-eqb (get_or roots a 0) 0 zero) (not-true (eqb (get_or roots a 0) 0) (and_right (leb seeds_place a && ltb a pending_place) _ e))

-- none of the nodes before m is a seed of the piece
abbrev pub NoneTo : List ℕ → List ℕ → ℕ → Type 0
NoneTo numbers marks m = (j : ℕ) → 2 ≤ j → j < m → is_in marks j && is_seeded numbers j ≡ false

module _ {net numbers marks : List ℕ} {n : ℕ} (inner : Inner net n) where
  module _ (piece : Piece net numbers n marks) where
    -- a seed of the piece is reached
    pub piece_reached : (m : ℕ) → is_in marks m && is_seeded numbers m ≡ true → true ≡ is_reached (net_circuit net) n numbers
    piece_reached m e =
        let in-m : is_in marks m ≡ true = and_left (is_in marks m) (is_seeded numbers m) e in
        let least : 2 ≤ m = inner_least net m (piece.inner m in-m) in
        sym (seed_reached (net_circuit net) n numbers m (record { least = least; most = omega (arith, piece.small m in-m, nodes_length net) }) (and_right (is_in marks m) (is_seeded numbers m) e) (piece.within m in-m))

    -- and there is no other
    pub piece_none : (m : ℕ) → 26 ≤ m → NoneTo numbers marks m → false ≡ is_reached (net_circuit net) n numbers
    piece_none m all none =
        ⊎_elim
        (λ (e : is_reached (net_circuit net) n numbers ≡ true).
        let s = reached_seed (net_circuit net) n numbers e in
        let here : is_in marks s.0 ≡ true = piece_whole inner piece s.0 s.1 s.3 in
        let few : s.0 < m = omega (arith, s.1.most, nodes_length net, inner.cell.within.nodes) in
        true_false (is_in marks s.0 && is_seeded numbers s.0) (and_both (is_in marks s.0) (is_seeded numbers s.0) here s.2) (none s.0 s.1.least few))
        (λ (e : is_reached (net_circuit net) n numbers ≡ false). sym e)
        (bool_cases (is_reached (net_circuit net) n numbers))

-- a node that is a seed itself
pub own_reached : {net : List ℕ} {n : ℕ} → Inner net n → (numbers : List ℕ) → is_seeded numbers n ≡ true → true ≡ is_reached (net_circuit net) n numbers
own_reached {net} {n} inner numbers e =
    sym (seed_reached (net_circuit net) n numbers n (record { least = inner.node.least; most = omega (arith, inner.node.most, nodes_length net) }) e (joined_refl (parts (net_circuit net) numbers) n))
