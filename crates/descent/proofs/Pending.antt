-- Where no node is a seed the pending change with T taken out is stored, by the recursion on its entry.
use mathlib.Core.Path.{◌≡◌, refl, sym, ◌∙◌, ap, subst₂}
use mathlib.Core.Logic.{⊎_elim}
use mathlib.Core.List.{List}
use mathlib.Core.Bool.{Bool, true, false, cond}
use Prim.Native.Nat.{ℕ, suc, ◌+◌, ◌<◌}
use native.Mathlib.Omega.{arith}
use lib.ListN.{length, get_or}
use lib.Dec.{eqb}
use borrow.Author.Tests.{eqb-true}
use Rattle.lists.proofs.Cases.{bool_cases}
use Rattle.diagram.specs.Pattern.{letter_at}
use Rattle.diagram.specs.Table.{Table, terminal_letter, terminal, entry_at, number_at}
use Rattle.diagram.specs.Store.{add, store}
use Rattle.diagram.specs.Held.{held}
use Rattle.diagram.proofs.Sound.{Branch, Sound}
use Rattle.diagram.proofs.Number.{part_low, part_high, number_terminal}
use Rattle.diagram.proofs.Store.{store_number, store_ext}
use Rattle.diagram.proofs.Shannon.{split, store_halves, number_past, number_split}
use Rattle.net.specs.Net.{net_circuit}
use Rattle.net.specs.Roots.{seeds_place, pending_place}
use Rattle.net.proofs.Laying.{nodes_length}
use Rattle.table.specs.declared.Put.{Put}
use Rattle.table.specs.Holds.{Outcome}
use Rattle.functions.specs.Open.{Legible, Operand}
use Rattle.functions.proofs.Carry.{legible_sound, legible_long, letter_at_lem, low_at, high_at}
use Rattle.functions.proofs.Halving.{Halves}
use Rattle.plain.specs.Settle.{pending_after}
use Rattle.descent.specs.Settle.{leaf_at, is_reached, pending_by, settled_by}
use Rattle.descent.specs.Descend.{Rooted, NoSeed}
use Rattle.descent.proofs.Narrow.{number_root, number_zero, unsettled}
use Rattle.descent.proofs.Reaching.{reached_seed}

-- a pending change of one of two numbers
pending_both : (time : ℕ) (b : Bool) (x y : ℕ) → pending_after time (cond b x y) ≡ cond b (pending_after time x) (pending_after time y)
pending_both time true x y = refl
pending_both time false x y = refl

module _ {letters : ℕ} {l w h : List ℕ} {used : ℕ} (o : Legible letters l w h used) {left e : ℕ} (x : Operand letters (held l w h used) used left e) (time : ℕ) where
  abbrev t : Table
  t = held l w h used

  sound : Sound letters t
  sound = legible_sound o

  inside : e < length t
  inside = omega (arith, x.within, legible_long o)

  -- a terminal
  quiet_terminal : (u : Table) → get_or l e 0 ≡ terminal_letter → store letters 0 (pending_by time letters (held l w h used) e) u ≡ add (terminal (pending_after time (get_or w e 0))) u
  quiet_terminal u q =
      store_number letters 0 (pending_after time (get_or w e 0)) (pending_by time letters t e) u
      (λ p _. ap (pending_after time) (number_terminal letters 0 t e p (omega (arith, o.few)) (letter_at_lem o e x.within ∙ q) ∙ low_at o e x.within))

  pub quiet_leaf : {u : Table} {l1 w1 h1 ix1 : List ℕ} {r : Put} (v : ℕ) → v ≡ pending_after time (get_or w e 0) → get_or l e 0 ≡ terminal_letter → Outcome u (add (terminal v) u) l1 w1 h1 ix1 r
      → Outcome u (store letters 0 (pending_by time letters (held l w h used) e) u) l1 w1 h1 ix1 r
  quiet_leaf {u} v is q done = rw (quiet_terminal u q, ← is) done

  module _ (node : get_or l e 0 ≡ terminal_letter → ⊥) where
    branch_e : Branch letters t e (entry_at t e)
    branch_e = (sound.legal e inside).node (λ q. node (sym (letter_at_lem o e x.within) ∙ q))

    -- a branch: its two parts
    pub quiet_halves : (u : Table) → Sound letters u
        → Halves letters u (get_or l e 0) (pending_by time letters (held l w h used) e) (pending_by time letters (held l w h used) (get_or w e 0)) (λ v. pending_by time letters (held l w h used) (get_or h e 0))
    quiet_halves u su = record {
      halved =
          let m : ℕ = (entry_at t e).letter in
          rw (← letter_at_lem o e x.within, ← low_at o e x.within, ← high_at o e x.within)
          (store_halves m (pending_by time letters t e) (pending_by time letters t (entry_at t e).low) (pending_by time letters t (entry_at t e).high) u o.few su branch_e.letter_in
          (λ p q g. ap (pending_after time) (number_past t o.few sound (suc m) (entry_at t e).low branch_e.letter_in branch_e.low_later p q g))
          (λ p q g. ap (pending_after time) (number_past t o.few sound (suc m) (entry_at t e).high branch_e.letter_in branch_e.high_later p q g))
          (λ p _.
          ap (pending_after time) (subst₂ (λ (a b : ℕ). number_at letters t e p ≡ split m (number_at letters t a) (number_at letters t b) p) (part_low t m e refl) (part_high t m e refl) (number_split t o.few sound m e p branch_e.letter_in inside (omega arith)))
          ∙ pending_both time (eqb (letter_at m p) 1) (number_at letters t (entry_at t e).high p) (number_at letters t (entry_at t e).low p)));
      stable = λ v z y. refl;
    }

-- roots without a seed
module _ {net : List ℕ} {n k : ℕ} {l w h : List ℕ} {used : ℕ} {roots : List ℕ} {left : ℕ} (r : Rooted net n k l w h used roots left) (still : NoSeed roots) where
  -- settle the pending change
  settled_pending : (time p : ℕ) → settled_by (net_circuit net) time n k (held l w h used) roots p ≡ pending_by time k (held l w h used) (get_or roots pending_place 0) p
  settled_pending time p =
      let t : Table = held l w h used in
      let none : is_reached (net_circuit net) n (leaf_at k t roots p) ≡ false =
      ⊎_elim
      (λ (e : is_reached (net_circuit net) n (leaf_at k t roots p) ≡ true).
      let s = reached_seed (net_circuit net) n (leaf_at k t roots p) e in
      let few : s.0 < 26 = omega (arith, s.1.most, nodes_length net, r.node.cell.within.nodes) in
      let zero : get_or (leaf_at k t roots p) (seeds_place + s.0) 0 ≡ 0 =
      number_root k t p roots r.long (seeds_place + s.0) (omega arith) ∙ ap (λ (e : ℕ). number_at k t e p) (still s.0 few) ∙ number_zero k t p r.working.few (legible_sound r.working) in
      absurd (omega (arith, eqb-true (get_or (leaf_at k t roots p) (seeds_place + s.0) 0) 1 s.2)))
      (λ (e : is_reached (net_circuit net) n (leaf_at k t roots p) ≡ false). e)
      (bool_cases (is_reached (net_circuit net) n (leaf_at k t roots p))) in
      unsettled (net_circuit net) time n (leaf_at k t roots p) none ∙ ap (pending_after time) (number_root k t p roots r.long pending_place (omega arith))

  pub quiet_stored : (time : ℕ) {u : Table} {l1 w1 h1 ix1 : List ℕ} {p : Put}
      → Outcome u (store k 0 (pending_by time k (held l w h used) (get_or roots pending_place 0)) u) l1 w1 h1 ix1 p
      → Outcome u (store k 0 (settled_by (net_circuit net) time n k (held l w h used) roots) u) l1 w1 h1 ix1 p
  quiet_stored time {u} done =
      rw (store_ext k 0 (settled_by (net_circuit net) time n k (held l w h used) roots) (pending_by time k (held l w h used) (get_or roots pending_place 0)) u (λ p _. settled_pending time p)) done
