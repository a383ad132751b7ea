-- Entries with T taken out: the recursion step by step, and the loop over the nodes.
use mathlib.Core.Path.{◌≡◌, refl, sym, ◌∙◌, ap, subst₂}
use mathlib.Core.List.{List, [], ◌∷◌}
use mathlib.Core.Bool.{cond}
use Prim.Native.Nat.{ℕ, ◌+◌, ◌<◌}
use native.Mathlib.Omega.{arith}
use lib.ListN.{length, get_or}
use Rattle.format.specs.Circuit.{Circuit, first_node_number}
use Rattle.diagram.specs.Table.{Table, terminal_letter, terminal, entry_at, never}
use Rattle.diagram.specs.Store.{add, both, store}
use Rattle.diagram.specs.Held.{held}
use Rattle.diagram.proofs.Sound.{Branch, Sound}
use Rattle.diagram.proofs.Number.{part_low, part_high, number_terminal, number_at_extends}
use Rattle.diagram.proofs.Store.{store_number, store_ext}
use Rattle.diagram.proofs.Shannon.{none, root, store_roots}
use Rattle.rules.specs.State.{is_inner}
use Rattle.table.specs.declared.Put.{Put}
use Rattle.table.specs.Holds.{Outcome}
use Rattle.functions.specs.Open.{Open, Operand}
use Rattle.functions.proofs.Carry.{legible_sound, legible_long, letter_at_lem, low_at, high_at}
use Rattle.functions.proofs.Halving.{Halves}
use Rattle.functions.proofs.Known.{Stable}
use Rattle.working.proofs.Grow.{bring_high}
use Rattle.plain.specs.Settle.{pending_after}
use Rattle.values.proofs.Series.{Storing, storing_number}
use Rattle.stir.specs.Rest.{past_of, passes, rest_with, rest_of}

-- an entry with T taken out is the same in every extension
pub past_stable : {letters : ℕ} (time : ℕ) → Stable letters (passes time letters)
past_stable time = record { same = λ few s x e b c p he hb hc. ap (pending_after time) (number_at_extends e p few s x he) }

module _ {letters : ℕ} {l w h ix : List ℕ} {used : ℕ} (o : Open letters l w h ix used) (time : ℕ) {left e : ℕ} (x : Operand letters (held l w h used) used left e) where
  abbrev t : Table
  t = held l w h used

  sound : Sound letters t
  sound = legible_sound o.legible

  inside : e < length t
  inside = omega (arith, x.within, legible_long o.legible)

  -- a terminal
  past_terminal : get_or l e 0 ≡ terminal_letter → store letters 0 (past_of time letters (held l w h used) e) (held l w h used) ≡ add (terminal (pending_after time (get_or w e 0))) (held l w h used)
  past_terminal q =
      store_number letters 0 (pending_after time (get_or w e 0)) (past_of time letters t e) t
      (λ p _. ap (pending_after time) (number_terminal letters 0 t e p (omega (arith, o.legible.few)) (letter_at_lem o.legible e x.within ∙ q) ∙ low_at o.legible e x.within))

  pub past_leaf : {l1 w1 h1 ix1 : List ℕ} {r : Put} (v : ℕ) → v ≡ pending_after time (get_or w e 0) → get_or l e 0 ≡ terminal_letter
      → Outcome (held l w h used) (add (terminal v) (held l w h used)) l1 w1 h1 ix1 r
      → Outcome (held l w h used) (store letters 0 (past_of time letters (held l w h used) e) (held l w h used)) l1 w1 h1 ix1 r
  past_leaf v is q done = rw (past_terminal q, ← is) done

  module _ (node : get_or l e 0 ≡ terminal_letter → ⊥) where
    branch_e : Branch letters t e (entry_at t e)
    branch_e = (sound.legal e inside).node (λ q. node (sym (letter_at_lem o.legible e x.within) ∙ q))

    -- a branch: its two parts
    pub past_halves : Halves letters (held l w h used) (get_or l e 0) (past_of time letters (held l w h used) e) (past_of time letters (held l w h used) (get_or w e 0))
        (λ u. past_of time letters u (get_or h e 0))
    past_halves = record {
      halved =
          let m : ℕ = (entry_at t e).letter in
          rw (← letter_at_lem o.legible e x.within, ← low_at o.legible e x.within, ← high_at o.legible e x.within)
          (subst₂ (λ (a b : ℕ). store letters 0 (past_of time letters t e) t ≡ both m (store letters 0 (past_of time letters t a) t) (λ u. store letters 0 (past_of time letters t b) u)) (part_low t m e refl) (part_high t m e refl)
          (store_roots t o.legible.few sound m (λ (vs : List ℕ). pending_after time (get_or vs 0 0)) (e ∷ []) branch_e.letter_in (root inside (omega arith) none)));
      stable = λ u v g.
          store_ext letters 0 (past_of time letters u (get_or h e 0)) (past_of time letters t (get_or h e 0)) v
          (λ p _. ap (pending_after time) (number_at_extends (get_or h e 0) p o.legible.few sound g (omega (arith, (bring_high o.legible x node).within, legible_long o.legible))));
    }

-- node record i, in the table as it has grown by the nodes before
pub rest_same : {m k : ℕ} {g : ℕ → ℕ → ℕ} {l₀ w₀ h₀ ix₀ : List ℕ} {used₀ : ℕ} {l w h ix : List ℕ} {used : ℕ} {out : List ℕ} {i : ℕ} → Storing m k g l₀ w₀ h₀ ix₀ used₀ l w h ix used out i
    → (c : Circuit) (time : ℕ) (pending : List ℕ) → get_or pending (i + 2) 0 < used₀ → (p : ℕ)
    → rest_with c time k (held l w h used) (get_or pending (i + 2) 0) (i + 2) p ≡ rest_of c time k (held l₀ w₀ h₀ used₀) pending (first_node_number + i) p
rest_same {k = k} {l₀ = l₀} {w₀} {h₀} {used₀ = used₀} {i = i} s c time pending small p =
    let n : first_node_number + i ≡ i + 2 = omega arith in
    ap (λ (v : ℕ). cond (is_inner c (i + 2)) (pending_after time v) never) (storing_number s (get_or pending (i + 2) 0) p small)
    ∙ ap (λ (x : ℕ). rest_of c time k (held l₀ w₀ h₀ used₀) pending x p) (sym n)
