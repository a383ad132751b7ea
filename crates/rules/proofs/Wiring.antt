-- Two cells with the same inputs and the same transistors, whatever their sources and capacitances: the same nodes are driven, reached and reconsidered,
-- and the same transistors are kept.
use mathlib.Core.Path.{◌≡◌, refl, ◌∙◌, ap, ap₂}
use mathlib.Core.Bool.{Bool, not, ◌&&◌, ◌||◌, cond}
use mathlib.Core.List.{List, [], ◌∷◌}
use Prim.Native.Nat.{ℕ, suc}
use lib.ListN.{length}
use lib.Dec.{ltb}
use Rattle.format.specs.declared.Transistor.{Transistor}
use Rattle.format.specs.Circuit.{Circuit}
use Rattle.format.specs.Legal.{is_input}
use Rattle.rules.specs.State.{State, up_from, node_numbers, is_driven, is_inner}
use Rattle.rules.specs.Arrive.{changed}
use Rattle.rules.specs.Label.{Labels, joined, join, between_inner, link_from, in_piece, of_piece, some as someOf, only}
use Rattle.rules.specs.Reach.{conducts_around, reach, disturbed, touched, reconsidered}
use Rattle.rules.specs.Kept.{Channel, conducts, keeps, after_kept, kept_from, kept}
use Rattle.rules.proofs.Arrive.{some_same}

-- as many node records, the same inputs, the same transistors
pub record Wired (c d : Circuit) : Type 0 where
  pub count_same : length c.nodes ≡ length d.nodes
  pub input_same : (n : ℕ) → is_input c n ≡ is_input d n
  pub transistors_same : c.transistors ≡ d.transistors

module _ {c d : Circuit} (w : Wired c d) where
  -- the same node numbers
  pub numbers_alike : node_numbers c ≡ node_numbers d
  numbers_alike = ap (λ (n : ℕ). up_from n 2) w.count_same

  -- the same driven ends
  pub driven_alike : (n : ℕ) → is_driven c n ≡ is_driven d n
  driven_alike n = ap (λ (b : Bool). ltb n 2 || b) (w.input_same n)

  -- the same inner nodes
  pub inner_alike : (n : ℕ) → is_inner c n ≡ is_inner d n
  inner_alike n = ap not (driven_alike n)

  -- the same channels between inner nodes
  pub between_alike : (t : Transistor) → between_inner c t ≡ between_inner d t
  between_alike t = ap₂ ◌&&◌ (inner_alike t.first) (inner_alike t.second)

  link_alike : (ls : Labels) (ts : List Transistor) → link_from c ls ts ≡ link_from d ls ts
  unfolding link_from
  link_alike ls [] = refl
  link_alike ls (t ∷ ts) =
      link_alike (cond (between_inner c t) (join ls t.first t.second) ls) ts
      ∙ ap (λ (b : Bool). link_from d (cond b (join ls t.first t.second) ls) ts) (between_alike t)

  -- the same nodes are reached
  pub reach_alike : (before after : State) → reach c before after ≡ reach d before after
  unfolding reach
  reach_alike before after =
      link_alike (node_numbers c) (only (conducts_around before after) c.transistors)
      ∙ ap₂ (λ (ls : Labels) (ts : List Transistor). link_from d ls (only (conducts_around before after) ts)) numbers_alike w.transistors_same

  in_alike : (ls : Labels) (n m : ℕ) → in_piece c ls n m ≡ in_piece d ls n m
  in_alike ls n m = ap (λ (b : Bool). b && joined ls n m) (inner_alike m)

  -- the same transistors of a piece
  of_alike : (ls : Labels) (n : ℕ) (t : Transistor) → of_piece c ls n t ≡ of_piece d ls n t
  of_alike ls n t = ap₂ ◌||◌ (in_alike ls n t.first) (in_alike ls n t.second)

  -- the same transistors are disturbed
  pub disturbed_alike : (before after : State) (t : Transistor) → disturbed c before after t ≡ disturbed d before after t
  disturbed_alike before after t =
      ap₂ (λ (a b : Bool). changed before after t.gate || (a && changed before after t.first) || (b && changed before after t.second))
      (w.input_same t.first) (w.input_same t.second)

  -- the same pieces are touched
  touched_alike : (ls : Labels) (before after : State) (n : ℕ) → touched c ls before after n ≡ touched d ls before after n
  unfolding touched
  touched_alike ls before after n =
      some_same _ (λ (t : Transistor). of_piece d ls n t && disturbed d before after t) c.transistors
      (λ t m. ap₂ ◌&&◌ (of_alike ls n t) (disturbed_alike before after t))
      ∙ ap (someOf (λ (t : Transistor). of_piece d ls n t && disturbed d before after t)) w.transistors_same

  -- the same nodes are reconsidered
  pub reconsidered_alike : (before after : State) (n : ℕ) → reconsidered c before after n ≡ reconsidered d before after n
  reconsidered_alike before after n =
      ap₂ ◌&&◌ (inner_alike n)
      (touched_alike (reach c before after) before after n ∙ ap (λ (ls : Labels). touched d ls before after n) (reach_alike before after))

  keeps_alike : (s : State) (ls : Labels) (t : Transistor) → keeps c s ls t ≡ keeps d s ls t
  keeps_alike s ls t = ap (λ (b : Bool). conducts s t && not (b && joined ls t.first t.second)) (between_alike t)

  after_alike : (s : State) (ls : Labels) (t : Transistor) → after_kept c s ls t ≡ after_kept d s ls t
  after_alike s ls t =
      ap₂ (λ (a b : Bool). cond (a && b) (join ls t.first t.second) ls) (keeps_alike s ls t) (between_alike t)

  kept_from_alike : (s : State) (ls : Labels) (i : ℕ) (ts : List Transistor) → kept_from c s ls i ts ≡ kept_from d s ls i ts
  unfolding kept_from
  kept_from_alike s ls i [] = refl
  kept_from_alike s ls i (t ∷ ts) =
      ap₂ (λ (b : Bool) (ks : List Channel). cond b (record { number = i; transistor = t } ∷ ks) ks) (keeps_alike s ls t)
      (kept_from_alike s (after_kept c s ls t) (suc i) ts ∙ ap (λ (l : Labels). kept_from d s l (suc i) ts) (after_alike s ls t))

  -- the same transistors are kept
  pub kept_alike : (s : State) → kept c s ≡ kept d s
  unfolding kept
  kept_alike s =
      kept_from_alike s (node_numbers c) 0 c.transistors
      ∙ ap₂ (λ (ls : Labels) (ts : List Transistor). kept_from d s ls 0 ts) numbers_alike w.transistors_same
