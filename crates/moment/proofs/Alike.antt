-- The next change by the numbers of a pattern is that of the states which the numbers show.
use mathlib.Core.Path.{◌≡◌, refl, sym, ◌∙◌, ap, ap₂}
use mathlib.Core.Logic.{inl, inr, ⊎_elim}
use mathlib.Core.Bool.{Bool, true, false, not, ◌&&◌, ◌||◌, cond}
use mathlib.Core.List.{List, [], ◌∷◌}
use Prim.Native.Nat.{ℕ, suc, ◌+◌}
use lib.ListN.{get_or, drop}
use lib.Seq.{get_or-drop}
use Rattle.lists.proofs.Cases.{bool_cases}
use Rattle.format.specs.declared.Transistor.{Transistor}
use Rattle.format.specs.Circuit.{Circuit}
use Rattle.diagram.specs.Table.{never}
use Rattle.rules.specs.State.{State, value_at, change_at, is_driven, is_inner, node_numbers}
use Rattle.rules.specs.Arrive.{arrived}
use Rattle.rules.specs.Label.{Labels, pieces, of_piece, some, only}
use Rattle.rules.specs.Reach.{conducts_around, reach, disturbed, touched, reconsidered}
use Rattle.rules.specs.Kept.{after_kept, kept_from, kept}
use Rattle.rules.specs.Step.{initial}
use Rattle.rules.proofs.State.{Numbered, Shaped}
use Rattle.rules.proofs.Arrive.{arrived_shaped, arrived_change_lem}
use Rattle.rules.proofs.Step.{initial_shaped, initial_change}
use Rattle.rules.proofs.Local.{touches, Shared, Local}
use Rattle.net.specs.Roots.{after_place, change_place}
use Rattle.plain.specs.Exceeded.{change_or_exceeded}
use Rattle.plain.specs.Settle.{pending_after, started_or_exceeded, stepped_or_exceeded}
use Rattle.plain.proofs.Exceeding.{or_exceeded_local, started_exceeded_change, stepped_exceeded_change}
use Rattle.descent.proofs.Channels.{leaf_change_lem, leaf_values}
use Rattle.attempt.specs.Change.{pending_in, before_state, after_state, change_from}

-- states with the same values
abbrev pub Alike : State → State → Type 0
Alike s z = (m : ℕ) → value_at s m ≡ value_at z m

module _ (c : Circuit) where
  -- the same nodes are reconsidered
  pub reconsidered_alike : (b a y z : State) → Alike b y → Alike a z → (n : ℕ) → reconsidered c b a n ≡ reconsidered c y z n
  unfolding touched reach
  reconsidered_alike b a y z hb ha n =
      let on : (t : Transistor) → conducts_around b a t ≡ conducts_around y z t = λ t. rw (hb t.gate, ha t.gate) in
      let each : (t : Transistor) → disturbed c b a t ≡ disturbed c y z t =
      λ t. rw (hb t.gate, ha t.gate, hb t.first, ha t.first, hb t.second, ha t.second) in
      ap₂ (λ (f g : Transistor → Bool). is_inner c n && some (λ (t : Transistor). of_piece c (pieces c (only f c.transistors)) n t && g t) c.transistors)
      (λ i t. on t i) (λ i t. each t i)

  module _ (s z : State) (h : Alike s z) where
    kept_from_lem : (ls : Labels) (i : ℕ) (ts : List Transistor) → kept_from c s ls i ts ≡ kept_from c z ls i ts
    unfolding kept_from
    kept_from_lem ls i [] = refl
    kept_from_lem ls i (t ∷ ts) = rw (h t.gate, kept_from_lem (after_kept c z ls t) (suc i) ts)

    -- the same transistors are kept
    pub kept_alike : kept c s ≡ kept c z
    unfolding kept
    kept_alike = kept_from_lem (node_numbers c) 0 c.transistors

    -- and an inner node with the same pending change has the same next one
    pub next_alike : (time n : ℕ) → is_inner c n ≡ true → change_at s n ≡ change_at z n → change_or_exceeded c time s (kept c s) n ≡ change_or_exceeded c time z (kept c z) n
    next_alike time n inner e =
        let share : (m : ℕ) → Shared c (is_inner c) s z m =
        λ m. ⊎_elim (λ (d : is_driven c m ≡ true). inr (d, h m)) (λ (d : is_driven c m ≡ false). inl (ap not d)) (bool_cases (is_driven c m)) in
        let local : Local c (is_inner c) s (kept c s) z (kept c z) =
        record {
          same = ap (only (touches (is_inner c))) kept_alike;
          ends = λ k _ _. (share k.transistor.first, share k.transistor.second);
          values = λ m _. h m;
        } in
        or_exceeded_local local n inner time e

-- the numbers of a pattern show the values before T and after it, and node n's pending change
pub record Shown (c : Circuit) (before after : State) (n : ℕ) (numbers : List ℕ) : Type 0 where
  pub before_is : (m : ℕ) → Numbered c m → get_or numbers m 0 ≡ value_at before m
  pub after_is : (m : ℕ) → Numbered c m → get_or numbers (after_place + m) 0 ≡ value_at after m
  pub pending_is : get_or numbers change_place 0 ≡ change_at before n

module _ (c : Circuit) (n : ℕ) (inner : is_inner c n ≡ true) (own : Numbered c n) (numbers : List ℕ) where
  -- rules 2 to 7 by such numbers
  pub shown : (time : ℕ) (all : Bool) (before after : State) → Shaped c before → Shaped c after → change_at after n ≡ pending_after time (change_at before n) → Shown c before after n numbers
      → change_from c time all n numbers ≡ cond (all || reconsidered c before after n) (change_or_exceeded c time after (kept c after) n) (change_at after n)
  unfolding change_from
  shown time all before after sb sa e r =
      let q : pending_in time numbers ≡ change_at after n = ap (pending_after time) r.pending_is ∙ sym e in
      let hb : Alike before (before_state c numbers) = leaf_values c 0 numbers before sb r.before_is in
      let ha : Alike after (after_state c time numbers) =
      leaf_values c (pending_in time numbers) (drop 26 numbers) after sa (λ m k. get_or-drop 26 numbers m 0 ∙ r.after_is m k) in
      let p : change_at after n ≡ change_at (after_state c time numbers) n = sym (leaf_change_lem c (pending_in time numbers) (drop 26 numbers) n own ∙ q) in
      let w : reconsidered c before after n ≡ reconsidered c (before_state c numbers) (after_state c time numbers) n =
      reconsidered_alike c before after (before_state c numbers) (after_state c time numbers) hb ha n in
      let x : change_or_exceeded c time after (kept c after) n ≡ change_or_exceeded c time (after_state c time numbers) (kept c (after_state c time numbers)) n =
      next_alike c after (after_state c time numbers) ha time n inner p in
      sym (ap₂ (λ (b : Bool) (y : ℕ). cond (all || b) y (change_at after n)) w x
      ∙ ap (cond (all || reconsidered c (before_state c numbers) (after_state c time numbers) n) (change_or_exceeded c time (after_state c time numbers) (kept c (after_state c time numbers)) n)) (sym q))

  -- a step
  pub shown_step : (time p : ℕ) (s : State) → Shaped c s → Shown c s (arrived c time p s) n numbers → change_from c time false n numbers ≡ change_at (stepped_or_exceeded c time p s) n
  shown_step time p s sh r =
      shown time false s (arrived c time p s) sh (arrived_shaped c time p s) (arrived_change_lem c time p s n own) r
      ∙ sym (stepped_exceeded_change c time p s n own)

  -- the start
  pub shown_start : (p : ℕ) → Shown c (initial c p) (initial c p) n numbers → change_from c 0 true n numbers ≡ change_at (started_or_exceeded c p) n
  shown_start p r =
      let z : change_at (initial c p) n ≡ never = initial_change c p n own in
      shown 0 true (initial c p) (initial c p) (initial_shaped c p) (initial_shaped c p) (z ∙ sym (ap (pending_after 0) z)) r
      ∙ sym (started_exceeded_change c p n own ∙ rw inner)

-- the values are those of the rules
pub started_exceeded_value : (c : Circuit) (p n : ℕ) → value_at (started_or_exceeded c p) n ≡ value_at (initial c p) n
unfolding started_or_exceeded
started_exceeded_value c p n = refl

pub stepped_exceeded_value : (c : Circuit) (time p : ℕ) (s : State) (n : ℕ) → value_at (stepped_or_exceeded c time p s) n ≡ value_at (arrived c time p s) n
unfolding stepped_or_exceeded
stepped_exceeded_value c time p s n = refl
