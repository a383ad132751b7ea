-- Laws of step rule 1: what arrives at T, node by node; and a pattern for which nothing happens at T keeps its state.
use mathlib.Core.Path.{◌≡◌, refl, sym, ◌∙◌, ap}
use mathlib.Core.Bool.{Bool, true, false, not, ◌&&◌, cond, and-false}
use mathlib.Core.List.{List, [], ◌∷◌, map, Memᴰ}
use Prim.Native.Nat.{ℕ, zero, suc, ◌-◌, ◌%◌, ◌≤◌, ◌<◌}
use native.Mathlib.Omega.{arith}
use lib.ListN.{length, get_or}
use lib.Dec.{ltb, eqb}
use borrow.Author.Tests.{lt-ltb, le-ltb, ltb-true, eq-eqb, ne_eqb}
use Rattle.format.specs.declared.Entry.{Entry}
use Rattle.format.specs.declared.Transistor.{Transistor}
use Rattle.format.specs.Circuit.{Circuit, no_entry}
use Rattle.format.specs.Source.{constant, letter_of}
use Rattle.format.specs.Legal.{is_input}
use Rattle.diagram.specs.Pattern.{letter_at}
use Rattle.rules.specs.State.{State, value_at, change_at, node_numbers, is_inner}
use Rattle.rules.specs.Arrive.{source_at, scheduled, flips, arrived_value, arrived_change, arrived, changed}
use Rattle.rules.specs.Label.{Labels, of_piece, some}
use Rattle.rules.specs.Reach.{reach, disturbed, touched, reconsidered}
use Rattle.rules.specs.Kept.{kept}
use Rattle.rules.specs.Step.{next_change, stepped}
use Rattle.rules.proofs.State.{Numbered, Shaped, Bits, map_value, map_change, map_shaped, numbers_same, changes_eta, state_ext}

-- nothing happens at T: no next change is T, and no entry's time is
pub record Quiet (c : Circuit) (time : ℕ) (s : State) : Type 0 where
  pub no_change : (n : ℕ) → Numbered c n → change_at s n ≡ time → ⊥
  pub no_entry_lem : (i : ℕ) → i < length c.schedule → (get_or c.schedule i no_entry).time.0 ≡ time → ⊥

-- a choice between bits is a bit
pub cond_bit : (x : Bool) (a b : ℕ) → (x ≡ true → a ≤ 1) → (x ≡ false → b ≤ 1) → cond x a b ≤ 1
cond_bit true a b p q = p refl
cond_bit false a b p q = q refl

-- a source is 0 or 1 at every pattern
pub source_bit : (source p : ℕ) → source_at source p ≤ 1
unfolding source_at
source_bit source p =
    cond_bit (constant source) _ _
    (λ e. omega (arith, ltb-true source 2 e))
    (λ e. cond_bit (eqb (source % 2) 0) _ _ (λ z. omega arith) (λ z. omega arith))

-- a constant source is itself at every pattern
pub source_constant : (source p : ℕ) → source < 2 → source_at source p ≡ source
unfolding source_at
source_constant source p h = rw (lt-ltb source 2 h)

-- a source that names a letter is that letter (even byte) or its complement (odd byte)
pub source_letter : (source p : ℕ) → 2 ≤ source → source_at source p ≡ cond (eqb (source % 2) 0) (letter_at (letter_of source) p) (1 - letter_at (letter_of source) p)
unfolding source_at
source_letter source p h = rw (le-ltb source 2 h)

-- the schedule puts bits
pub scheduled_bit : (es : List Entry) (time n p present : ℕ) → present ≤ 1 → scheduled es time n p present ≤ 1
unfolding scheduled
scheduled_bit [] time n p present h = h
scheduled_bit (e ∷ es) time n p present h =
    cond_bit (eqb e.time.0 time && eqb e.input n) _ _ (λ z. source_bit e.source p) (λ z. scheduled_bit es time n p present h)

-- a schedule with no entry at T puts nothing
pub scheduled_none : (es : List Entry) (time n p present : ℕ) → ((i : ℕ) → i < length es → (get_or es i no_entry).time.0 ≡ time → ⊥) → scheduled es time n p present ≡ present
unfolding scheduled
scheduled_none [] time n p present h = refl
scheduled_none (e ∷ es) time n p present h =
    let z : eqb e.time.0 time ≡ false = ne_eqb e.time.0 time (h zero (omega arith)) in
    rw z (scheduled_none es time n p present (λ i l. h (suc i) (omega arith)))

module _ (c : Circuit) (time p : ℕ) where
  -- all of T leaves a value and a next change for each node record
  pub arrived_shaped : (s : State) → Shaped c (arrived c time p s)
  unfolding arrived
  arrived_shaped s = map_shaped c (arrived c time p s) (arrived_value c time p s) (arrived_change time s) refl refl

  -- a node's value after all of T
  pub arrived_value_lem : (s : State) (n : ℕ) → Numbered c n → value_at (arrived c time p s) n ≡ arrived_value c time p s n
  unfolding arrived
  arrived_value_lem s n h = map_value c (arrived c time p s) (arrived_value c time p s) refl n h

  -- a node's next change after all of T
  pub arrived_change_lem : (s : State) (n : ℕ) → Numbered c n → change_at (arrived c time p s) n ≡ arrived_change time s n
  unfolding arrived
  arrived_change_lem s n h = map_change c (arrived c time p s) (arrived_change time s) refl n h

  -- values stay bits
  pub arrived_bits : (s : State) → Bits c s → Bits c (arrived c time p s)
  arrived_bits s b = record { bit = λ n h. rw (arrived_value_lem s n h) (one n (b.bit n h)) }
    where
      one : (n : ℕ) → value_at s n ≤ 1 → arrived_value c time p s n ≤ 1
      one n k =
          cond_bit (is_input c n) _ _
          (λ e. scheduled_bit c.schedule time n p (value_at s n) k)
          (λ e. cond_bit (flips s time n) _ _ (λ z. omega arith) (λ z. k))

  -- what arrives at a node depends on its own value and next change only, not on other nodes nor on an order
  pub arrived_own : (s t : State) (n : ℕ) → Numbered c n → value_at s n ≡ value_at t n → change_at s n ≡ change_at t n
      → (value_at (arrived c time p s) n ≡ value_at (arrived c time p t) n) × (change_at (arrived c time p s) n ≡ change_at (arrived c time p t) n)
  arrived_own s t n h v k =
      (arrived_value_lem s n h ∙ value v k ∙ sym (arrived_value_lem t n h), arrived_change_lem s n h ∙ change k ∙ sym (arrived_change_lem t n h))
    where
      value : value_at s n ≡ value_at t n → change_at s n ≡ change_at t n → arrived_value c time p s n ≡ arrived_value c time p t n
      value v k = rw (v, k)

      change : change_at s n ≡ change_at t n → arrived_change time s n ≡ arrived_change time t n
      change k = rw k

  -- where nothing happens at T, all of T leaves the state as it is
  pub quiet_arrived : (s : State) → Shaped c s → Quiet c time s → arrived c time p s ≡ s
  quiet_arrived s sh q =
      state_ext c (arrived c time p s) s (arrived_shaped s) sh
      (λ n h. arrived_value_lem s n h ∙ value n (ne_eqb (change_at s n) time (q.no_change n h)))
      (λ n h. arrived_change_lem s n h ∙ change n (ne_eqb (change_at s n) time (q.no_change n h)))
    where
      same : (x : Bool) (a b : ℕ) → a ≡ b → cond x a b ≡ b
      same true a b e = e
      same false a b e = refl

      value : (n : ℕ) → flips s time n ≡ false → arrived_value c time p s n ≡ value_at s n
      value n e = rw e (same (is_input c n) _ _ (scheduled_none c.schedule time n p (value_at s n) q.no_entry_lem))

      change : (n : ℕ) → flips s time n ≡ false → arrived_change time s n ≡ change_at s n
      change n e = rw e

-- a node with the same value before and after did not change
pub unchanged : (before after : State) (n : ℕ) → value_at before n ≡ value_at after n → changed before after n ≡ false
unchanged before after n e = ap not (eq-eqb (value_at before n) (value_at after n) e)

-- where no element passes a test, none is found
pub some_none : {A : Type 0} (test : A → Bool) (xs : List A) → ((x : A) → test x ≡ false) → some test xs ≡ false
unfolding some
some_none test [] h = refl
some_none test (x ∷ xs) h = rw (h x) (some_none test xs h)

-- tests that agree on each element
pub some_same : {A : Type 0} (f g : A → Bool) (xs : List A) → ((x : A) → Memᴰ x xs → f x ≡ g x) → some f xs ≡ some g xs
unfolding some
some_same f g [] h = refl
some_same f g (x ∷ xs) h = rw (h x (Memᴰ.head refl), some_same f g xs (λ y m. h y (Memᴰ.tail m)))

module _ (c : Circuit) (s : State) where
  still : (n : ℕ) → changed s s n ≡ false
  still n = unchanged s s n refl

  -- no node of a state differs from itself, so no transistor is disturbed
  pub still_disturbed : (t : Transistor) → disturbed c s s t ≡ false
  still_disturbed t = rw (still t.gate, still t.first, still t.second, and-false (is_input c t.first), and-false (is_input c t.second))

  -- and no piece is touched
  pub still_touched : (ls : Labels) (n : ℕ) → touched c ls s s n ≡ false
  unfolding touched
  still_touched ls n = some_none _ c.transistors (λ t. rw (still_disturbed t) (and-false (of_piece c ls n t)))

  -- so no node is reconsidered
  pub still_reconsidered : (n : ℕ) → reconsidered c s s n ≡ false
  still_reconsidered n = rw (still_touched (reach c s s) n) (and-false (is_inner c n))

-- the next change that a step from s leaves with a node, once all of T has happened
abbrev pub stepped_change : Circuit → ℕ → State → State → ℕ → ℕ
stepped_change c time s after n = cond (reconsidered c s after n) (next_change c time after (kept c after) n) (change_at after n)

-- the state that a step from s leaves, once all of T has happened
abbrev pub stepped_from : Circuit → ℕ → State → State → State
stepped_from c time s after = record { values = after.values; changes = map (stepped_change c time s after) (node_numbers c) }

-- a step is all of T and then the next changes
pub stepped_from_lem : (c : Circuit) (time p : ℕ) (s : State) → stepped c time p s ≡ stepped_from c time s (arrived c time p s)
unfolding stepped
stepped_from_lem c time p s = refl

module _ (c : Circuit) (time p : ℕ) (s : State) where
  -- a step leaves the values that all of T left
  pub stepped_values : (stepped c time p s).values ≡ (arrived c time p s).values
  stepped_values = ap (λ (t : State). t.values) (stepped_from_lem c time p s)

  -- and the next changes node by node
  pub stepped_changes : (stepped c time p s).changes ≡ map (stepped_change c time s (arrived c time p s)) (node_numbers c)
  stepped_changes = ap (λ (t : State). t.changes) (stepped_from_lem c time p s)

  -- a node's value after a step is the one after all of T
  pub stepped_value : (n : ℕ) → value_at (stepped c time p s) n ≡ value_at (arrived c time p s) n
  stepped_value n = ap (λ (vs : List ℕ). cond (ltb n 2) n (get_or vs (n - 2) 0)) stepped_values

  -- a node's next change after a step
  pub stepped_change_lem : (n : ℕ) → Numbered c n → change_at (stepped c time p s) n ≡ stepped_change c time s (arrived c time p s) n
  stepped_change_lem n h = map_change c (stepped c time p s) (stepped_change c time s (arrived c time p s)) stepped_changes n h

  -- a node that is not reconsidered keeps its next change
  pub untouched_keeps : (n : ℕ) → Numbered c n → reconsidered c s (arrived c time p s) n ≡ false → change_at (stepped c time p s) n ≡ change_at (arrived c time p s) n
  untouched_keeps n h e = stepped_change_lem n h ∙ rw e

  -- a pattern for which nothing happens at T keeps its state
  pub quiet : Shaped c s → Quiet c time s → stepped c time p s ≡ s
  quiet sh q =
      stepped_from_lem c time p s
      ∙ ap (stepped_from c time s) (quiet_arrived c time p s sh q)
      ∙ (λ i. record { values = s.values; changes = same i })
    where
      same : map (stepped_change c time s s) (node_numbers c) ≡ s.changes
      same = numbers_same c (stepped_change c time s s) (change_at s) (λ n h. rw (still_reconsidered c s n)) ∙ sym (changes_eta c s sh)
