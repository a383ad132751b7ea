-- Laws of start and step for one pattern: lengths, bits, and next changes after now and not past the horizon.
use mathlib.Core.Path.{◌≡◌, refl, ◌∙◌, ap}
use mathlib.Core.Logic.{◌⊎◌, inl, inr, ⊎_elim}
use mathlib.Core.Bool.{Bool, true, false, not, ◌&&◌, cond, and-true, and-false, or-true}
use mathlib.Core.List.{List, map}
use Prim.Native.Nat.{ℕ, ◌-◌, ◌≤◌, ◌<◌}
use native.Mathlib.Omega.{arith}
use lib.ListN.{length, get_or}
use lib.Dec.{leb, ltb, eqb}
use borrow.Author.Tests.{leb-true, eqb-false}
use Rattle.lists.proofs.Cases.{bool_cases}
use Rattle.refusal.specs.Answer.{answered}
use Rattle.units.proofs.Laws.{delay_positive}
use Rattle.format.specs.declared.Transistor.{Transistor}
use Rattle.format.specs.Circuit.{Circuit, node_record}
use Rattle.format.specs.Legal.{is_input, check_circuit}
use Rattle.format.proofs.Legal.{legal_limits}
use Rattle.diagram.specs.Table.{never}
use Rattle.rules.specs.State.{State, value_at, change_at, node_numbers, is_driven, is_inner}
use Rattle.rules.specs.Arrive.{source_at, flips, arrived_change, arrived}
use Rattle.rules.specs.Label.{Labels, joined, between_inner}
use Rattle.rules.specs.Reach.{reach, touched, reconsidered}
use Rattle.rules.specs.Kept.{Channel, conducts, keeps, kept}
use Rattle.rules.specs.Sum.{Sum, infinite, less, decided, new_value}
use Rattle.rules.specs.Step.{target, delay_by, delay_to, in_horizon, next_change, stepped, initial, started}
use Rattle.rules.proofs.State.{Numbered, Shaped, Bits, Pending, map_value, map_change, map_shaped, numbers_length}
use Rattle.rules.proofs.Arrive.{cond_bit, source_bit, arrived_shaped, arrived_change_lem, arrived_bits, stepped_values, stepped_changes, stepped_value, stepped_change_lem, stepped_change, untouched_keeps}

-- never, or a time after now and not past the horizon
abbrev pub Later : Circuit → ℕ → ℕ → Type 0
Later c now time = (time ≡ never) ⊎ ((now < time) × (time ≤ c.horizon.0))

-- the horizon of a legal cell is not never
pub legal_horizon : {c : Circuit} → check_circuit c ≡ answered c → c.horizon.0 < never
legal_horizon e = let l = legal_limits e in omega (arith, l.most_horizon_lem)

-- what rule 5 decides is a bit
decided_bit : (high low : Bool) (present : ℕ) → present ≤ 1 → decided high low present ≤ 1
decided_bit high low present h = cond_bit high _ _ (λ e. omega arith) (λ e. cond_bit low _ _ (λ z. omega arith) (λ z. h))

-- the new value of a bit is a bit
pub new_bit : (sum : Sum) (present : ℕ) → present ≤ 1 → new_value sum present ≤ 1
unfolding new_value
new_bit sum present h =
    cond_bit (infinite sum.high && infinite sum.low) _ _
    (λ e. decided_bit (ltb sum.low_charge.0 sum.high_charge.0) (ltb sum.high_charge.0 sum.low_charge.0) present h)
    (λ e. decided_bit (less sum.high sum.low) (less sum.low sum.high) present h)

-- the value that a node goes to is a bit
pub target_bit : (c : Circuit) (s : State) (ks : List Channel) (n : ℕ) → value_at s n ≤ 1 → target c s ks n ≤ 1
unfolding target
target_bit c s ks n h = new_bit _ (value_at s n) h

-- a delay is at least 1
pub delay_least : (c : Circuit) (s : State) (ks : List Channel) (new n : ℕ) → 1 ≤ delay_to c s ks new n
unfolding delay_to delay_by
delay_least c s ks new n = delay_positive _ _

-- with a driven end there are not two inner nodes
pub driven_between : (c : Circuit) (t : Transistor) → (is_driven c t.first ≡ true) ⊎ (is_driven c t.second ≡ true) → between_inner c t ≡ false
driven_between c t (inl e) = rw e
driven_between c t (inr e) = rw e (and-false (is_inner c t.first))

-- a transistor with a driven end is kept exactly if it conducts
pub driven_keeps : (c : Circuit) (s : State) (ls : Labels) (t : Transistor) → (is_driven c t.first ≡ true) ⊎ (is_driven c t.second ≡ true) → keeps c s ls t ≡ conducts s t
driven_keeps c s ls t d = from (between_inner c t) (driven_between c t d)
  where
    from : (b : Bool) → b ≡ false → conducts s t && not (b && joined ls t.first t.second) ≡ conducts s t
    from b e = rw e (and-true (conducts s t))

-- an input is no inner node
pub input_not_inner : (c : Circuit) (n : ℕ) → is_input c n ≡ true → is_inner c n ≡ false
input_not_inner c n e = rw e (ap not (or-true (ltb n 2)))

-- and is not reconsidered
pub input_not_reconsidered : (c : Circuit) (before after : State) (n : ℕ) → is_input c n ≡ true → reconsidered c before after n ≡ false
input_not_reconsidered c before after n e = ap (λ (b : Bool). b && touched c (reach c before after) before after n) (input_not_inner c n e)

-- a time after now, cut at the horizon
horizon_later : (c : Circuit) (now time : ℕ) → now < time → Later c now (in_horizon c time)
horizon_later c now time h =
    ⊎_elim
    (λ (e : leb time c.horizon.0 ≡ true). rw e (inr (h, leb-true time c.horizon.0 e)))
    (λ (e : leb time c.horizon.0 ≡ false). rw e (inl refl))
    (bool_cases (leb time c.horizon.0))

-- a choice between later times is one
cond_later : (c : Circuit) (now : ℕ) (x : Bool) (a b : ℕ) → (x ≡ true → Later c now a) → (x ≡ false → Later c now b) → Later c now (cond x a b)
cond_later c now true a b p q = p refl
cond_later c now false a b p q = q refl

-- the next change of a node that has none before or at T is after T and not past the horizon, or never
pub next_later : (c : Circuit) (time : ℕ) (s : State) (ks : List Channel) (n : ℕ) → time < change_at s n → Later c time (next_change c time s ks n)
unfolding next_change
next_later c time s ks n h =
    cond_later c time (eqb (target c s ks n) (value_at s n)) _ _
    (λ e. inl refl)
    (λ e. horizon_later c time _ (omega (arith, delay_least c s ks (target c s ks n) n)))

-- the next change that the start leaves with a node whose state is s
abbrev pub started_change : Circuit → State → ℕ → ℕ
started_change c s n = cond (is_inner c n) (next_change c 0 s (kept c s) n) never

-- the state that the start leaves
abbrev pub started_from : Circuit → State → State
started_from c s = record { values = s.values; changes = map (started_change c s) (node_numbers c) }

-- the start is the sources and then the next changes
pub started_from_lem : (c : Circuit) (p : ℕ) → started c p ≡ started_from c (initial c p)
unfolding started
started_from_lem c p = refl

module _ (c : Circuit) (p : ℕ) where
  -- a node starts at its source
  pub initial_value : (n : ℕ) → Numbered c n → value_at (initial c p) n ≡ source_at (node_record c n).start p
  unfolding initial
  initial_value n h = map_value c (initial c p) (λ (m : ℕ). source_at (node_record c m).start p) refl n h

  -- with no next change
  pub initial_change : (n : ℕ) → Numbered c n → change_at (initial c p) n ≡ never
  unfolding initial
  initial_change n h = map_change c (initial c p) (λ (m : ℕ). never) refl n h

  -- and has both
  pub initial_shaped : Shaped c (initial c p)
  unfolding initial
  initial_shaped = map_shaped c (initial c p) (λ (m : ℕ). source_at (node_record c m).start p) (λ (m : ℕ). never) refl refl

  -- values are bits at first
  pub initial_bits : Bits c (initial c p)
  initial_bits = record { bit = λ n h. rw (initial_value n h) (source_bit (node_record c n).start p) }

  -- the start leaves the values at the sources
  pub started_values : (started c p).values ≡ (initial c p).values
  started_values = ap (λ (t : State). t.values) (started_from_lem c p)

  -- and the next changes node by node
  pub started_changes : (started c p).changes ≡ map (started_change c (initial c p)) (node_numbers c)
  started_changes = ap (λ (t : State). t.changes) (started_from_lem c p)

  -- a node's value after the start
  pub started_value : (n : ℕ) → value_at (started c p) n ≡ value_at (initial c p) n
  started_value n = ap (λ (vs : List ℕ). cond (ltb n 2) n (get_or vs (n - 2) 0)) started_values

  -- a node's next change after the start
  pub started_change_lem : (n : ℕ) → Numbered c n → change_at (started c p) n ≡ started_change c (initial c p) n
  started_change_lem n h = map_change c (started c p) (started_change c (initial c p)) started_changes n h

  -- the start leaves a value and a next change for each node record
  pub started_shaped : Shaped c (started c p)
  started_shaped = record {
    values_long = ap length started_values ∙ initial_shaped.values_long;
    changes_long = ap length started_changes ∙ numbers_length c (started_change c (initial c p));
  }

  -- values are bits after the start
  pub started_bits : Bits c (started c p)
  started_bits = record { bit = λ n h. rw (started_value n) (initial_bits.bit n h) }

  -- next changes after the start are after 0 and not past the horizon, or never; inputs have never
  pub started_pending : Pending c 0 (started c p)
  started_pending = record {
    later = λ n h.
        rw (started_change_lem n h)
        (cond_later c 0 (is_inner c n) _ _ (λ e. next_later c 0 (initial c p) (kept c (initial c p)) n (rw (initial_change n h) (omega arith))) (λ e. inl refl));
    inputs_rest_lem = λ n h e. started_change_lem n h ∙ rest n (input_not_inner c n e);
  }
    where
      rest : (n : ℕ) → is_inner c n ≡ false → started_change c (initial c p) n ≡ never
      rest n e = rw e

module _ (c : Circuit) (time p : ℕ) (s : State) where
  -- a step leaves a value and a next change for each node record
  pub stepped_shaped : Shaped c (stepped c time p s)
  stepped_shaped = record {
    values_long = ap length (stepped_values c time p s) ∙ (arrived_shaped c time p s).values_long;
    changes_long = ap length (stepped_changes c time p s) ∙ numbers_length c (stepped_change c time s (arrived c time p s));
  }

  -- values stay bits
  pub stepped_bits : Bits c s → Bits c (stepped c time p s)
  stepped_bits b = record { bit = λ n h. rw (stepped_value c time p s n) ((arrived_bits c time p s b).bit n h) }

  module _ (now : ℕ) (bound : c.horizon.0 < never) (pending : Pending c now s) (reach : time ≤ c.horizon.0)
      (first : (n : ℕ) → Numbered c n → (change_at s n ≡ never) ⊎ (time ≤ change_at s n)) where
    arrived_later : (n : ℕ) → Numbered c n → Later c time (change_at (arrived c time p s) n)
    arrived_later n h =
        rw (arrived_change_lem c time p s n h)
        (cond_later c time (flips s time n) _ _
        (λ e. inl refl)
        (λ e.
        ⊎_elim
        (λ (z : change_at s n ≡ never). inl z)
        (λ (l : time ≤ change_at s n).
        ⊎_elim
        (λ (z : change_at s n ≡ never). inl z)
        (λ (k : (now < change_at s n) × (change_at s n ≤ c.horizon.0)). let d = eqb-false (change_at s n) time e in inr (omega arith, k.1))
        (pending.later n h))
        (first n h)))

    -- where T is not past any next change, all of T leaves next changes after T
    pub arrived_pending : Pending c time (arrived c time p s)
    arrived_pending = record {
      later = arrived_later;
      inputs_rest_lem = λ n h e. arrived_change_lem c time p s n h ∙ rest n (pending.inputs_rest_lem n h e);
    }
      where
        either : (x : Bool) (a : ℕ) → a ≡ never → cond x never a ≡ never
        either true a e = refl
        either false a e = e

        rest : (n : ℕ) → change_at s n ≡ never → arrived_change time s n ≡ never
        rest n e = either (flips s time n) (change_at s n) e

    after_time : (t : ℕ) → Later c time t → time < t
    after_time t (inl e) = omega arith
    after_time t (inr k) = k.0

    -- and so does the step
    pub stepped_pending : Pending c time (stepped c time p s)
    stepped_pending = record {
      later = λ n h.
          rw (stepped_change_lem c time p s n h)
          (cond_later c time (reconsidered c s (arrived c time p s) n) _ _
          (λ e. next_later c time (arrived c time p s) (kept c (arrived c time p s)) n (after_time _ (arrived_later n h)))
          (λ e. arrived_later n h));
      inputs_rest_lem = λ n h e. untouched_keeps c time p s n h (input_not_reconsidered c s (arrived c time p s) n e) ∙ arrived_pending.inputs_rest_lem n h e;
    }
