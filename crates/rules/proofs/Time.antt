-- Laws of the time of a step: a pattern's own next time, and the earliest over all patterns.
use mathlib.Core.Path.{◌≡◌, refl, sym, ◌∙◌, ap, subst}
use mathlib.Core.Logic.{◌⊎◌, inl, inr, ⊎_elim}
use mathlib.Core.Bool.{Bool, cond}
use mathlib.Core.List.{List, [], ◌∷◌, map}
use Prim.Native.Nat.{ℕ, zero, suc, ◌+◌, ◌-◌, ◌≤◌, ◌<◌, min}
use native.Mathlib.Omega.{arith}
use lib.ListN.{length, get_or, length-map}
use lib.Dec.{ltb}
use lib.Pow.{pow_pos}
use borrow.Author.Tests.{lt-ltb, le-ltb}
use Rattle.lists.proofs.Cases.{lt_or_ge}
use Rattle.lists.proofs.Map.{map_at}
use Rattle.refusal.specs.Answer.{answered}
use Rattle.format.specs.declared.Entry.{Entry}
use Rattle.format.specs.Circuit.{Circuit, no_entry}
use Rattle.format.specs.Legal.{check_circuit}
use Rattle.format.proofs.Legal.{legal_entry}
use Rattle.diagram.specs.Pattern.{patterns}
use Rattle.diagram.specs.Table.{never}
use Rattle.rules.specs.State.{State, change_at}
use Rattle.rules.specs.Step.{stepped}
use Rattle.rules.specs.Run.{soonest, pattern_time, least_below, next_time}
use Rattle.rules.proofs.State.{Numbered, Shaped, Pending, at_place, change_place_lem}
use Rattle.rules.proofs.Arrive.{Quiet, quiet}
use Rattle.rules.proofs.Step.{Later, stepped_pending}

-- the smaller of two numbers is one of them
min_is : (a b : ℕ) → (min a b ≡ a) ⊎ (min a b ≡ b)
min_is a b = ⊎_elim (λ (h : a < b). inl (omega arith)) (λ (h : b ≤ a). inr (omega arith)) (lt_or_ge a b)

-- one of some times, after now, is T
abbrev pub Among : ℕ → List ℕ → ℕ → Type 0
Among now times time = (i : ℕ) × (i < length times) × (now < time) × (time ≡ get_or times i never)

-- the soonest time is at most never
pub soonest_never : (now : ℕ) (times : List ℕ) → soonest now times ≤ never
unfolding soonest
soonest_never now [] = omega arith
soonest_never now (t ∷ ts) = omega (arith, soonest_never now ts)

-- the soonest time is at most each time after now
pub soonest_least : (now : ℕ) (times : List ℕ) (i d : ℕ) → i < length times → now < get_or times i d → soonest now times ≤ get_or times i d
unfolding soonest
soonest_least now [] i d l h = absurd (omega arith)
soonest_least now (t ∷ ts) zero d l h = rw (lt-ltb now t h) (omega arith)
soonest_least now (t ∷ ts) (suc i) d l h = omega (arith, soonest_least now ts i d (omega arith) h)

-- the soonest time is never, or one of the times and after now
pub soonest_is : (now : ℕ) (times : List ℕ) → (soonest now times ≡ never) ⊎ Among now times (soonest now times)
unfolding soonest
soonest_is now [] = inl refl
soonest_is now (t ∷ ts) =
    ⊎_elim
    (λ (e : min own rest ≡ own).
    ⊎_elim
    (λ (h : now < t). let own_is : own ≡ t = ap (λ (b : Bool). cond b t never) (lt-ltb now t h) in inr (zero, omega arith, omega arith, omega arith))
    (λ (h : t ≤ now). let own_is : own ≡ never = ap (λ (b : Bool). cond b t never) (le-ltb now t h) in inl (omega arith))
    (lt_or_ge now t))
    (λ (e : min own rest ≡ rest). subst (λ (x : ℕ). (x ≡ never) ⊎ Among now (t ∷ ts) x) (sym e) (later (soonest_is now ts)))
    (min_is own rest)
  where
    own : ℕ
    own = cond (ltb now t) t never

    rest : ℕ
    rest = soonest now ts

    later : (rest ≡ never) ⊎ Among now ts rest → (rest ≡ never) ⊎ Among now (t ∷ ts) rest
    later (inl e) = inl e
    later (inr a) = inr (suc a.0, omega (arith, a.1), a.2, a.3)

-- it is not before now
soonest_after : (now : ℕ) (times : List ℕ) → now ≤ never → now ≤ soonest now times
soonest_after now times h =
    ⊎_elim
    (λ (e : soonest now times ≡ never). omega arith)
    (λ (a : Among now times (soonest now times)). omega (arith, a.2))
    (soonest_is now times)

-- a next change of the pattern, or an entry's time, is T, after now
abbrev pub Due : Circuit → ℕ → State → ℕ → Type 0
Due c now s time =
    ((n : ℕ) × Numbered c n × (now < time) × (time ≡ change_at s n))
    ⊎ ((i : ℕ) × (i < length c.schedule) × (now < time) × (time ≡ (get_or c.schedule i no_entry).time.0))

-- the times of a schedule
abbrev times : Circuit → List ℕ
times c = map (λ (e : Entry). e.time.0) c.schedule

times_length : (c : Circuit) → length (times c) ≡ length c.schedule
times_length c = length-map c.schedule (λ (e : Entry). e.time.0)

times_at : (c : Circuit) (i : ℕ) → i < length c.schedule → get_or (times c) i never ≡ (get_or c.schedule i no_entry).time.0
times_at c i h = map_at (λ (e : Entry). e.time.0) c.schedule no_entry never i h

-- no entry of a legal cell is past the horizon
pub legal_times : {c : Circuit} → check_circuit c ≡ answered c → (i : ℕ) → i < length c.schedule → (get_or c.schedule i no_entry).time.0 ≤ c.horizon.0
legal_times e i h = (legal_entry e i h).most

module _ (c : Circuit) (now : ℕ) (s : State) where
  -- a pattern's own time is at most never
  pub pattern_never : pattern_time c now s ≤ never
  unfolding pattern_time
  pattern_never = omega (arith, soonest_never now s.changes)

  -- and not before now
  pub pattern_after : now ≤ never → now ≤ pattern_time c now s
  unfolding pattern_time
  pattern_after h = omega (arith, soonest_after now s.changes h, soonest_after now (times c) h)

  -- it is at most each entry's time after now
  pub pattern_entry : (i : ℕ) → i < length c.schedule → now < (get_or c.schedule i no_entry).time.0 → pattern_time c now s ≤ (get_or c.schedule i no_entry).time.0
  unfolding pattern_time
  pattern_entry i l h =
      let e = times_at c i l in
      omega (arith, soonest_least now (times c) i never (omega (arith, times_length c)) (omega arith))

  module _ (sh : Shaped c s) where
    -- and at most each next change after now
    pub pattern_change : (n : ℕ) → Numbered c n → now < change_at s n → pattern_time c now s ≤ change_at s n
    unfolding pattern_time
    pattern_change n k h =
        let e = change_place_lem s n k.least in
        omega (arith, soonest_least now s.changes (n - 2) never (omega (arith, sh.changes_long)) (omega arith))

    -- it is never, or the time of something due
    pub pattern_is : (pattern_time c now s ≡ never) ⊎ Due c now s (pattern_time c now s)
    unfolding pattern_time
    pattern_is =
        ⊎_elim
        (λ (e : min own put ≡ own). subst (λ (x : ℕ). (x ≡ never) ⊎ Due c now s x) (sym e) (pending (soonest_is now s.changes)))
        (λ (e : min own put ≡ put). subst (λ (x : ℕ). (x ≡ never) ⊎ Due c now s x) (sym e) (entered (soonest_is now (times c))))
        (min_is own put)
      where
        own : ℕ
        own = soonest now s.changes

        put : ℕ
        put = soonest now (times c)

        pending : (own ≡ never) ⊎ Among now s.changes own → (own ≡ never) ⊎ Due c now s own
        pending (inl e) = inl e
        pending (inr a) =
            let k : Numbered c (2 + a.0) = at_place c a.0 (omega (arith, a.1, sh.changes_long)) in
            let p : a.0 ≡ 2 + a.0 - 2 = omega arith in
            inr (inl (2 + a.0, k, a.2, a.3 ∙ ap (λ (j : ℕ). get_or s.changes j never) p ∙ sym (change_place_lem s (2 + a.0) k.least)))

        entered : (put ≡ never) ⊎ Among now (times c) put → (put ≡ never) ⊎ Due c now s put
        entered (inl e) = inl e
        entered (inr a) =
            let l : a.0 < length c.schedule = omega (arith, a.1, times_length c) in
            inr (inr (a.0, l, a.2, a.3 ∙ times_at c a.0 l))

    -- where next changes are pending and no entry is past the horizon, it is after now and not past the horizon, or never
    pub pattern_later : Pending c now s → ((i : ℕ) → i < length c.schedule → (get_or c.schedule i no_entry).time.0 ≤ c.horizon.0) → Later c now (pattern_time c now s)
    pattern_later pending reach = from pattern_is
      where
        time : ℕ
        time = pattern_time c now s

        from : (time ≡ never) ⊎ Due c now s time → Later c now time
        from (inl e) = inl e
        from (inr (inl d)) =
            ⊎_elim
            (λ (z : change_at s d.0 ≡ never). inl (d.3 ∙ z))
            (λ (k : (now < change_at s d.0) × (change_at s d.0 ≤ c.horizon.0)). inr (d.2, omega (arith, d.3, k.1)))
            (pending.later d.0 d.1)
        from (inr (inr d)) = inr (d.2, omega (arith, d.3, reach d.0 d.1))

    -- a time between now and the pattern's own is quiet for it
    pub quiet_before : (time : ℕ) → now < time → time < pattern_time c now s → Quiet c time s
    quiet_before time l h = record {
      no_change = λ n k e. omega (arith, pattern_change n k (omega arith));
      no_entry_lem = λ i k e. omega (arith, pattern_entry i k (omega arith));
    }

    -- so the pattern keeps its state at such a time
    pub keeps_before : (time p : ℕ) → now < time → time < pattern_time c now s → stepped c time p s ≡ s
    keeps_before time p l h = quiet c time p s sh (quiet_before time l h)

    -- no next change is before a time that is at most the pattern's own
    pub none_before : (time : ℕ) → Pending c now s → time ≤ pattern_time c now s → (n : ℕ) → Numbered c n → (change_at s n ≡ never) ⊎ (time ≤ change_at s n)
    none_before time pending l n k =
        ⊎_elim
        (λ (z : change_at s n ≡ never). inl z)
        (λ (h : (now < change_at s n) × (change_at s n ≤ c.horizon.0)). inr (omega (arith, pattern_change n k h.0)))
        (pending.later n k)

-- the least number is at most each
pub least_below_lem : (n : ℕ) (f : ℕ → ℕ) (k : ℕ) → k < n → least_below n f ≤ f k
unfolding least_below
least_below_lem zero f k h = absurd (omega arith)
least_below_lem (suc n) f k h =
    ⊎_elim
    (λ (l : k < n). omega (arith, least_below_lem n f k l))
    (λ (l : n ≤ k). let e : f k ≡ f n = ap f (omega arith) in omega arith)
    (lt_or_ge k n)

-- it is never, or one of them
pub least_is : (n : ℕ) (f : ℕ → ℕ) → (least_below n f ≡ never) ⊎ ((k : ℕ) × (k < n) × (least_below n f ≡ f k))
unfolding least_below
least_is zero f = inl refl
least_is (suc n) f =
    ⊎_elim
    (λ (e : min (least_below n f) (f n) ≡ least_below n f).
    ⊎_elim
    (λ (z : least_below n f ≡ never). inl (e ∙ z))
    (λ (a : (k : ℕ) × (k < n) × (least_below n f ≡ f k)). inr (a.0, omega (arith, a.1), e ∙ a.2))
    (least_is n f))
    (λ (e : min (least_below n f) (f n) ≡ f n). inr (n, omega arith, e))
    (min_is (least_below n f) (f n))

-- where none is past never, the least of some is one of them
pub least_own : (n : ℕ) (f : ℕ → ℕ) → 0 < n → ((k : ℕ) → f k ≤ never) → (k : ℕ) × (k < n) × (least_below n f ≡ f k)
least_own n f some most =
    ⊎_elim
    (λ (z : least_below n f ≡ never). (zero, some, omega (arith, least_below_lem n f 0 some, most 0)))
    (λ (a : (k : ℕ) × (k < n) × (least_below n f ≡ f k)). a)
    (least_is n f)

-- functions that agree below n have the same least number
pub least_same : (n : ℕ) (f g : ℕ → ℕ) → ((k : ℕ) → k < n → f k ≡ g k) → least_below n f ≡ least_below n g
unfolding least_below
least_same zero f g h = refl
least_same (suc n) f g h = rw (least_same n f g (λ k l. h k (omega arith)), h n (omega arith))

module _ (c : Circuit) (now : ℕ) (states : ℕ → State) where
  -- T is at most every pattern's own time
  pub next_least : (p : ℕ) → p < patterns c.letters → next_time c now states ≤ pattern_time c now (states p)
  unfolding next_time
  next_least p h = least_below_lem (patterns c.letters) (λ q. pattern_time c now (states q)) p h

  -- and is some pattern's own
  pub next_own : (p : ℕ) × (p < patterns c.letters) × (next_time c now states ≡ pattern_time c now (states p))
  unfolding next_time
  next_own = least_own (patterns c.letters) (λ q. pattern_time c now (states q)) (pow_pos c.letters) (λ q. pattern_never c now (states q))

  -- T is at most never
  pub next_never : next_time c now states ≤ never
  next_never = omega (arith, next_own.2, pattern_never c now (states next_own.0))

  module _ (shaped : (p : ℕ) → p < patterns c.letters → Shaped c (states p)) where
    -- T is never, or due for some pattern, after now
    pub next_is : (next_time c now states ≡ never) ⊎ ((p : ℕ) × (p < patterns c.letters) × Due c now (states p) (next_time c now states))
    next_is =
        ⊎_elim
        (λ (z : pattern_time c now (states next_own.0) ≡ never). inl (next_own.2 ∙ z))
        (λ (d : Due c now (states next_own.0) (pattern_time c now (states next_own.0))).
        inr (next_own.0, next_own.1, subst (Due c now (states next_own.0)) (sym next_own.2) d))
        (pattern_is c now (states next_own.0) (shaped next_own.0 next_own.1))

    -- a pattern whose own time is later than T keeps its state at T
    pub next_keeps : (p : ℕ) → p < patterns c.letters → now < next_time c now states → next_time c now states < pattern_time c now (states p)
        → stepped c (next_time c now states) p (states p) ≡ states p
    next_keeps p h l k = keeps_before c now (states p) (shaped p h) (next_time c now states) p l k

    module _ (pending : (p : ℕ) → p < patterns c.letters → Pending c now (states p))
        (reach : (i : ℕ) → i < length c.schedule → (get_or c.schedule i no_entry).time.0 ≤ c.horizon.0) where
      -- T is never, or after now and not past the horizon
      pub next_later : Later c now (next_time c now states)
      next_later =
          subst (Later c now) (sym next_own.2)
          (pattern_later c now (states next_own.0) (shaped next_own.0 next_own.1) (pending next_own.0 next_own.1) reach)

      -- where T is not never it is after now and not past the horizon
      pub next_within : next_time c now states < never → (now < next_time c now states) × (next_time c now states ≤ c.horizon.0)
      next_within h = ⊎_elim (λ (e : next_time c now states ≡ never). absurd (omega arith)) (λ k. k) next_later

      -- the step to T leaves next changes after T
      pub next_pending : c.horizon.0 < never → next_time c now states < never → (p : ℕ) → p < patterns c.letters
          → Pending c (next_time c now states) (stepped c (next_time c now states) p (states p))
      next_pending bound h p l =
          stepped_pending c (next_time c now states) p (states p) now bound (pending p l) (next_within h).1
          (none_before c now (states p) (shaped p l) (next_time c now states) (pending p l) (next_least p l))
