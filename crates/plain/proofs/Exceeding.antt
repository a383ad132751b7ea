-- A walk that exceeds the ceiling as a next change of 0: it stands exactly where one does, and elsewhere there is the next change of the rules.
use mathlib.Core.Path.{◌≡◌, refl, sym, ◌∙◌, ap, ap₂}
use mathlib.Core.Bool.{Bool, true, false, ◌&&◌, cond}
use mathlib.Core.List.{List}
use Prim.Native.Nat.{ℕ, ◌+◌, ◌<◌, min}
use native.Mathlib.Omega.{arith}
use lib.Dec.{leb, eqb}
use borrow.Author.Tests.{ne_eqb}
use Rattle.lists.proofs.Cases.{true_false}
use Rattle.format.specs.Circuit.{Circuit}
use Rattle.diagram.specs.Table.{never}
use Rattle.rules.specs.State.{State, value_at, change_at, is_inner}
use Rattle.rules.specs.Arrive.{arrived}
use Rattle.rules.specs.Kept.{Channel, kept}
use Rattle.rules.specs.Step.{target, exceeds, delay_to, in_horizon, next_change, stepped, step_exceeds, initial, started, start_exceeds}
use Rattle.rules.proofs.State.{Numbered, map_change, numbers_same}
use Rattle.rules.proofs.Arrive.{arrived_change_lem, stepped_change, stepped_from_lem}
use Rattle.rules.proofs.Step.{delay_least, started_change, started_from_lem, initial_change}
use Rattle.rules.proofs.Nodes.{some_nodes, each_fails}
use Rattle.rules.proofs.Local.{Local, exceeds_local, change_local}
use Rattle.net.specs.Net.{net_circuit}
use Rattle.std.specs.Prelude.{Ok, Err}
use Rattle.units.specs.Units.{above_ceiling}
use Rattle.plain.specs.Exceeded.{number_of, change_or_exceeded, any_exceeded}
use Rattle.plain.specs.Settle.{considers, change_between, started_or_exceeded, stepped_or_exceeded}
use Rattle.plain.specs.Leaf.{leaf_state, leaf_channels, leaf_exceeds, leaf_move, leaf_next, leaf_change}
use Rattle.plain.proofs.Same.{same_exceeds}

-- a leaf's answer as a number
pub number_change : (net leaf : List ℕ) (time pending n : ℕ) → number_of (leaf_next net leaf time pending n) ≡ leaf_change net leaf time pending n
unfolding change_or_exceeded
number_change net leaf time pending n =
    by (leaf_exceeds net leaf n)
    ∙ ap (λ (b : Bool). cond b 0 (leaf_move net leaf time pending n)) (same_exceeds (net_circuit net) (leaf_state (net_circuit net) 0 leaf) (leaf_state (net_circuit net) pending leaf) (leaf_channels (net_circuit net) leaf) refl n)
  where
    by : (b : Bool) → number_of (cond b (Err above_ceiling) (Ok (leaf_move net leaf time pending n))) ≡ cond b 0 (leaf_move net leaf time pending n)
    by true = refl
    by false = refl

-- no next change is 0, where the pending one is not
pub next_positive : (c : Circuit) (time : ℕ) (s : State) (ks : List Channel) (n : ℕ) → 0 < change_at s n → 0 < next_change c time s ks n
unfolding next_change
next_positive c time s ks n h =
    by (eqb (target c s ks n) (value_at s n)) (min (change_at s n) (time + delay_to c s ks (target c s ks n) n)) (omega (arith, delay_least c s ks (target c s ks n) n))
  where
    late : (b : Bool) (x : ℕ) → 0 < x → 0 < cond b x never
    late true x p = p
    late false x p = omega arith

    by : (b : Bool) (x : ℕ) → 0 < x → 0 < cond b never (in_horizon c x)
    by true x p = omega arith
    by false x p = late (leb x c.horizon.0) x p

module _ (c : Circuit) (time : ℕ) (all : Bool) (s after : State) (n : ℕ) where
  -- a reconsidered node that exceeds the ceiling
  abbrev pub over : Bool
  over = considers c all s after n && exceeds c after (kept c after) n

  -- what the rules leave with it
  abbrev pub ruled : ℕ
  ruled = cond (considers c all s after n) (next_change c time after (kept c after) n) (change_at after n)

  -- 0 stands exactly where a reconsidered node exceeds
  pub exceeded_tells : 0 < change_at after n → eqb (change_between c time all s after n) 0 ≡ over
  unfolding change_or_exceeded
  exceeded_tells h = by (considers c all s after n) (exceeds c after (kept c after) n)
    where
      by : (a b : Bool) → eqb (cond a (cond b 0 (next_change c time after (kept c after) n)) (change_at after n)) 0 ≡ a && b
      by true true = refl
      by true false = let p = next_positive c time after (kept c after) n h in ne_eqb (next_change c time after (kept c after) n) 0 (λ e. omega (arith, p, e))
      by false b = ne_eqb (change_at after n) 0 (λ e. omega (arith, h, e))

  -- and where none does it is what the rules leave
  pub not_exceeded : over ≡ false → change_between c time all s after n ≡ ruled
  unfolding change_or_exceeded
  not_exceeded = by (considers c all s after n) (exceeds c after (kept c after) n)
    where
      by : (a b : Bool) → a && b ≡ false → cond a (cond b 0 (next_change c time after (kept c after) n)) (change_at after n) ≡ cond a (next_change c time after (kept c after) n) (change_at after n)
      by true true e = true_false true refl e
      by true false e = refl
      by false b e = refl

module _ (c : Circuit) (p : ℕ) where
  pub started_exceeded_change : (n : ℕ) → Numbered c n → change_at (started_or_exceeded c p) n ≡ change_between c 0 true (initial c p) (initial c p) n
  unfolding started_or_exceeded
  started_exceeded_change n h = map_change c (started_or_exceeded c p) (change_between c 0 true (initial c p) (initial c p)) refl n h

  start_pending : (n : ℕ) → Numbered c n → 0 < change_at (initial c p) n
  start_pending n h = omega (arith, initial_change c p n h)

  -- of a start
  pub start_exceeded : any_exceeded c (started_or_exceeded c p) ≡ start_exceeds c p
  unfolding any_exceeded start_exceeds
  start_exceeded =
      some_nodes c (λ (n : ℕ). eqb (change_at (started_or_exceeded c p) n) 0) (over c 0 true (initial c p) (initial c p))
      (λ n h. ap (λ (x : ℕ). eqb x 0) (started_exceeded_change n h) ∙ exceeded_tells c 0 true (initial c p) (initial c p) n (start_pending n h))

  pub start_not_exceeded : start_exceeds c p ≡ false → started_or_exceeded c p ≡ started c p
  unfolding start_exceeds started_or_exceeded
  start_not_exceeded e =
      (λ i. record { values = (initial c p).values; changes = numbers_same c (change_between c 0 true (initial c p) (initial c p)) (started_change c (initial c p)) each i })
      ∙ sym (started_from_lem c p)
    where
      each : (n : ℕ) → Numbered c n → change_between c 0 true (initial c p) (initial c p) n ≡ started_change c (initial c p) n
      each n h =
          not_exceeded c 0 true (initial c p) (initial c p) n (each_fails c (over c 0 true (initial c p) (initial c p)) e n h)
          ∙ ap (cond (is_inner c n) (next_change c 0 (initial c p) (kept c (initial c p)) n)) (initial_change c p n h)

module _ (c : Circuit) (time p : ℕ) (s : State) where
  pub stepped_exceeded_change : (n : ℕ) → Numbered c n → change_at (stepped_or_exceeded c time p s) n ≡ change_between c time false s (arrived c time p s) n
  unfolding stepped_or_exceeded
  stepped_exceeded_change n h = map_change c (stepped_or_exceeded c time p s) (change_between c time false s (arrived c time p s)) refl n h

  -- of a step from a state without 0
  pub step_exceeded : ((n : ℕ) → Numbered c n → 0 < change_at s n) → any_exceeded c (stepped_or_exceeded c time p s) ≡ step_exceeds c time p s
  unfolding any_exceeded step_exceeds
  step_exceeded later =
      some_nodes c (λ (n : ℕ). eqb (change_at (stepped_or_exceeded c time p s) n) 0) (over c time false s (arrived c time p s))
      (λ n h. ap (λ (x : ℕ). eqb x 0) (stepped_exceeded_change n h) ∙ exceeded_tells c time false s (arrived c time p s) n (rw (arrived_change_lem c time p s n h) (still (eqb (change_at s n) time) (change_at s n) (later n h))))
    where
      still : (b : Bool) (x : ℕ) → 0 < x → 0 < cond b never x
      still true x p = omega arith
      still false x p = p

  pub step_not_exceeded : step_exceeds c time p s ≡ false → stepped_or_exceeded c time p s ≡ stepped c time p s
  unfolding step_exceeds stepped_or_exceeded
  step_not_exceeded e =
      (λ i. record {
        values = (arrived c time p s).values;
        changes = numbers_same c (change_between c time false s (arrived c time p s)) (stepped_change c time s (arrived c time p s)) (λ n h. not_exceeded c time false s (arrived c time p s) n (each_fails c (over c time false s (arrived c time p s)) e n h)) i;
      })
      ∙ sym (stepped_from_lem c time p s)

-- a node whose surroundings are alike in two states has the same next change in both, or exceeds in both
pub or_exceeded_local : {c : Circuit} {P : ℕ → Bool} {s z : State} {ks js : List Channel} (h : Local c P s ks z js) (n : ℕ) → P n ≡ true → (time : ℕ) → change_at s n ≡ change_at z n
    → change_or_exceeded c time s ks n ≡ change_or_exceeded c time z js n
unfolding change_or_exceeded
or_exceeded_local h n p time e = ap₂ (λ (b : Bool) (v : ℕ). cond b 0 v) (exceeds_local h n p) (change_local h n p time e)
