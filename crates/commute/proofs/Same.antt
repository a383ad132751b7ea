-- Two runs that stand at one picosecond hold the same. Only times and states count: the runs may be in different tables.
use mathlib.Core.Path.{◌≡◌, sym, ◌∙◌, ap}
use mathlib.Core.Logic.{⊎_elim}
use Prim.Native.Nat.{ℕ, zero, suc, ◌≤◌, ◌<◌}
use native.Mathlib.Omega.{arith}
use Rattle.lists.proofs.Cases.{lt_or_ge}
use Rattle.format.specs.Circuit.{Circuit}
use Rattle.diagram.specs.Pattern.{patterns}
use Rattle.diagram.specs.Table.{never}
use Rattle.rules.specs.Run.{Moment, time_after}
use Rattle.rules.proofs.Step.{legal_horizon}
use Rattle.rules.proofs.Time.{pattern_never, pattern_after, next_least}
use Rattle.commute.specs.Alone.{Alone, steps_alone}
use Rattle.commute.proofs.Trace.{StandsAt, trace_sound}
use Rattle.commute.proofs.Together.{state_at}
use Rattle.commute.proofs.Alone.{alone_at, reads_own, reads_alone}

module _ (c : Circuit) (p : ℕ) (a : Alone) (real : a.time ≤ never) where
  -- a time of a run alone is at most never
  alone_never : (n : ℕ) → (steps_alone c p a n).time ≤ never
  unfolding steps_alone
  alone_never zero = real
  alone_never (suc n) = pattern_never c (steps_alone c p a n).time (steps_alone c p a n).state

  -- it does not go back in time
  alone_later : (n k : ℕ) → n ≤ k → (steps_alone c p a n).time ≤ (steps_alone c p a k).time
  unfolding steps_alone
  alone_later zero zero h = omega arith
  alone_later (suc n) zero h = absurd (omega arith)
  alone_later n (suc k) h =
      ⊎_elim
      (λ (l : k < n). let same : n ≡ suc k = omega arith in omega (arith, ap (λ (j : ℕ). (steps_alone c p a j).time) same))
      (λ (l : n ≤ k). omega (arith, alone_later n k l, pattern_after c (steps_alone c p a k).time (steps_alone c p a k).state (alone_never k)))
      (lt_or_ge k n)

-- the time and the state that are held for a pattern tell of the last moment up to a picosecond of its run alone
record LastBy (c : Circuit) (p : ℕ) (a : Alone) (until : ℕ) (held : Alone) : Type 0 where
  pub steps : ℕ
  pub state : held.state ≡ (steps_alone c p a steps).state
  pub behind : (steps_alone c p a steps).time ≤ held.time
  pub some : held.time < never
  pub by : held.time ≤ until
  pub last : (n : ℕ) → (steps_alone c p a n).time < never → (steps_alone c p a n).time ≤ until → n ≤ steps

-- there is one such state
last_same : {c d : Circuit} {p q until : ℕ} {a b held held' : Alone} → ((n : ℕ) → steps_alone c p a n ≡ steps_alone d q b n)
    → LastBy c p a until held → LastBy d q b until held' → held.state ≡ held'.state
last_same {c} {p = p} {a = a} same x y =
    let tx = ap (λ (z : Alone). z.time) (same x.steps) in
    let ty = ap (λ (z : Alone). z.time) (same y.steps) in
    let no_more = x.last y.steps (omega (arith, y.behind, y.some)) (omega (arith, y.behind, y.by)) in
    let no_less = y.last x.steps (omega (arith, x.behind, x.some)) (omega (arith, x.behind, x.by)) in
    let one : x.steps ≡ y.steps = omega arith in
    x.state ∙ ap (λ (n : ℕ). (steps_alone c p a n).state) one ∙ ap (λ (z : Alone). z.state) (same y.steps) ∙ sym y.state

-- where a run stands it holds for each pattern the last moment of its run alone
stands_last : {c : Circuit} {size until : ℕ} {from m : Moment} → StandsAt c size from until m → (p : ℕ) → p < patterns c.letters
    → LastBy c p (alone_at c from p) until (alone_at c m p)
unfolding steps_alone time_after
stands_last {c} {until = until} {from} {m} s p h =
    let x = reads_alone s.ground s.trace p h in
    let own = reads_own x.1 in
    let least = next_least c m.run.time (state_at c m) p h in
    let horizon = legal_horizon s.ground.legal in
    record {
      steps = x.0;
      state = x.1.state;
      behind = x.1.behind;
      some = omega (arith, (trace_sound s.ground s.trace).run.time_most);
      by = s.time;
      last = λ n some by.
          ⊎_elim
          (λ (l : x.0 < n).
          let later = alone_later c p (alone_at c from p) (omega (arith, s.ground.sound.run.time_most)) (suc x.0) n (omega arith) in
          ⊎_elim (λ (e : time_after c m ≡ never). absurd (omega arith)) (λ (z : until < time_after c m). absurd (omega arith)) s.rests)
          (λ (l : n ≤ x.0). l)
          (lt_or_ge x.0 n);
    }

-- so two runs hold the same state for patterns whose runs alone are the same, the cells being one or two
pub same_states : {c d : Circuit} {size size' until : ℕ} {from from' m m' : Moment} → StandsAt c size from until m → StandsAt d size' from' until m'
    → (p q : ℕ) → p < patterns c.letters → q < patterns d.letters
    → ((n : ℕ) → steps_alone c p (alone_at c from p) n ≡ steps_alone d q (alone_at d from' q) n)
    → state_at c m p ≡ state_at d m' q
same_states s s' p q hp hq same = last_same same (stands_last s p hp) (stands_last s' q hq)
