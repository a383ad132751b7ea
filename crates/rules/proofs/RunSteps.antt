-- Laws of a run up to a picosecond: it takes its steps not later, one by one, and no other.
use mathlib.Core.Path.{◌≡◌, refl, sym, ◌∙◌, ap, subst}
use mathlib.Core.Logic.{◌⊎◌, inl, inr, ⊎_elim}
use mathlib.Core.Bool.{and-false}
use Prim.Native.Nat.{ℕ, zero, suc, ◌+◌, ◌-◌, ◌<◌, ◌≤◌}
use native.Mathlib.Omega.{arith}
use lib.ListN.{length}
use lib.Dec.{ltb}
use borrow.Author.Tests.{lt-ltb, le-ltb, le-leb, lt-leb}
use Rattle.refusal.specs.declared.Refusal.{Refusal}
use Rattle.refusal.specs.Answer.{Answer, refused, answered}
use Rattle.refusal.proofs.Answer.{refused_not_answered, same_answer}
use Rattle.lists.proofs.Cases.{lt_or_ge}
use Rattle.format.specs.Circuit.{Circuit}
use Rattle.format.specs.Legal.{check_circuit}
use Rattle.format.proofs.Legal.{legal_limits}
use Rattle.diagram.specs.Table.{never}
use Rattle.diagram.specs.Extends.{Extends}
use Rattle.diagram.proofs.Add.{extends_refl, extends_trans}
use Rattle.rules.specs.Run.{Moment, time_after, step_moment, continued, run_moment}
use Rattle.rules.proofs.Moment.{SoundMoment, time_never, time_within, step_time_lem, step_sound, step_extends}
use Rattle.rules.proofs.Admitted.{Admitted, Barred, admitting, admitted_or_barred, admitted_answer, barred_answer}

-- a moment has no next step up to a picosecond
abbrev pub Rests : Circuit → ℕ → Moment → Type 0
Rests c until m = (time_after c m ≡ never) ⊎ (until < time_after c m)

-- a moment has a next step up to a picosecond
pub record Takes (c : Circuit) (until : ℕ) (m : Moment) : Type 0 where
  pub more : time_after c m < never
  pub reach : time_after c m ≤ until

-- one or the other
pub takes_or_rests : (c : Circuit) (until : ℕ) (m : Moment) → Takes c until m ⊎ Rests c until m
takes_or_rests c until m =
    ⊎_elim
    (λ (l : time_after c m < never).
    ⊎_elim (λ (g : until < time_after c m). inr (inr g)) (λ (g : time_after c m ≤ until). inl (record { more = l; reach = g })) (lt_or_ge until (time_after c m)))
    (λ (g : never ≤ time_after c m). inr (inl (omega (arith, time_never c m))))
    (lt_or_ge (time_after c m) never)

-- steps up to a picosecond, each of which is admitted into a table
pub data Steps (c : Circuit) (until size : ℕ) : Moment → Moment → Type 0 where
  stays : {m : Moment} → Steps c until size m m
  goes : {m after : Moment} → Takes c until m → Admitted c size m → Steps c until size (step_moment c m) after → Steps c until size m after

-- two refusals that are equal have equal reasons
same_refusal : {A : Type 0} {a b : Refusal} → ◌≡◌ {A = Answer A} (refused a) (refused b) → a ≡ b
same_refusal e = cc

module _ (c : Circuit) (until size : ℕ) where
  -- with no step to take, a run is answered and changes nothing
  pub run_rests : (n : ℕ) (m : Moment) → Rests c until m → run_moment n c until size m ≡ answered m
  unfolding run_moment
  run_rests zero m r = refl
  run_rests (suc n) m (inl e) = rw (le-ltb (time_after c m) never (omega arith))
  run_rests (suc n) m (inr l) = rw (lt-leb (time_after c m) until l, and-false (ltb (time_after c m) never))

  -- else it takes the step and goes on
  pub run_takes : (n : ℕ) (m : Moment) → Takes c until m → run_moment (suc n) c until size m ≡ continued (admitting c size m) (run_moment n c until size)
  unfolding run_moment
  run_takes n m t = rw (lt-ltb (time_after c m) never t.more, le-leb (time_after c m) until t.reach)

  run_admitted : (n : ℕ) (m : Moment) → Takes c until m → Admitted c size m → run_moment (suc n) c until size m ≡ run_moment n c until size (step_moment c m)
  run_admitted n m t a = run_takes n m t ∙ ap (λ (x : Answer Moment). continued x (run_moment n c until size)) (admitted_answer a)

  run_barred : (n : ℕ) (m : Moment) {why : Refusal} → Takes c until m → Barred c size m why → run_moment (suc n) c until size m ≡ refused why
  run_barred n m t b = run_takes n m t ∙ ap (λ (x : Answer Moment). continued x (run_moment n c until size)) (barred_answer b)

  run_zero : (m : Moment) → run_moment zero c until size m ≡ answered m
  unfolding run_moment
  run_zero m = refl

  -- an answered run took steps
  pub run_steps : (n : ℕ) (m after : Moment) → run_moment n c until size m ≡ answered after → Steps c until size m after
  run_steps zero m after e = subst (Steps c until size m) (same_answer (sym (run_zero m) ∙ e)) stays
  run_steps (suc n) m after e =
      ⊎_elim
      (λ (t : Takes c until m).
      ⊎_elim
      (λ (a : Admitted c size m). goes t a (run_steps n (step_moment c m) after (sym (run_admitted n m t a) ∙ e)))
      (λ (b : (why : Refusal) × Barred c size m why). refused_not_answered (sym (run_barred n m t b.1) ∙ e))
      (admitted_or_barred c size m))
      (λ (r : Rests c until m). subst (Steps c until size m) (same_answer (sym (run_rests (suc n) m r) ∙ e)) stays)
      (takes_or_rests c until m)

  -- a refused run met a step that is barred, and has its number
  pub run_refused : (n : ℕ) (m : Moment) (why : Refusal) → run_moment n c until size m ≡ refused why
      → (last : Moment) × Steps c until size m last × Takes c until last × Barred c size last why
  run_refused zero m why e = refused_not_answered (sym e ∙ run_zero m)
  run_refused (suc n) m why e =
      ⊎_elim
      (λ (t : Takes c until m).
      ⊎_elim
      (λ (a : Admitted c size m).
      let deeper : (last : Moment) × Steps c until size (step_moment c m) last × Takes c until last × Barred c size last why =
      run_refused n (step_moment c m) why (sym (run_admitted n m t a) ∙ e) in
      (deeper.0, goes t a deeper.1, deeper.2, deeper.3))
      (λ (b : (other : Refusal) × Barred c size m other). (m, stays, t, subst (Barred c size m) (same_refusal (sym (run_barred n m t b.1) ∙ e)) b.1))
      (admitted_or_barred c size m))
      (λ (r : Rests c until m). refused_not_answered (sym e ∙ run_rests (suc n) m r))
      (takes_or_rests c until m)

  -- what holds before and is kept by each step holds after
  pub steps_keep : (P : Moment → Type 0) → ((m : Moment) → P m → Takes c until m → Admitted c size m → P (step_moment c m))
      → {m after : Moment} → Steps c until size m after → P m → P after
  steps_keep P keep stays h = h
  steps_keep P keep (goes {m = m} t a rest) h = steps_keep P keep rest (keep m h t a)

  -- no step, or a last one, whose moment is left
  pub steps_last : {m after : Moment} → Steps c until size m after → (after ≡ m) ⊎ ((last : Moment) × Steps c until size m last × Takes c until last × (after ≡ step_moment c last))
  steps_last stays = inl refl
  steps_last (goes {m = m} {after = after} t a rest) = inr (from (steps_last rest))
    where
      from : (after ≡ step_moment c m) ⊎ ((last : Moment) × Steps c until size (step_moment c m) last × Takes c until last × (after ≡ step_moment c last))
          → (last : Moment) × Steps c until size m last × Takes c until last × (after ≡ step_moment c last)
      from (inl e) = (m, stays, t, e)
      from (inr deeper) = (deeper.0, goes t a deeper.1, deeper.2, deeper.3)

  -- so the time is as it was, or that of the last step, which is not later than asked
  pub steps_time : {m after : Moment} → Steps c until size m after
      → (after ≡ m) ⊎ ((last : Moment) × Steps c until size m last × Takes c until last × (after.run.time ≡ time_after c last))
  steps_time steps =
      ⊎_elim
      (λ e. inl e)
      (λ l. inr (l.0, l.1, l.2, ap (λ (m : Moment). m.run.time) l.3 ∙ step_time_lem c l.0))
      (steps_last steps)

  -- a time not later than asked stays so
  pub steps_until : {m after : Moment} → Steps c until size m after → m.run.time ≤ until → after.run.time ≤ until
  steps_until steps h = steps_keep (λ (m : Moment). m.run.time ≤ until) (λ m k t a. omega (arith, step_time_lem c m, t.reach)) steps h

  -- each step fits, so what is left does
  pub steps_fit : {m after : Moment} → Steps c until size m after → length m.table ≤ size → length after.table ≤ size
  steps_fit steps h = steps_keep (λ (m : Moment). length m.table ≤ size) (λ m k t a. a.fits) steps h

  -- steps and steps after them
  pub steps_trans : {m between after : Moment} → Steps c until size m between → Steps c until size between after → Steps c until size m after
  steps_trans stays next = next
  steps_trans (goes t a rest) next = goes t a (steps_trans rest next)

module _ {c : Circuit} (legal : check_circuit c ≡ answered c) (until size : ℕ) where
  -- sound moments stay sound
  pub steps_sound : {m after : Moment} → Steps c until size m after → SoundMoment c m → SoundMoment c after
  steps_sound steps s = steps_keep c until size (SoundMoment c) (λ m k t a. step_sound legal k t.more) steps s

  -- and no entry is taken away
  pub steps_extend : {m after : Moment} → Steps c until size m after → SoundMoment c m → Extends m.table after.table
  steps_extend stays s = extends_refl _
  steps_extend (goes t a rest) s = extends_trans (step_extends legal s) (steps_extend rest (step_sound legal s t.more))

  -- at the horizon there is no step left
  spent : (m : Moment) → SoundMoment c m → c.horizon.0 ≤ m.run.time → Rests c until m
  spent m s h =
      ⊎_elim
      (λ (t : Takes c until m). let w = time_within legal s t.more in absurd (omega arith))
      (λ (r : Rests c until m). r)
      (takes_or_rests c until m)

  -- two allowances that reach the horizon give the same answer
  pub allowance_same : (a b : ℕ) (m : Moment) → SoundMoment c m → c.horizon.0 ≤ m.run.time + a → c.horizon.0 ≤ m.run.time + b
      → run_moment a c until size m ≡ run_moment b c until size m
  allowance_same zero b m s ha hb = let r = spent m s (omega arith) in run_rests c until size zero m r ∙ sym (run_rests c until size b m r)
  allowance_same (suc a) zero m s ha hb = let r = spent m s (omega arith) in run_rests c until size (suc a) m r ∙ sym (run_rests c until size zero m r)
  allowance_same (suc a) (suc b) m s ha hb =
      ⊎_elim
      (λ (t : Takes c until m).
      let w = time_within legal s t.more in
      let e = step_time_lem c m in
      ⊎_elim
      (λ (admitted : Admitted c size m).
      run_admitted c until size a m t admitted
      ∙ allowance_same a b (step_moment c m) (step_sound legal s t.more) (omega arith) (omega arith)
      ∙ sym (run_admitted c until size b m t admitted))
      (λ (barred : (why : Refusal) × Barred c size m why). run_barred c until size a m t barred.1 ∙ sym (run_barred c until size b m t barred.1))
      (admitted_or_barred c size m))
      (λ (r : Rests c until m). run_rests c until size (suc a) m r ∙ sym (run_rests c until size (suc b) m r))
      (takes_or_rests c until m)

  -- an allowance of the horizon is enough: a larger one gives the same answer
  pub steps_enough : (n : ℕ) (m : Moment) → SoundMoment c m → c.horizon.0 ≤ n → run_moment n c until size m ≡ run_moment c.horizon.0 c until size m
  steps_enough n m s h = allowance_same n c.horizon.0 m s (omega arith) (omega arith)

  -- a run whose allowance reaches the horizon leaves no step that it should have taken
  pub run_done : (n : ℕ) (m after : Moment) → SoundMoment c m → c.horizon.0 ≤ m.run.time + n → run_moment n c until size m ≡ answered after → Rests c until after
  run_done zero m after s h e = subst (Rests c until) (same_answer (sym (run_zero c until size m) ∙ e)) (spent m s (omega arith))
  run_done (suc n) m after s h e =
      ⊎_elim
      (λ (t : Takes c until m).
      let w = time_within legal s t.more in
      let q = step_time_lem c m in
      ⊎_elim
      (λ (a : Admitted c size m). run_done n (step_moment c m) after (step_sound legal s t.more) (omega arith) (sym (run_admitted c until size n m t a) ∙ e))
      (λ (b : (why : Refusal) × Barred c size m why). refused_not_answered (sym (run_barred c until size n m t b.1) ∙ e))
      (admitted_or_barred c size m))
      (λ (r : Rests c until m). subst (Rests c until) (same_answer (sym (run_rests c until size (suc n) m r) ∙ e)) r)
      (takes_or_rests c until m)

-- no step of a sound moment is past the horizon
pub rests_beyond : {c : Circuit} → check_circuit c ≡ answered c → (until : ℕ) → c.horizon.0 ≤ until → {m : Moment} → SoundMoment c m → Rests c until m → time_after c m ≡ never
rests_beyond legal until h s (inl e) = e
rests_beyond {c} legal until h {m} s (inr l) =
    ⊎_elim
    (λ (k : time_after c m < never). let w = time_within legal s k in absurd (omega arith))
    (λ (k : never ≤ time_after c m). omega (arith, time_never c m))
    (lt_or_ge (time_after c m) never)

-- a run with the horizon's allowance, as the call makes it
abbrev pub ran : Circuit → ℕ → ℕ → Moment → Answer Moment
ran c until size m = run_moment c.horizon.0 c until size m

module _ {c : Circuit} (legal : check_circuit c ≡ answered c) (until size : ℕ) {m : Moment} (s : SoundMoment c m) where
  -- where there is a step to take, the run is that step and then the same run
  pub run_next : Takes c until m → ran c until size m ≡ continued (admitting c size m) (ran c until size)
  run_next t =
      let h : ℕ = c.horizon.0 - 1 in
      let one : c.horizon.0 ≡ suc h = omega (arith, (legal_limits legal).least_horizon) in
      let w = time_within legal s t.more in
      let e = step_time_lem c m in
      ap (λ (n : ℕ). run_moment n c until size m) one
      ∙ run_takes c until size h m t
      ∙ ⊎_elim
      (λ (a : Admitted c size m).
      ap (λ (x : Answer Moment). continued x (run_moment h c until size)) (admitted_answer a)
      ∙ allowance_same legal until size h c.horizon.0 (step_moment c m) (step_sound legal s t.more) (omega arith) (omega arith)
      ∙ ap (λ (x : Answer Moment). continued x (ran c until size)) (sym (admitted_answer a)))
      (λ (b : (why : Refusal) × Barred c size m why). alike h (barred_answer b.1))
      (admitted_or_barred c size m)
    where
      alike : (n : ℕ) {why : Refusal} → admitting c size m ≡ refused why
          → continued (admitting c size m) (run_moment n c until size) ≡ continued (admitting c size m) (ran c until size)
      alike n e =
          ap (λ (x : Answer Moment). continued x (run_moment n c until size)) e ∙ sym (ap (λ (x : Answer Moment). continued x (ran c until size)) e)

  -- an answered run took its steps, and no step up to the picosecond is left
  pub run_exact : (after : Moment) → ran c until size m ≡ answered after → Steps c until size m after × Rests c until after
  run_exact after e = (run_steps c until size c.horizon.0 m after e, run_done legal until size c.horizon.0 m after s (omega arith) e)

  -- with a picosecond not before the horizon, no step is left at all
  pub run_all : c.horizon.0 ≤ until → (after : Moment) → ran c until size m ≡ answered after → time_after c after ≡ never
  run_all h after e =
      let x = run_exact after e in
      rests_beyond legal until h (steps_sound legal until size x.0 s) x.1

-- steps to a moment with none left are what a run answers
pub steps_run : {c : Circuit} (legal : check_circuit c ≡ answered c) (until size : ℕ) {m after : Moment} → Steps c until size m after → SoundMoment c m → Rests c until after
    → ran c until size m ≡ answered after
steps_run {c} legal until size {m} stays s r = run_rests c until size c.horizon.0 m r
steps_run {c} legal until size (goes t a rest) s r =
    run_next legal until size s t
    ∙ ap (λ (x : Answer Moment). continued x (ran c until size)) (admitted_answer a)
    ∙ steps_run legal until size rest (step_sound legal s t.more) r

-- so every picosecond from the horizon on is the same to a run
pub run_beyond : {c : Circuit} → check_circuit c ≡ answered c → (until size : ℕ) → c.horizon.0 ≤ until → (n : ℕ) {m : Moment} → SoundMoment c m
    → run_moment n c until size m ≡ run_moment n c c.horizon.0 size m
run_beyond {c} legal until size h zero {m} s = run_zero c until size m ∙ sym (run_zero c c.horizon.0 size m)
run_beyond {c} legal until size h (suc n) {m} s =
    ⊎_elim
    (λ (t : Takes c c.horizon.0 m).
    let u : Takes c until m = record { more = t.more; reach = omega (arith, t.reach) } in
    ⊎_elim
    (λ (a : Admitted c size m).
    run_admitted c until size n m u a ∙ run_beyond legal until size h n (step_sound legal s t.more) ∙ sym (run_admitted c c.horizon.0 size n m t a))
    (λ (b : (why : Refusal) × Barred c size m why). run_barred c until size n m u b.1 ∙ sym (run_barred c c.horizon.0 size n m t b.1))
    (admitted_or_barred c size m))
    (λ (r : Rests c c.horizon.0 m).
    let z : time_after c m ≡ never = rests_beyond legal c.horizon.0 (omega arith) s r in
    run_rests c until size (suc n) m (inl z) ∙ sym (run_rests c c.horizon.0 size (suc n) m (inl z)))
    (takes_or_rests c c.horizon.0 m)
