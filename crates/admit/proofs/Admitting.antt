-- From the moment that was stored to the answer of a start or a step: one law for both, over the states that were stored, those of the rules, and what exceeds.
use mathlib.Core.Path.{◌≡◌, sym, ◌∙◌, ap, ap₂, subst}
use mathlib.Core.Logic.{◌⊎◌, inl, inr, ⊎_elim}
use mathlib.Core.List.{List, map}
use mathlib.Core.Bool.{Bool, true, false, not}
use Prim.Native.Nat.{ℕ, ◌+◌, ◌-◌, ◌≤◌, ◌<◌}
use native.Mathlib.Omega.{arith}
use lib.ListN.{length, get_or}
use lib.Dec.{eqb}
use borrow.Author.Tests.{eq-eqb, ne_eqb, not-true}
use Rattle.refusal.specs.declared.Refusal.{Refusal}
use Rattle.refusal.specs.declared.Refusal.TheVariants.{Full, Ceiling}
use Rattle.refusal.specs.Answer.{Answer, refused, answered, check}
use Rattle.lists.specs.Tests.{below}
use Rattle.lists.specs.Padded.{padded}
use Rattle.lists.proofs.Cases.{bool_cases, bool_ext, true_false}
use Rattle.lists.proofs.Below.{below_each, each_below}
use Rattle.lists.proofs.Padded.{padded_read}
use Rattle.format.specs.Circuit.{Circuit}
use Rattle.format.specs.Legal.{most_nodes}
use Rattle.diagram.specs.Pattern.{most_letters, patterns}
use Rattle.diagram.specs.Table.{Table, never, number_at}
use Rattle.diagram.proofs.Sound.{Sound}
use Rattle.rules.specs.State.{State, value_at, change_at, node_numbers}
use Rattle.rules.specs.Run.{StoredAll, store_all, Moment, moment_of, least_below, fitting, run_sound}
use Rattle.rules.proofs.State.{Shaped, Pending, at_place}
use Rattle.rules.proofs.Time.{least_below_lem, least_is}
use Rattle.rules.proofs.Nodes.{some_node, no_node}
use Rattle.rules.proofs.Moment.{Records, SoundMoment, moment_records, records_state, run_record, sound_states, sound_tests}
use Rattle.rules.proofs.Admitted.{fitting_fits, fitting_full}
use Rattle.plain.specs.Exceeded.{any_exceeded}
use Rattle.record.specs.Numbers.{least_of, least_among}
use Rattle.moment.proofs.Storing.{stored_alike}
use Rattle.admit.specs.Judged.{crowding}

-- a moment of what was stored
abbrev built : ℕ → StoredAll → StoredAll → Moment
built time vs cs = record { run = record { time = time; used = length cs.table; values = vs.entries; changes = cs.entries }; table = cs.table }

-- states that agree at every pattern make the same moment
pub moment_alike : (c : Circuit) (time : ℕ) (one other : ℕ → State) (t : Table) → ((p : ℕ) → p < patterns c.letters → one p ≡ other p) → moment_of c time one t ≡ moment_of c time other t
unfolding moment_of
moment_alike c time one other t same =
    let vs : store_all c.letters (map (λ (n : ℕ) (p : ℕ). value_at (one p) n) (node_numbers c)) t ≡ store_all c.letters (map (λ (n : ℕ) (p : ℕ). value_at (other p) n) (node_numbers c)) t =
    stored_alike c c.letters (λ (n : ℕ) (p : ℕ). value_at (one p) n) (λ (n : ℕ) (p : ℕ). value_at (other p) n) t (λ n k p l. ap (λ (s : State). value_at s n) (same p l)) in
    ap₂ (built time) vs
    (ap (λ (s : StoredAll). store_all c.letters (map (λ (n : ℕ) (p : ℕ). change_at (one p) n) (node_numbers c)) s.table) vs
    ∙ stored_alike c c.letters (λ (n : ℕ) (p : ℕ). change_at (one p) n) (λ (n : ℕ) (p : ℕ). change_at (other p) n) _ (λ n k p l. ap (λ (s : State). change_at s n) (same p l)))

module _ (c : Circuit) (time : ℕ) (stored states : ℕ → State) (over : ℕ → Bool) (t : Table) (few : c.letters ≤ most_letters) (sound : Sound c.letters t)
    (tells : (p : ℕ) → p < patterns c.letters → any_exceeded c (stored p) ≡ over p)
    (same : (p : ℕ) → p < patterns c.letters → over p ≡ false → stored p ≡ states p) where
  -- no pattern exceeds the ceiling
  abbrev within : Bool
  within = below (patterns c.letters) (λ p. not (over p))

  abbrev m : Moment
  m = moment_of c time stored t

  records : Records c stored t m
  records = moment_records c time stored t few sound

  each : within ≡ true → (p : ℕ) → p < patterns c.letters → over p ≡ false
  each e p l = not-true (over p) (below_each (patterns c.letters) (λ q. not (over q)) e p l)

  -- then the moment that was stored is that of the rules
  pub same_moment : within ≡ true → moment_of c time stored t ≡ moment_of c time states t
  same_moment e = moment_alike c time stored states t (λ p l. same p l (each e p l))

  abbrev changes : List ℕ
  changes = padded most_nodes 0 m.run.changes

  change_at_lem : (i : ℕ) → i < length c.nodes → (p : ℕ) → p < patterns c.letters → number_at c.letters m.table (get_or changes i 0) p ≡ change_at (stored p) (2 + i)
  change_at_lem i h p l = ap (λ (e : ℕ). number_at c.letters m.table e p) (padded_read most_nodes 0 m.run.changes i) ∙ records.change_is i h p l

  abbrev least : ℕ
  least = least_among c.letters m.table changes (length c.nodes)

  -- a number that is the least of its kind, and is 0, stands at some place
  at_zero : (n : ℕ) (f : ℕ → ℕ) → least_below n f ≡ 0 → (k : ℕ) × (k < n) × (f k ≡ 0)
  at_zero n f e =
      ⊎_elim
      (λ (z : least_below n f ≡ never). absurd (omega arith))
      (λ (a : (k : ℕ) × (k < n) × (least_below n f ≡ f k)). (a.0, a.1, sym a.2 ∙ e))
      (least_is n f)

  -- a next change of 0 at one of the patterns is a walk that exceeds
  found : within ≡ true → least ≡ 0 → ⊥
  unfolding any_exceeded
  found e z =
      let a = at_zero (length c.nodes) (λ i. least_of c.letters m.table (get_or changes i 0)) z in
      let b = at_zero (patterns c.letters) (number_at c.letters m.table (get_or changes a.0 0)) a.2 in
      let zero-at : change_at (stored b.0) (2 + a.0) ≡ 0 = sym (change_at_lem a.0 a.1 b.0 b.1) ∙ b.2 in
      let is : any_exceeded c (stored b.0) ≡ true =
      some_node c (λ (n : ℕ). eqb (change_at (stored b.0) n) 0) (2 + a.0) (at_place c a.0 a.1) (eq-eqb (change_at (stored b.0) (2 + a.0)) 0 zero-at) in
      true_false (over b.0) (sym (tells b.0 b.1) ∙ is) (each e b.0 b.1)

  -- where there is none, nothing exceeds
  none : (least ≡ 0 → ⊥) → (p : ℕ) → p < patterns c.letters → over p ≡ false
  unfolding any_exceeded
  none ne p l =
      sym (tells p l)
      ∙ no_node c (λ (n : ℕ). eqb (change_at (stored p) n) 0)
      (λ n k. ne_eqb (change_at (stored p) n) 0
      (λ z.
      let i : n - 2 < length c.nodes = omega (arith, k.least, k.most) in
      let place : 2 + (n - 2) ≡ n = omega (arith, k.least) in
      let number : number_at c.letters m.table (get_or changes (n - 2) 0) p ≡ 0 = change_at_lem (n - 2) i p l ∙ ap (change_at (stored p)) place ∙ z in
      ne (omega (
        arith,
        number,
        least_below_lem (patterns c.letters) (number_at c.letters m.table (get_or changes (n - 2) 0)) p l,
        least_below_lem (length c.nodes) (λ j. least_of c.letters m.table (get_or changes j 0)) (n - 2) i,
      ))))

  -- so the least of the next changes tells whether one exceeds
  pub least_tells : not (eqb (least_among c.letters (moment_of c time stored t).table (padded most_nodes 0 (moment_of c time stored t).run.changes) (length c.nodes)) 0) ≡ below (patterns c.letters) (λ p. not (over p))
  least_tells =
      bool_ext (not (eqb least 0)) within
      (λ e. each_below (patterns c.letters) (λ p. not (over p))
      (λ p l. ap not (none (λ z. true_false (eqb least 0) (eq-eqb least 0 z) (not-true (eqb least 0) e)) p l)))
      (λ e. ap not (ne_eqb least 0 (found e)))

  -- where the rules' states make a sound run, so does whether what was stored is one
  pub sound_tells : ((p : ℕ) → p < patterns c.letters → Shaped c (stored p)) → SoundMoment c (moment_of c time states t)
      → run_sound c (moment_of c time stored t).table (moment_of c time stored t).run ≡ below (patterns c.letters) (λ p. not (over p))
  unfolding any_exceeded
  sound_tells shaped s =
      bool_ext (run_sound c m.table m.run) within
      (λ e.
      let held-states = sound_states few records.sound (run_record c m.table m.run e) in
      each_below (patterns c.letters) (λ p. not (over p))
      (λ p l.
      let pending : Pending c m.run.time (stored p) = subst (Pending c m.run.time) (records_state records p l (shaped p l)) (held-states.pending p l) in
      ap not (sym (tells p l)
      ∙ no_node c (λ (n : ℕ). eqb (change_at (stored p) n) 0) (λ n k. ne_eqb (change_at (stored p) n) 0 (λ z. late n z (pending.later n k))))))
      (λ e. subst (λ (x : Moment). run_sound c x.table x.run ≡ true) (sym (same_moment e)) (sound_tests s).1)
    where
      late : {a : ℕ} (n : ℕ) → a ≡ 0 → (a ≡ never) ⊎ ((m.run.time < a) × (a ≤ c.horizon.0)) → ⊥
      late n z (inl e) = omega (arith, z, e)
      late n z (inr q) = omega (arith, z, q.0)

  module _ (size : ℕ) where
    abbrev answer : Answer Moment
    answer = check within Ceiling (fitting size (moment_of c time states t))

    -- without room: 11 before 6
    pub answer_crowded : size < length (moment_of c time stored t).table → {why : Refusal} → why ≡ crowding within → answer ≡ refused why
    answer_crowded l {why} e =
        ⊎_elim
        (λ (p : within ≡ true).
        let full : answer ≡ refused Full = rw p (subst (λ (x : Moment). fitting size x ≡ refused Full) (same_moment p) (fitting_full size m l)) in
        full ∙ ap refused (sym (e ∙ ap crowding p)))
        (λ (p : within ≡ false).
        let above : answer ≡ refused Ceiling = rw p in
        above ∙ ap refused (sym (e ∙ ap crowding p)))
        (bool_cases within)

    -- with room, and a walk that exceeds: 11
    pub answer_exceeds : within ≡ false → answer ≡ refused Ceiling
    answer_exceeds p = rw p

    -- with room, and without one: the moment
    pub answer_fits : within ≡ true → length (moment_of c time stored t).table ≤ size → answer ≡ answered (moment_of c time stored t)
    answer_fits p l = rw p (subst (λ (x : Moment). fitting size x ≡ answered m) (same_moment p) (fitting_fits size m l))
