-- Start and step of one pattern: the columns that the parts give show the states of the definitions.
use mathlib.Core.Path.{◌≡◌, refl, sym, ◌∙◌, ap, ap₂}
use mathlib.Core.List.{List}
use mathlib.Core.Bool.{true, false}
use Rattle.std.specs.Prelude.{Ok}
use Prim.Native.Nat.{ℕ, ◌+◌, ◌-◌, ◌≤◌, ◌<◌}
use native.Mathlib.Omega.{arith}
use lib.ListN.{length, get_or, replicate, get_or-replicate}
use lib.Dec.{eqb}
use borrow.Author.Tests.{eqb-false}
use Rattle.format.specs.Circuit.{Circuit, node_record}
use Rattle.format.specs.Legal.{is_input}
use Rattle.diagram.specs.Table.{never}
use Rattle.rules.specs.State.{State, change_at}
use Rattle.rules.specs.Arrive.{source_at, arrived, arrived_value}
use Rattle.rules.specs.Step.{initial, started, start_exceeds, stepped, step_exceeds}
use Rattle.rules.proofs.State.{Numbered, numbers_same}
use Rattle.rules.proofs.Arrive.{source_bit, scheduled_bit, cond_bit, arrived_change_lem}
use Rattle.rules.proofs.Step.{initial_change}
use Rattle.rules.proofs.Nodes.{each_fails}
use Rattle.net.specs.Net.{at, net_circuit}
use Rattle.net.specs.Laid.{Laid}
use Rattle.net.proofs.Laying.{nodes_length}
use Rattle.plain.specs.Ready.{Noded}
use Rattle.plain.specs.Exceeded.{any_exceeded}
use Rattle.plain.specs.Settle.{pending_after, change_between, Between, Showing, started_or_exceeded, stepped_or_exceeded}
use Rattle.plain.specs.Pattern.{of_nodes, shown_by, Bits, NoneExceeded, Proper, Filled, Goes, arrived_at}
use Rattle.plain.proofs.Values.{value_shown}
use Rattle.plain.proofs.Fill.{filled_column, filled_shown, filled_bits, change_shown}
use Rattle.plain.proofs.Exceeding.{start_exceeded, start_not_exceeded, step_exceeded, step_not_exceeded}

module _ (net : List ℕ) (laid : Laid (net_circuit net) net) where
  abbrev c : Circuit
  c = net_circuit net

  numbered : {n : ℕ} → Noded net n → Numbered c n
  numbered k = record { least = k.least; most = omega (arith, nodes_length net, k.most) }

  -- a state of bits in which no walk exceeds, with no next change for the rails
  proper : {f g : ℕ → ℕ} {values changes : List ℕ} → Filled 0 1 f (2 + at net 0) values → ((n : ℕ) → n < 2 + at net 0 → get_or values n 0 ≤ 1) → Filled never never g (2 + at net 0) changes
      → any_exceeded c (shown_by c values changes) ≡ false → Proper c (record { values = values; changes = changes })
  unfolding any_exceeded
  proper {values = values} {changes = changes} w bits h e = record {
    values = record { column = filled_column w; bits = λ n l. bits n (omega (arith, nodes_length net)) };
    none_exceeded = λ n least most.
        let k : Numbered c n = record { least = least; most = most } in
        let not-zero = eqb-false (change_at (shown_by c values changes) n) 0 (each_fails c (λ (m : ℕ). eqb (change_at (shown_by c values changes) m) 0) e n k) in
        let same = change_shown net laid values changes h.long n k in
        by (get_or changes n 0) (λ z. not-zero (same ∙ z));
    ground = h.ground;
    supply = h.supply;
  }
    where
      by : (x : ℕ) → (x ≡ 0 → ⊥) → 0 < x
      by x ne = omega arith

  module _ (p : ℕ) {values : List ℕ} (w : Filled 0 1 (λ (n : ℕ). source_at (node_record (net_circuit net) n).start p) (2 + at net 0) values) where
    sources_bits : (n : ℕ) → n < 2 + at net 0 → get_or values n 0 ≤ 1
    sources_bits = filled_bits net laid w (λ n l h. source_bit (node_record c n).start p)

    initial_shown : of_nodes c values ≡ (initial c p).values
    unfolding initial
    initial_shown = filled_shown net laid w

    -- the sources are values before and after the start
    pub start_between : Between net values values
    start_between = record { cell = laid; before = filled_column w; after = filled_column w; bits = sources_bits }

    start_showing : Showing net 0 values values (replicate 26 never) (initial c p) (initial c p)
    start_showing = record {
      before = sym initial_shown;
      after = sym initial_shown;
      pending = λ n k.
          let small : n < 26 = omega (arith, k.most, laid.within.nodes) in
          initial_change c p n (numbered k) ∙ sym (ap (pending_after 0) (get_or-replicate 26 n never 0 small));
    }

    module _ {changes : List ℕ}
        (h : (s t : State) → Showing net 0 values values (replicate 26 never) s t → Filled never never (change_between (net_circuit net) 0 true s t) (2 + at net 0) changes) where
      -- they show the start, or what exceeds in it
      start_shown : shown_by (net_circuit net) values changes ≡ started_or_exceeded (net_circuit net) p
      unfolding started_or_exceeded
      start_shown = λ i. record { values = initial_shown i; changes = filled_shown net laid (h (initial c p) (initial c p) start_showing) i }

      -- a next change of 0 tells that the start exceeds the ceiling
      start_told : any_exceeded (net_circuit net) (shown_by (net_circuit net) values changes) ≡ start_exceeds (net_circuit net) p
      start_told = ap (any_exceeded c) start_shown ∙ start_exceeded c p

      -- with one the start exceeds, without one they show it
      pub start_over : true ≡ any_exceeded (net_circuit net) (shown_by (net_circuit net) values changes) → start_exceeds (net_circuit net) p ≡ true
      start_over told = sym start_told ∙ sym told

      pub start_goes : false ≡ any_exceeded (net_circuit net) (shown_by (net_circuit net) values changes)
          → Goes (net_circuit net) (start_exceeds (net_circuit net) p) (started (net_circuit net) p) (Ok (record { values = values; changes = changes }))
      start_goes told =
          let within : start_exceeds (net_circuit net) p ≡ false = sym start_told ∙ sym told in
          (within, start_shown ∙ start_not_exceeded c p within, proper w sources_bits (h (initial c p) (initial c p) start_showing) (sym told))

  module _ (time p : ℕ) (old pending : List ℕ) {values : List ℕ} (b : Bits (net_circuit net) old) (long : length pending ≡ 26)
      (w : Filled 0 1 (λ (n : ℕ). arrived_at (net_circuit net) time p n (get_or old n 0) (get_or pending n 0)) (2 + at net 0) values) where
    abbrev s : State
    s = shown_by c old pending

    after_bits : (n : ℕ) → n < 2 + at net 0 → get_or values n 0 ≤ 1
    after_bits =
        filled_bits net laid w
        (λ n l h.
        let bit : get_or old n 0 ≤ 1 = b.bits n (omega (arith, nodes_length net)) in
        let other : 1 - get_or old n 0 ≤ 1 = omega arith in
        cond_bit (is_input c n) _ _
        (λ e. scheduled_bit c.schedule time n p (get_or old n 0) bit)
        (λ e. cond_bit (eqb (get_or pending n 0) time) (1 - get_or old n 0) (get_or old n 0) (λ z. other) (λ z. bit)))

    arrived_shown : of_nodes c values ≡ (arrived c time p s).values
    unfolding arrived
    arrived_shown =
        filled_shown net laid w
        ∙ numbers_same c _ (arrived_value c time p s)
        (λ n k. ap₂ (arrived_at c time p n) (sym (value_shown c old s b.column refl n k.most)) (sym (change_shown net laid old pending long n k)))

    -- the values before and after T
    pub step_between : Between net old values
    step_between = record { cell = laid; before = b.column; after = filled_column w; bits = after_bits }

    step_showing : Showing net time old values pending s (arrived c time p s)
    step_showing = record {
      before = refl;
      after = sym arrived_shown;
      pending = λ n k. arrived_change_lem c time p s n (numbered k) ∙ ap (pending_after time) (change_shown net laid old pending long n (numbered k));
    }

    module _ {changes : List ℕ}
        (h : (s t : State) → Showing net time old values pending s t → Filled never never (change_between (net_circuit net) time false s t) (2 + at net 0) changes) where
      -- they show the step, or what exceeds in it
      step_shown : shown_by (net_circuit net) values changes ≡ stepped_or_exceeded (net_circuit net) time p (shown_by (net_circuit net) old pending)
      unfolding stepped_or_exceeded
      step_shown = λ i. record { values = arrived_shown i; changes = filled_shown net laid (h s (arrived c time p s) step_showing) i }

      -- a next change of 0 tells that the step exceeds the ceiling
      step_told : NoneExceeded (net_circuit net) pending → any_exceeded (net_circuit net) (shown_by (net_circuit net) values changes) ≡ step_exceeds (net_circuit net) time p (shown_by (net_circuit net) old pending)
      step_told later = ap (any_exceeded c) step_shown ∙ step_exceeded c time p s (λ n k. rw (change_shown net laid old pending long n k) (later n k.least k.most))

      -- with one the step exceeds, without one they show it
      pub step_over : NoneExceeded (net_circuit net) pending → true ≡ any_exceeded (net_circuit net) (shown_by (net_circuit net) values changes) → step_exceeds (net_circuit net) time p (shown_by (net_circuit net) old pending) ≡ true
      step_over later told = sym (step_told later) ∙ sym told

      pub step_goes : NoneExceeded (net_circuit net) pending → false ≡ any_exceeded (net_circuit net) (shown_by (net_circuit net) values changes)
          → Goes (net_circuit net) (step_exceeds (net_circuit net) time p (shown_by (net_circuit net) old pending)) (stepped (net_circuit net) time p (shown_by (net_circuit net) old pending)) (Ok (record { values = values; changes = changes }))
      step_goes later told =
          let within : step_exceeds (net_circuit net) time p (shown_by (net_circuit net) old pending) ≡ false = sym (step_told later) ∙ sym told in
          (within, step_shown ∙ step_not_exceeded c time p s within, proper w after_bits (h s (arrived c time p s) step_showing) (sym told))
