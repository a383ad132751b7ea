-- What arrives at a node at T: the schedule's first entry for it, and the value that the definitions give.
use mathlib.Core.Path.{◌≡◌, refl, sym, ◌∙◌, ap, ap₂, subst}
use mathlib.Core.List.{List, map}
use mathlib.Core.Bool.{Bool, true, false, cond}
use Prim.Native.Nat.{ℕ, ◌+◌, ◌-◌, ◌*◌, ◌/◌, ◌%◌, ◌<◌, ◌≤◌}
use native.Mathlib.Omega.{arith}
use lib.ListN.{length, get_or}
use borrow.Author.Tests.{eq-eqb, ne_eqb}
use Rattle.format.specs.declared.Node.{Node}
use Rattle.format.specs.Circuit.{Circuit, no_node}
use Rattle.format.specs.Legal.{most_nodes, is_input}
use Rattle.diagram.specs.declared.Operation.TheVariants.{Flip}
use Rattle.diagram.specs.Table.{Table, number_at}
use Rattle.diagram.specs.Store.{Stored, stored, join, store}
use Rattle.diagram.specs.Operation.{flip, applied}
use Rattle.diagram.specs.Held.{held}
use Rattle.diagram.proofs.Store.{store_ext}
use Rattle.table.specs.declared.Put.{Put}
use Rattle.table.specs.declared.Stop.{Stop}
use Rattle.table.specs.declared.Stop.TheVariants.{Going}
use Rattle.table.specs.Holds.{Outcome}
use Rattle.table.proofs.Outcomes.{put}
use Rattle.functions.specs.Open.{Legible, Open, Operand}
use Rattle.functions.proofs.Carry.{legible_sound}
use Rattle.rules.specs.State.{State, value_at, change_at, node_numbers}
use Rattle.rules.specs.Arrive.{source_at, scheduled}
use Rattle.rules.specs.Step.{started, stepped}
use Rattle.rules.specs.Run.{state_of, StoredAll, store_all, run_sound}
use Rattle.rules.proofs.State.{Numbered}
use Rattle.rules.proofs.Arrive.{source_constant, arrived_value_lem, stepped_value}
use Rattle.rules.proofs.StoreAll.{store_all_each}
use Rattle.rules.proofs.Step.{initial_value, started_value}
use Rattle.net.specs.Net.{nodes_place, letters_place, start_place, at, net_circuit}
use Rattle.net.specs.Due.{no_source, Due}
use Rattle.net.proofs.Laying.{nodes_length, node_at_lem}
use Rattle.record.specs.declared.Run.{Run}
use Rattle.record.specs.Record.{run_of}
use Rattle.record.proofs.Read.{value_used, change_used, value_is, change_is}
use Rattle.values.specs.All.{OutcomeAll}
use Rattle.values.specs.Arriving.{input_after, value_after}
use Rattle.values.proofs.Single.{own_outcome, bit_outcome, letter_stored}

module _ {k : ℕ} {l w h ix : List ℕ} {used : ℕ} (o : Open k l w h ix used) where
  -- a constant source
  pub source_bit : (byte : ℕ) → byte < 2 → Outcome (held l w h used) (store k 0 (source_at byte) (held l w h used)) l w h ix (put Going byte used)
  source_bit byte small = bit_outcome o byte (source_at byte) small (λ p _. source_constant byte p small)

  -- a source that names a letter
  pub source_branch : (byte : ℕ) → 2 ≤ byte → byte < 2 + 2 * k → {l1 w1 h1 ix1 : List ℕ} {r : Put}
      → Outcome (held l w h used) (join (byte / 2 - 1) (stored (held l w h used) (byte % 2)) (stored (held l w h used) (1 - byte % 2))) l1 w1 h1 ix1 r
      → Outcome (held l w h used) (store k 0 (source_at byte) (held l w h used)) l1 w1 h1 ix1 r
  source_branch byte least most a = rw (letter_stored o.legible.few (legible_sound o.legible) byte least most) a

  -- an input for which nothing is scheduled
  pub input_stays : (c : Circuit) (time n value : ℕ) {byte : ℕ} → value < used → Due k c.schedule time n byte → byte ≡ no_source
      → Outcome (held l w h used) (store k 0 (input_after k c (held l w h used) time n value) (held l w h used)) l w h ix (put Going value used)
  input_stays c time n value {byte} small due none =
      own_outcome o value (input_after k c (held l w h used) time n value) small
      (λ p _. sym (due.is p (number_at k (held l w h used) value p) ∙ rw (eq-eqb byte no_source none)))

  -- an input that takes a source
  pub input_takes : (c : Circuit) (time n value : ℕ) {byte : ℕ} → Due k c.schedule time n byte → (byte ≡ no_source → ⊥) → {l1 w1 h1 ix1 : List ℕ} {r : Put}
      → Outcome (held l w h used) (store k 0 (source_at byte) (held l w h used)) l1 w1 h1 ix1 r
      → Outcome (held l w h used) (store k 0 (input_after k c (held l w h used) time n value) (held l w h used)) l1 w1 h1 ix1 r
  input_takes c time n value {byte} due some {l1} {w1} {h1} {ix1} {r} a =
      subst (λ (s : Stored). Outcome (held l w h used) s l1 w1 h1 ix1 r)
      (store_ext k 0 (source_at byte) (input_after k c (held l w h used) time n value) (held l w h used)
      (λ p _. sym (due.is p (number_at k (held l w h used) value p) ∙ rw (ne_eqb byte no_source some))))
      a

  -- an input
  pub value_input : (c : Circuit) (time n value change : ℕ) → is_input c n ≡ true → {l1 w1 h1 ix1 : List ℕ} {r : Put}
      → Outcome (held l w h used) (store k 0 (input_after k c (held l w h used) time n value) (held l w h used)) l1 w1 h1 ix1 r
      → Outcome (held l w h used) (store k 0 (value_after k c (held l w h used) time n value change) (held l w h used)) l1 w1 h1 ix1 r
  value_input c time n value change e {l1} {w1} {h1} {ix1} {r} a =
      subst
      (λ (b : Bool).
      Outcome (held l w h used) (store k 0 (λ p. cond b (input_after k c (held l w h used) time n value p) (flip time (number_at k (held l w h used) value p) (number_at k (held l w h used) change p))) (held l w h used)) l1 w1 h1 ix1 r)
      (sym e) a

  -- an inner node
  pub value_inner : (c : Circuit) (time n value change : ℕ) → is_input c n ≡ false → {l1 w1 h1 ix1 : List ℕ} {r : Put}
      → Outcome (held l w h used) (store k 0 (applied k (held l w h used) (Flip time) value change) (held l w h used)) l1 w1 h1 ix1 r
      → Outcome (held l w h used) (store k 0 (value_after k c (held l w h used) time n value change) (held l w h used)) l1 w1 h1 ix1 r
  value_inner c time n value change e {l1} {w1} {h1} {ix1} {r} a =
      subst
      (λ (b : Bool).
      Outcome (held l w h used) (store k 0 (λ p. cond b (input_after k c (held l w h used) time n value p) (flip time (number_at k (held l w h used) value p) (number_at k (held l w h used) change p))) (held l w h used)) l1 w1 h1 ix1 r)
      (sym e) a

  -- every used entry is an operand with all letters
  pub whole_operand : (e : ℕ) → e < used → Operand k (held l w h used) used k e
  whole_operand e small = record { within = small; from = omega arith }

-- the value of a start
pub start_same : (net : List ℕ) (i p : ℕ) → i < at net nodes_place → source_at (at net (start_place + i)) p ≡ value_at (started (net_circuit net) p) (2 + i)
start_same net i p h =
    let c : Circuit = net_circuit net in
    let numbered : Numbered c (2 + i) = record { least = omega arith; most = omega (arith, nodes_length net) } in
    let back : 2 + i - 2 ≡ i = omega arith in
    sym (started_value c p (2 + i)
    ∙ initial_value c p (2 + i) numbered
    ∙ ap (λ (x : Node). source_at x.start p) (ap (λ (j : ℕ). get_or c.nodes j no_node) back ∙ node_at_lem net i h))

-- a run whose time is not read
abbrev timeless : ℕ → List ℕ → List ℕ → Run
timeless used values changes = record { time = 0; used = used; values = values; changes = changes }

-- the values after T by node and pattern
abbrev pub arrivals : Circuit → Table → ℕ → List ℕ → List ℕ → ℕ → ℕ → ℕ → ℕ
arrivals c t used values changes time n p = value_at (stepped c time p (state_of c t (run_of c (timeless used values changes)) p)) n

state_timeless : (c : Circuit) (t : Table) (r : Run) (p : ℕ) → state_of c t (run_of c (timeless r.used r.values r.changes)) p ≡ state_of c t (run_of c r) p
unfolding state_of
state_timeless c t r p = refl

-- the value after T, read in a table that has the numbers of the run's
module _ (net l w h : List ℕ) (r : Run) (values_long : length r.values ≡ most_nodes) (changes_long : length r.changes ≡ most_nodes) (few : at net nodes_place ≤ most_nodes)
    (o : Legible (at net letters_place) l w h r.used) (sound : run_sound (net_circuit net) (held l w h r.used) (run_of (net_circuit net) r) ≡ true) where
  abbrev c : Circuit
  c = net_circuit net

  abbrev t : Table
  t = held l w h r.used

  -- the entries are entries of its table
  pub values_used : (i : ℕ) → i < at net nodes_place → get_or r.values i 0 < r.used
  unfolding net_circuit
  values_used = value_used net l w h r values_long changes_long few o sound

  pub changes_used : (i : ℕ) → i < at net nodes_place → get_or r.changes i 0 < r.used
  unfolding net_circuit
  changes_used = change_used net l w h r values_long changes_long few o sound

  -- and have the numbers of the state
  value_state : (n p : ℕ) → 2 ≤ n → n < 2 + at net nodes_place → number_at (at net letters_place) t (get_or r.values (n - 2) 0) p ≡ value_at (state_of c t (run_of c r) p) n
  unfolding net_circuit
  value_state = value_is net l w h r values_long changes_long few o sound

  change_state : (n p : ℕ) → 2 ≤ n → n < 2 + at net nodes_place → number_at (at net letters_place) t (get_or r.changes (n - 2) 0) p ≡ change_at (state_of c t (run_of c r) p) n
  unfolding net_circuit
  change_state = change_is net l w h r values_long changes_long few o sound

  pub arrive_same : (time i p : ℕ) (u : Table) → i < at net nodes_place
      → ((e : ℕ) → e < r.used → number_at (at net letters_place) u e p ≡ number_at (at net letters_place) (held l w h r.used) e p)
      → value_after (at net letters_place) (net_circuit net) u time (2 + i) (get_or r.values i 0) (get_or r.changes i 0) p
      ≡ value_at (stepped (net_circuit net) time p (state_of (net_circuit net) (held l w h r.used) (run_of (net_circuit net) r) p)) (2 + i)
  arrive_same time i p u h same =
      let s : State = state_of c t (run_of c r) p in
      let numbered : Numbered c (2 + i) = record { least = omega arith; most = omega (arith, nodes_length net) } in
      let back : 2 + i - 2 ≡ i = omega arith in
      let value : number_at (at net letters_place) u (get_or r.values i 0) p ≡ value_at s (2 + i) =
      same (get_or r.values i 0) (values_used i h) ∙ ap (λ (j : ℕ). number_at (at net letters_place) t (get_or r.values j 0) p) (sym back) ∙ value_state (2 + i) p (omega arith) (omega arith) in
      let change : number_at (at net letters_place) u (get_or r.changes i 0) p ≡ change_at s (2 + i) =
      same (get_or r.changes i 0) (changes_used i h) ∙ ap (λ (j : ℕ). number_at (at net letters_place) t (get_or r.changes j 0) p) (sym back) ∙ change_state (2 + i) p (omega arith) (omega arith) in
      ap₂ (λ (v d : ℕ). cond (is_input c (2 + i)) (scheduled c.schedule time (2 + i) p v) (flip time v d)) value change
      ∙ sym (stepped_value c time p s (2 + i) ∙ arrived_value_lem c time p s (2 + i) numbered)

  -- the same of the run without its time
  pub arrive_next : (time i p : ℕ) (u : Table) → i < at net nodes_place
      → ((e : ℕ) → e < r.used → number_at (at net letters_place) u e p ≡ number_at (at net letters_place) (held l w h r.used) e p)
      → value_after (at net letters_place) (net_circuit net) u time (2 + i) (get_or r.values i 0) (get_or r.changes i 0) p
      ≡ arrivals (net_circuit net) (held l w h r.used) r.used r.values r.changes time (2 + i) p
  arrive_next time i p u h same = arrive_same time i p u h same ∙ ap (λ (s : State). value_at (stepped c time p s) (2 + i)) (sym (state_timeless c t r p))

-- what is stored does not read the run's time
pub arrive_done : (c : Circuit) (t : Table) (r : Run) (k time : ℕ) {l w h ix : List ℕ} {stop : Stop} {used : ℕ} {entries : List ℕ}
    → OutcomeAll t (store_all k (map (arrivals c t r.used r.values r.changes time) (node_numbers c)) t) l w h ix stop used entries
    → OutcomeAll t (store_all k (map (λ (n : ℕ) (p : ℕ). value_at (stepped c time p (state_of c t (run_of c r) p)) n) (node_numbers c)) t) l w h ix stop used entries
arrive_done c t r k time {l} {w} {h} {ix} {stop} {used} {entries} a =
    subst (λ (s : StoredAll). OutcomeAll t s l w h ix stop used entries)
    (store_all_each k (arrivals c t r.used r.values r.changes time) (λ (n : ℕ) (p : ℕ). value_at (stepped c time p (state_of c t (run_of c r) p)) n) (node_numbers c) t
    (λ n p _. ap (λ (s : State). value_at (stepped c time p s) n) (state_timeless c t r p)))
    a
