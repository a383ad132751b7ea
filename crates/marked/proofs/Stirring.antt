-- Where nothing is stirred for a node it is reconsidered at no pattern, and its pending change stays but for T.
use mathlib.Core.Path.{◌≡◌, refl, sym, ◌∙◌, ap, subst}
use mathlib.Core.Logic.{⊎_elim}
use mathlib.Core.List.{List, [], ◌∷◌, map}
use mathlib.Core.Bool.{Bool, true, false, not, ◌&&◌, ◌||◌, cond, true≢false}
use Prim.Native.Nat.{ℕ, zero, suc, ◌+◌, ◌≤◌, ◌<◌}
use native.Mathlib.Omega.{arith}
use lib.ListN.{length, get_or, drop}
use lib.Seq.{get_or-drop}
use borrow.Author.Tests.{not-false, eqb-true, eq-eqb}
use Rattle.lists.proofs.Cases.{bool_cases, lt_or_ge, true_false}
use Rattle.format.specs.declared.Transistor.{Transistor}
use Rattle.format.specs.Circuit.{Circuit, no_transistor}
use Rattle.format.specs.Legal.{is_input}
use Rattle.diagram.specs.Table.{Table, number_at}
use Rattle.diagram.specs.Held.{held}
use Rattle.table.specs.declared.Stop.{Stop}
use Rattle.rules.specs.State.{State, value_at, is_inner, node_numbers}
use Rattle.rules.specs.Arrive.{changed}
use Rattle.rules.specs.Label.{some}
use Rattle.rules.specs.Group.{groups, of_group}
use Rattle.rules.specs.Reach.{reach, input_changed, disturbed, touched}
use Rattle.rules.specs.Kept.{kept}
use Rattle.rules.specs.Run.{StoredAll, store_all}
use Rattle.rules.proofs.State.{rail_value}
use Rattle.rules.proofs.Reach.{reached_group}
use Rattle.net.specs.Net.{letters_place, at, net_circuit}
use Rattle.net.proofs.Laying.{nodes_length}
use Rattle.net.specs.Roots.{roots_length, change_place}
use Rattle.plain.specs.Exceeded.{change_or_exceeded}
use Rattle.plain.specs.Ready.{Net, Noded}
use Rattle.prepare.proofs.Reading.{laid_legal}
use Rattle.functions.specs.Open.{Open}
use Rattle.plain.specs.Shown.{changed_at, input_changed_at, disturbed_at}
use Rattle.plain.proofs.Values.{wired}
use Rattle.plain.specs.Settle.{pending_after}
use Rattle.descent.specs.Settle.{leaf_at}
use Rattle.descent.proofs.Channels.{leaf_value}
use Rattle.attempt.specs.Change.{pending_in, before_state, after_state, change_from}
use Rattle.attempt.proofs.Prepared.{leaf_at_lem}
use Rattle.values.specs.All.{OutcomeAll}
use Rattle.stir.specs.Rest.{stirred_by, stirred_for, past_of, rest_of}
use Rattle.marked.specs.Changes.{entries_for, change_of}
use Rattle.marked.proofs.Placed.{entries_long, entries_before, entries_after, entries_change}
use Rattle.marked.proofs.Entries.{StepEntries}
use Rattle.marked.proofs.Preparing.{nodes_stored, same_cond}

-- tests that fail where others fail
or_none : (a b x y : Bool) → (a ≡ false → x ≡ false) → (b ≡ false → y ≡ false) → (a || b) ≡ false → (x || y) ≡ false
or_none true b x y f g e = absurd (true≢false e)
or_none false b x y f g e = rw (f refl, g e) refl

and_none : (i b y : Bool) → (b ≡ false → y ≡ false) → (i && b) ≡ false → (i && y) ≡ false
and_none true b y g e = g e
and_none false b y g e = refl

and_last_lem : (i b : Bool) → b ≡ false → (i && b) ≡ false
and_last_lem true b e = e
and_last_lem false b e = refl

some_none : (f g : Transistor → Bool) (ts : List Transistor) → ((i : ℕ) → i < length ts → f (get_or ts i no_transistor) ≡ false → g (get_or ts i no_transistor) ≡ false)
    → some f ts ≡ false → some g ts ≡ false
unfolding some
some_none f g [] h e = refl
some_none f g (t ∷ ts) h e = or_none (f t) (some f ts) (g t) (some g ts) (h zero (omega arith)) (some_none f g ts (λ i l. h (suc i) (omega arith))) e

module _ {net : List ℕ} (cell : Net net) {k : ℕ} {t : Table} {used : ℕ} {before after pending : List ℕ} (e : StepEntries k t used before after pending) where
  abbrev c : Circuit
  c = net_circuit net

  size : length c.nodes ≡ at net 0
  size = nodes_length net

  few_nodes : at net 0 ≤ 24
  few_nodes = cell.within.nodes

  module _ (time n p : ℕ) where
    abbrev change : ℕ
    change = get_or pending n 0

    abbrev entries : List ℕ
    entries = entries_for before after pending n

    abbrev numbers : List ℕ
    numbers = leaf_at k t entries p

    abbrev first : State
    first = before_state c numbers

    abbrev then : State
    then = after_state c time numbers

    entry_at_lem : (j : ℕ) → j < roots_length → get_or numbers j 0 ≡ number_at k t (get_or entries j 0) p
    entry_at_lem j h = leaf_at_lem k t entries p j (omega (arith, entries_long before after change e.first.long e.second.long))

    before_value : (j : ℕ) → 2 ≤ j → j < 2 + length c.nodes → value_at first j ≡ number_at k t (get_or before j 0) p
    before_value j l h =
        leaf_value c 0 numbers j (record { least = l; most = h })
        ∙ entry_at_lem j (omega (arith, size, few_nodes))
        ∙ ap (λ (x : ℕ). number_at k t x p) (entries_before before after change e.first.long e.second.long j (omega (arith, size, few_nodes)))

    after_value : (j : ℕ) → 2 ≤ j → j < 2 + length c.nodes → value_at then j ≡ number_at k t (get_or after j 0) p
    after_value j l h =
        leaf_value c (pending_in time numbers) (drop 26 numbers) j (record { least = l; most = h })
        ∙ get_or-drop 26 numbers j 0
        ∙ entry_at_lem (26 + j) (omega (arith, size, few_nodes))
        ∙ ap (λ (x : ℕ). number_at k t x p) (entries_after before after change e.first.long e.second.long j (omega (arith, size, few_nodes)))

    -- a node with one entry before and after has one value
    still : (j : ℕ) → j < 2 + length c.nodes → changed_at before after j ≡ false → changed first then j ≡ false
    still j h q =
        let same : get_or before j 0 ≡ get_or after j 0 = eqb-true (get_or before j 0) (get_or after j 0) (not-false _ q) in
        let values : value_at first j ≡ value_at then j =
        ⊎_elim
        (λ (r : j < 2). rail_value first j r ∙ sym (rail_value then j r))
        (λ (l : 2 ≤ j). before_value j l h ∙ ap (λ (x : ℕ). number_at k t x p) same ∙ sym (after_value j l h))
        (lt_or_ge j 2) in
        ap not (eq-eqb (value_at first j) (value_at then j) values)

    undisturbed : (i : ℕ) → i < length c.transistors → disturbed_at c before after (get_or c.transistors i no_transistor) ≡ false → disturbed c first then (get_or c.transistors i no_transistor) ≡ false
    undisturbed i h q =
        let u : Transistor = get_or c.transistors i no_transistor in
        let w = wired net cell i h in
        or_none (changed_at before after u.gate || input_changed_at c before after u.first) (input_changed_at c before after u.second) (changed first then u.gate || input_changed c first then u.first) (input_changed c first then u.second)
        (or_none (changed_at before after u.gate) (input_changed_at c before after u.first) (changed first then u.gate) (input_changed c first then u.first) (still u.gate w.gate)
        (and_none (is_input c u.first) (changed_at before after u.first) (changed first then u.first) (still u.first w.first)))
        (and_none (is_input c u.second) (changed_at before after u.second) (changed first then u.second) (still u.second w.second)) q

    -- in a group that has nothing that stirs nothing is disturbed
    group_still : stirred_for c before after n ≡ false → touched c (groups c) first then n ≡ false
    unfolding touched
    group_still quiet =
        some_none (λ (u : Transistor). of_group c n u && disturbed_at c before after u) (λ (u : Transistor). of_group c n u && disturbed c first then u) c.transistors
        (λ i h. and_none (of_group c n (get_or c.transistors i no_transistor)) (disturbed_at c before after (get_or c.transistors i no_transistor)) (disturbed c first then (get_or c.transistors i no_transistor)) (undisturbed i h)) quiet

    module _ (node : Noded net n) where
      -- beyond the group nothing reaches, so the node is not reconsidered
      untouched : stirred_for c before after n ≡ false → touched c (reach c first then) first then n ≡ false
      untouched quiet =
          ⊎_elim
          (λ (q : touched c (reach c first then) first then n ≡ true).
          true_false (touched c (groups c) first then n) (reached_group c (laid_legal net cell) first then n (record { least = node.least; most = omega (arith, node.most, size) }) q) (group_still quiet))
          (λ (q : touched c (reach c first then) first then n ≡ false). q)
          (bool_cases (touched c (reach c first then) first then n))

      -- and its pending change stays, but for T
      from_rest : stirred_for c before after n ≡ false → change_from c time false n numbers ≡ past_of time k t change p
      unfolding change_from
      from_rest quiet =
          ap (λ (b : Bool). cond b (change_or_exceeded c time then (kept c then) n) (pending_in time numbers)) (and_last_lem (is_inner c n) (touched c (reach c first then) first then n) (untouched quiet))
          ∙ ap (pending_after time) (entry_at_lem change_place (omega arith) ∙ ap (λ (x : ℕ). number_at k t x p) (entries_change before after change e.first.long e.second.long))

      pub rest_change : (all : Bool) → (is_inner (net_circuit net) n ≡ true → (all ≡ false) × (stirred_for (net_circuit net) before after n ≡ false))
          → rest_of (net_circuit net) time k t pending n p ≡ change_of (net_circuit net) time all k t before after pending n p
      rest_change all quiet = same_cond (is_inner c n) _ _ _ (λ inner. rw (quiet inner).0 (sym (from_rest (quiet inner).1)))

-- where nothing is stirred nothing is stirred for a node
none_for : (c : Circuit) (before after : List ℕ) (n : ℕ) → stirred_by c before after ≡ false → stirred_for c before after n ≡ false
none_for c before after n =
    some_none (disturbed_at c before after) (λ (u : Transistor). of_group c n u && disturbed_at c before after u) c.transistors
    (λ i h q. and_last_lem (of_group c n (get_or c.transistors i no_transistor)) (disturbed_at c before after (get_or c.transistors i no_transistor)) q)

-- what is stored at rest is what is stored by the entries
pub rest_stored : {net l w h ix : List ℕ} {used : ℕ} (cell : Net net) → Open (at net letters_place) l w h ix used → {before after pending : List ℕ}
    (e : StepEntries (at net letters_place) (held l w h used) used before after pending) (time : ℕ) {all : Bool} → all ≡ false → stirred_by (net_circuit net) before after ≡ false
    → {l1 w1 h1 ix1 : List ℕ} {stop : Stop} {most : ℕ} {out : List ℕ}
    → OutcomeAll (held l w h used) (store_all (at net letters_place) (map (rest_of (net_circuit net) time (at net letters_place) (held l w h used) pending) (node_numbers (net_circuit net))) (held l w h used)) l1 w1 h1 ix1 stop most out
    → OutcomeAll (held l w h used) (store_all (at net letters_place) (map (change_of (net_circuit net) time all (at net letters_place) (held l w h used) before after pending) (node_numbers (net_circuit net))) (held l w h used)) l1 w1 h1 ix1 stop most out
rest_stored {net} {l} {w} {h} {used = used} cell o {before} {after} {pending} e time {all} off quiet {l1} {w1} {h1} {ix1} {stop} {most} {out} =
    let t : Table = held l w h used in
    subst (λ (s : StoredAll). OutcomeAll t s l1 w1 h1 ix1 stop most out)
    (nodes_stored (at net letters_place) (rest_of (net_circuit net) time (at net letters_place) t pending) (change_of (net_circuit net) time all (at net letters_place) t before after pending) (length (net_circuit net).nodes) t
    (λ n p least less q. rest_change cell e time n p (record { least = least; most = omega (arith, nodes_length net) }) all (λ _. (off, none_for (net_circuit net) before after n quiet))))
