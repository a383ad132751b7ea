-- A start and a step of the cell that a flat column lays out: what their calls require, and what they leave.
use mathlib.Core.Path.{◌≡◌, sym, ap, subst}
use mathlib.Core.List.{List, map}
use mathlib.Core.Bool.{true, false}
use Prim.Native.Nat.{ℕ, ◌≤◌, ◌<◌}
use native.Mathlib.Omega.{arith}
use lib.ListN.{length, get_or, replicate}
use Rattle.format.specs.Circuit.{Circuit}
use Rattle.diagram.specs.Pattern.{most_letters, patterns}
use Rattle.diagram.specs.Table.{Table, never}
use Rattle.diagram.specs.Held.{held}
use Rattle.diagram.proofs.Sound.{Sound}
use Rattle.table.specs.declared.Stop.{Stop}
use Rattle.table.specs.Stop.{stopped}
use Rattle.functions.specs.Open.{Open}
use Rattle.functions.proofs.Carry.{legible_sound, legible_long}
use Rattle.rules.specs.State.{value_at, change_at, node_numbers}
use Rattle.rules.specs.Step.{stepped, started}
use Rattle.rules.specs.Run.{state_of, store_all, moment_of, time_after, run_sound}
use Rattle.rules.proofs.State.{Numbered}
use Rattle.rules.proofs.Moment.{RunSound, run_record, legal_few, stored_values}
use Rattle.net.specs.Net.{nodes_place, letters_place, at, net_circuit}
use Rattle.net.specs.Laid.{Laid}
use Rattle.net.proofs.Laying.{nodes_length, letters_at}
use Rattle.plain.specs.Settle.{started_or_exceeded, stepped_or_exceeded}
use Rattle.record.specs.declared.Run.{Run}
use Rattle.record.specs.Record.{run_of}
use Rattle.record.specs.Moments.{moment_held}
use Rattle.record.specs.Leasts.{Leasts}
use Rattle.values.specs.All.{OutcomeAll}
use Rattle.stir.specs.Pending.{PendingEntries, PendingLeasts}
use Rattle.marked.specs.Changes.{change_of, ValueEntries}
use Rattle.moment.specs.Exceeded.{start_or_exceeded, step_or_exceeded}
use Rattle.moment.specs.ByNode.{ByNode, Gathers}
use Rattle.moment.specs.Next.{NextAs}
use Rattle.moment.proofs.Moments.{values_over, mid_open, mid_next}
use Rattle.moment.proofs.Entries.{after, step_entries, step_leasts, step_functions, start_entries, start_leasts, start_functions}

-- as many node records as the column counts
by_count : (net : List ℕ) {ground supply : ℕ} {entries out : List ℕ} → ByNode ground supply entries (at net nodes_place) out → ByNode ground supply entries (length (net_circuit net).nodes) out
by_count net b = rw (nodes_length net) b

module _ {net l w h ix : List ℕ} {old : ℕ} (k : Laid (net_circuit net) net) (io : Open (at net letters_place) l w h ix old) where
  abbrev c : Circuit
  c = net_circuit net

  abbrev t : Table
  t = held l w h old

  few : c.letters ≤ most_letters
  few = legal_few k.legal

  -- the node records are few
  pub nodes_few : at net nodes_place ≤ 24
  nodes_few = k.within.nodes

  nodes : length c.nodes ≤ 24
  nodes = omega (arith, nodes_length net, nodes_few)

  sound : Sound c.letters t
  sound = subst (λ (m : ℕ). Sound m t) (sym (letters_at net)) (legible_sound io.legible)

  -- a start whose values are stored
  module _ {l₁ w₁ h₁ ix₁ : List ℕ} {stop : Stop} {used : ℕ} {entries : List ℕ}
      (o : OutcomeAll (held l w h old) (store_all (at net letters_place) (map (λ (n : ℕ) (p : ℕ). value_at (started (net_circuit net) p) n) (node_numbers (net_circuit net))) (held l w h old)) l₁ w₁ h₁ ix₁ stop used entries) where
    firsts : OutcomeAll t (stored_values c (started_or_exceeded c) t) l₁ w₁ h₁ ix₁ stop used entries
    unfolding started started_or_exceeded
    firsts =
        subst
        (λ (m : ℕ). OutcomeAll t (store_all m (map (λ (n : ℕ) (p : ℕ). value_at (started c p) n) (node_numbers c)) t) l₁ w₁ h₁ ix₁ stop used entries)
        (sym (letters_at net)) o

    -- without room
    pub start_over : stopped stop ≡ true → {none : Stop} (r : Run) → none ≡ stop → NextAs (held l w h old) (start_or_exceeded (net_circuit net) (held l w h old)) l₁ w₁ h₁ ix₁ none r
    unfolding start_or_exceeded
    start_over e r q = values_over c 0 (started_or_exceeded c) t few sound firsts e r q

    module _ (fits : stopped stop ≡ false) {oa : List ℕ} (a : ByNode 0 1 entries (at net nodes_place) oa) where
      pub start_open : Open (at net letters_place) l₁ w₁ h₁ ix₁ used
      start_open = subst (λ (m : ℕ). Open m l₁ w₁ h₁ ix₁ used) (letters_at net) (mid_open c 0 (started_or_exceeded c) t few sound firsts fits)

      pub start_requires : ValueEntries (at net letters_place) (held l₁ w₁ h₁ used) used oa × ValueEntries (at net letters_place) (held l₁ w₁ h₁ used) used oa × PendingEntries used (replicate 26 2)
      start_requires =
          let u : Table = held l₁ w₁ h₁ used in
          subst (λ (m : ℕ). ValueEntries m u used oa × ValueEntries m u used oa × PendingEntries used (replicate 26 2)) (letters_at net) (start_entries c nodes few t sound firsts fits (by_count net a))

      pub start_pending : {least : List ℕ} → length least ≡ 3 → get_or least 0 0 ≡ 0 → get_or least 1 0 ≡ 1 → get_or least 2 0 ≡ never
          → PendingLeasts (at net letters_place) (held l₁ w₁ h₁ used) (replicate 26 2) least
      start_pending {least} long ground supply rest =
          subst (λ (m : ℕ). PendingLeasts m (held l₁ w₁ h₁ used) (replicate 26 2) least) (letters_at net) (start_leasts c nodes few t sound firsts fits (by_count net a) long ground supply rest)

      -- and its next changes
      pub start_next : {l₂ w₂ h₂ ix₂ : List ℕ} {stop₂ : Stop} {used₂ : ℕ} {entries₂ : List ℕ} {none : Stop} {r : Run}
          → OutcomeAll (held l₁ w₁ h₁ used) (store_all (at net letters_place) (map (change_of (net_circuit net) 0 true (at net letters_place) (held l₁ w₁ h₁ used) oa oa (replicate 26 2)) (node_numbers (net_circuit net))) (held l₁ w₁ h₁ used)) l₂ w₂ h₂ ix₂ stop₂ used₂ entries₂
          → Gathers 0 entries stop₂ used₂ entries₂ none r
          → NextAs (held l w h old) (start_or_exceeded (net_circuit net) (held l w h old)) l₂ w₂ h₂ ix₂ none r
      unfolding start_or_exceeded
      start_next {l₂} {w₂} {h₂} {ix₂} {stop₂} {used₂} {entries₂} o₂ g =
          let u : Table = held l₁ w₁ h₁ used in
          mid_next c 0 (started_or_exceeded c) t few sound firsts fits (start_functions c nodes few t sound firsts fits (by_count net a))
          (subst (λ (m : ℕ). OutcomeAll u (store_all m (map (change_of c 0 true m u oa oa (replicate 26 2)) (node_numbers c)) u) l₂ w₂ h₂ ix₂ stop₂ used₂ entries₂) (sym (letters_at net)) o₂) g

-- a step whose values are stored
module _ {net l w h ix : List ℕ} (r : Run) (k : Laid (net_circuit net) net) (io : Open (at net letters_place) l w h ix r.used)
    (rs : run_sound (net_circuit net) (held l w h r.used) (run_of (net_circuit net) r) ≡ true) {time : ℕ}
    (te : time ≡ time_after (net_circuit net) (moment_held l w h (run_of (net_circuit net) r))) where
  abbrev d : Circuit
  d = net_circuit net

  abbrev v : Table
  v = held l w h r.used

  facts : RunSound d v (run_of d r)
  facts = run_record d v (run_of d r) rs

  moment_is : moment_of d time (after d time v r) v ≡ step_or_exceeded d (moment_held l w h (run_of d r))
  unfolding step_or_exceeded
  moment_is = ap (λ (z : ℕ). moment_of d z (after d z v r) v) te

  module _ {l₁ w₁ h₁ ix₁ : List ℕ} {stop : Stop} {used : ℕ} {entries : List ℕ}
      (o : OutcomeAll (held l w h r.used) (store_all (at net letters_place) (map (λ (n : ℕ) (p : ℕ). value_at (stepped (net_circuit net) time p (state_of (net_circuit net) (held l w h r.used) (run_of (net_circuit net) r) p)) n) (node_numbers (net_circuit net))) (held l w h r.used)) l₁ w₁ h₁ ix₁ stop used entries) where
    values : OutcomeAll v (stored_values d (after d time v r) v) l₁ w₁ h₁ ix₁ stop used entries
    unfolding stepped stepped_or_exceeded
    values =
        subst
        (λ (m : ℕ). OutcomeAll v (store_all m (map (λ (n : ℕ) (p : ℕ). value_at (after d time v r p) n) (node_numbers d)) v) l₁ w₁ h₁ ix₁ stop used entries)
        (sym (letters_at net)) o

    -- without room
    pub step_over : stopped stop ≡ true → {none : Stop} (x : Run) → none ≡ stop
        → NextAs (held l w h r.used) (step_or_exceeded (net_circuit net) (moment_held l w h (run_of (net_circuit net) r))) l₁ w₁ h₁ ix₁ none x
    step_over e x q = rw moment_is at (values_over d time (after d time v r) v (few k io) (sound k io) values e x q)

    module _ (fits : stopped stop ≡ false) {ob oa op : List ℕ} (b : ByNode 0 1 r.values (at net nodes_place) ob) (a : ByNode 0 1 entries (at net nodes_place) oa) (g : ByNode 2 2 r.changes (at net nodes_place) op) where
      pub step_open : Open (at net letters_place) l₁ w₁ h₁ ix₁ used
      step_open = subst (λ (m : ℕ). Open m l₁ w₁ h₁ ix₁ used) (letters_at net) (mid_open d time (after d time v r) v (few k io) (sound k io) values fits)

      pub step_requires : ValueEntries (at net letters_place) (held l₁ w₁ h₁ used) used ob × ValueEntries (at net letters_place) (held l₁ w₁ h₁ used) used oa × PendingEntries used op
      step_requires =
          let u : Table = held l₁ w₁ h₁ used in
          subst (λ (m : ℕ). ValueEntries m u used ob × ValueEntries m u used oa × PendingEntries used op) (letters_at net)
          (step_entries d (nodes k io) (few k io) v (sound k io) r facts time values fits (by_count net b) (by_count net a) (by_count net g))

      pub step_pending : {least : List ℕ} → Leasts (at net letters_place) (held l w h r.used) r.used least → PendingLeasts (at net letters_place) (held l₁ w₁ h₁ used) op least
      step_pending {least} z =
          let whole : Leasts (at net letters_place) v (length v) least = rw (legible_long io.legible) z in
          subst (λ (m : ℕ). PendingLeasts m (held l₁ w₁ h₁ used) op least) (letters_at net)
          (step_leasts d (nodes k io) (few k io) v (sound k io) r facts time values fits (by_count net b) (by_count net a) (by_count net g)
          (subst (λ (m : ℕ). Leasts m v (length v) least) (sym (letters_at net)) whole))

      -- and its next changes
      pub step_next : {l₂ w₂ h₂ ix₂ : List ℕ} {stop₂ : Stop} {used₂ : ℕ} {entries₂ : List ℕ} {none : Stop} {x : Run}
          → OutcomeAll (held l₁ w₁ h₁ used) (store_all (at net letters_place) (map (change_of (net_circuit net) time false (at net letters_place) (held l₁ w₁ h₁ used) ob oa op) (node_numbers (net_circuit net))) (held l₁ w₁ h₁ used)) l₂ w₂ h₂ ix₂ stop₂ used₂ entries₂
          → Gathers time entries stop₂ used₂ entries₂ none x
          → NextAs (held l w h r.used) (step_or_exceeded (net_circuit net) (moment_held l w h (run_of (net_circuit net) r))) l₂ w₂ h₂ ix₂ none x
      step_next {l₂} {w₂} {h₂} {ix₂} {stop₂} {used₂} {entries₂} o₂ q =
          let u : Table = held l₁ w₁ h₁ used in
          let same : (n : ℕ) → Numbered d n → (p : ℕ) → p < patterns d.letters → change_of d time false d.letters (held l₁ w₁ h₁ used) ob oa op n p ≡ change_at (after d time v r p) n =
          step_functions d (nodes k io) (few k io) v (sound k io) r facts time values fits (by_count net b) (by_count net a) (by_count net g) in
          rw moment_is at (mid_next d time (after d time v r) v (few k io) (sound k io) values fits same
          (subst (λ (m : ℕ). OutcomeAll u (store_all m (map (change_of d time false m u ob oa op) (node_numbers d)) u) l₂ w₂ h₂ ix₂ stop₂ used₂ entries₂) (sym (letters_at net)) o₂) q)
