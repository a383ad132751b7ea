-- From the values and the next changes that were stored to the moment of a start or a step.
use mathlib.Core.Path.{◌≡◌, refl, sym, ◌∙◌, ap, subst}
use mathlib.Core.List.{List, map}
use mathlib.Core.Bool.{true, false}
use Prim.Native.Nat.{ℕ, ◌+◌, ◌-◌, ◌≤◌, ◌<◌}
use native.Mathlib.Omega.{arith}
use lib.ListN.{length, get_or, length-map}
use lib.Dec.{ltb}
use Rattle.lists.specs.Padded.{padded}
use Rattle.lists.proofs.Padded.{padded_read}
use Rattle.lists.proofs.Cases.{true_false}
use Rattle.format.specs.Circuit.{Circuit}
use Rattle.format.specs.Legal.{most_nodes}
use Rattle.lists.proofs.Map.{map_at}
use Rattle.diagram.specs.Pattern.{most_letters, patterns}
use Rattle.diagram.specs.Table.{Table, number_at}
use Rattle.diagram.specs.Held.{held}
use Rattle.diagram.proofs.Sound.{Sound}
use Rattle.diagram.specs.Extends.{Extends}
use Rattle.table.specs.declared.Stop.{Stop}
use Rattle.table.specs.Stop.{stopped, full_if}
use Rattle.table.proofs.Stops.{stop_more}
use Rattle.table.proofs.Outcomes.{holds_table, kept_extends}
use Rattle.functions.specs.Open.{Open}
use Rattle.functions.proofs.Carry.{open_next}
use Rattle.rules.specs.State.{State, value_at, change_at, node_numbers}
use Rattle.rules.specs.Run.{StoredAll, store_all, moment_of}
use Rattle.rules.proofs.State.{Numbered, up_length, up_at}
use Rattle.rules.proofs.StoreAll.{no_function, AreStored, all_stored}
use Rattle.rules.proofs.Moment.{each_node, stored_values}
use Rattle.record.specs.declared.Run.{Run}
use Rattle.record.specs.Record.{record_of}
use Rattle.values.specs.All.{OutcomeAll}
use Rattle.moment.specs.ByNode.{Gathers}
use Rattle.moment.specs.Next.{NextAs}
use Rattle.moment.proofs.Storing.{stored_alike}

-- no room for the next changes
pub gathers_none : {time : ℕ} {values : List ℕ} {stop : Stop} {used : ℕ} {changes : List ℕ} {none : Stop} {r : Run} → none ≡ stop → stopped stop ≡ true
    → Gathers time values stop used changes none r
gathers_none {stop = stop} e q = record { none_is = e; run_is = λ z. true_false (stopped stop) q z }

module _ (c : Circuit) (time : ℕ) (states : ℕ → State) (t : Table) (few : c.letters ≤ most_letters) (s : Sound c.letters t) where
  abbrev vs : StoredAll
  vs = stored_values c states t

  abbrev cs : StoredAll
  cs = store_all c.letters (each_node c change_at states) vs.table

  stored : AreStored c.letters (each_node c value_at states) t vs
  stored = all_stored (each_node c value_at states) t few s

  moment_table : (moment_of c time states t).table ≡ cs.table
  unfolding moment_of
  moment_table = refl

  moment_record : record_of (moment_of c time states t).run ≡ record { time = time; used = length cs.table; values = padded most_nodes 0 vs.entries; changes = padded most_nodes 0 cs.entries }
  unfolding moment_of
  moment_record = refl

  moment_longer : length vs.table ≤ length (moment_of c time states t).table
  moment_longer = rw moment_table (all_stored (each_node c change_at states) vs.table few stored.sound).extends.longer

  module _ {l w h ix : List ℕ} {stop : Stop} {used : ℕ} {entries : List ℕ} (o : OutcomeAll t (stored_values c states t) l w h ix stop used entries) where
    -- where the values do not fit, nothing does
    pub values_over : stopped stop ≡ true → {none : Stop} (r : Run) → none ≡ stop → NextAs t (moment_of c time states t) l w h ix none r
    values_over e {none} r q =
        let over : stopped none ≡ true = ap stopped q ∙ e in
        record {
          stop_is = q ∙ stop_more (length l) (length vs.table) o.stop_is e (length (moment_of c time states t).table) moment_longer;
          run_is = λ z. true_false (stopped none) over z;
          holds = λ z. true_false (stopped none) over z;
          kept = o.kept;
        }

    module _ (fits : stopped stop ≡ false) where
      -- the table that the values left
      pub mid_table : held l w h used ≡ vs.table
      mid_table = holds_table (o.holds fits)

      pub mid_sound : Sound c.letters (held l w h used)
      mid_sound = rw mid_table stored.sound

      pub mid_extends : Extends t (held l w h used)
      mid_extends = rw mid_table stored.extends

      pub mid_long : length (held l w h used) ≡ used
      mid_long = ap length mid_table ∙ sym (o.holds fits).long

      pub mid_open : Open c.letters l w h ix used
      mid_open = open_next few stored.sound (o.holds fits)

      mid_entry : (i : ℕ) → get_or entries i 0 ≡ get_or vs.entries i 0
      mid_entry i = ap (λ (es : List ℕ). get_or es i 0) (o.entries_are fits) ∙ padded_read most_nodes 0 vs.entries i

      count : length (each_node c value_at states) ≡ length c.nodes
      count = length-map (node_numbers c) (λ (n : ℕ) (p : ℕ). value_at (states p) n) ∙ up_length (length c.nodes) 2

      -- the values' entries are in it
      pub mid_within : (i : ℕ) → i < length c.nodes → get_or entries i 0 < length (held l w h used)
      mid_within i k = rw (mid_table, mid_entry i) (stored.within i (omega (arith, count)))

      -- and have the values for numbers
      pub mid_number : (m : ℕ) → Numbered c m → (p : ℕ) → p < patterns c.letters → number_at c.letters (held l w h used) (get_or entries (m - 2) 0) p ≡ value_at (states p) m
      mid_number m k p b =
          let i : m - 2 < length c.nodes = omega (arith, k.least, k.most) in
          let e : 2 + (m - 2) ≡ m = omega (arith, k.least) in
          rw (mid_table, mid_entry (m - 2))
          (stored.number (m - 2) (omega (arith, count)) p b
          ∙ ap (λ (f : ℕ → ℕ). f p) (map_at {B = ℕ → ℕ} (λ (n : ℕ) (q : ℕ). value_at (states q) n) (node_numbers c) 0 no_function (m - 2) (omega (arith, up_length (length c.nodes) 2)))
          ∙ ap (value_at (states p)) (up_at (length c.nodes) 2 (m - 2) 0 i ∙ e))

      -- the next changes after the values are the moment
      pub mid_next : {f : ℕ → ℕ → ℕ} {l₂ w₂ h₂ ix₂ : List ℕ} {stop₂ : Stop} {used₂ : ℕ} {entries₂ : List ℕ} {none : Stop} {r : Run}
          → ((n : ℕ) → Numbered c n → (p : ℕ) → p < patterns c.letters → f n p ≡ change_at (states p) n)
          → OutcomeAll (held l w h used) (store_all c.letters (map f (node_numbers c)) (held l w h used)) l₂ w₂ h₂ ix₂ stop₂ used₂ entries₂
          → Gathers time entries stop₂ used₂ entries₂ none r
          → NextAs t (moment_of c time states t) l₂ w₂ h₂ ix₂ none r
      mid_next {f} {l₂} {w₂} {h₂} {ix₂} {stop₂} {used₂} {entries₂} {none} {r} same o₂ g =
          let alike : store_all c.letters (map f (node_numbers c)) (held l w h used) ≡ cs =
          stored_alike c c.letters f (λ (n : ℕ) (p : ℕ). change_at (states p) n) (held l w h used) same
          ∙ ap (store_all c.letters (each_node c change_at states)) mid_table in
          let q : OutcomeAll (held l w h used) cs l₂ w₂ h₂ ix₂ stop₂ used₂ entries₂ =
          subst (λ (z : StoredAll). OutcomeAll (held l w h used) z l₂ w₂ h₂ ix₂ stop₂ used₂ entries₂) alike o₂ in
          let fit : stopped none ≡ false → stopped stop₂ ≡ false = λ z. ap stopped (sym g.none_is) ∙ z in
          let own : stopped none ≡ false → r ≡ record_of (moment_of c time states t).run =
          λ z. g.run_is (fit z)
          ∙ (λ i. record { time = time; used = (q.holds (fit z)).long i; values = o.entries_are fits i; changes = q.entries_are (fit z) i })
          ∙ sym moment_record in
          record {
            stop_is = g.none_is ∙ q.stop_is ∙ ap (λ (u : Table). full_if (ltb (length l₂) (length u))) (sym moment_table);
            run_is = own;
            holds = λ z.
                let e : r.used ≡ used₂ = ap (λ (x : Run). x.used) (g.run_is (fit z)) in
                rw (moment_table, e) (q.holds (fit z));
            kept = kept_extends mid_extends q.kept;
          }
