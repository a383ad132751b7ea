-- Entries by halves: letter m, which is not behind any of them, at 0 and at 1.
use mathlib.Core.Path.{◌≡◌, sym, ◌∙◌, ap, subst}
use mathlib.Core.List.{List}
use mathlib.Core.Bool.{Bool, false}
use Prim.Native.Nat.{ℕ, ◌-◌, ◌<◌, ◌≤◌}
use native.Mathlib.Omega.{arith}
use lib.ListN.{length, get_or, length-map}
use Rattle.lists.proofs.Map.{map_at}
use Rattle.format.specs.Circuit.{Circuit}
use Rattle.diagram.specs.Pattern.{with_letter}
use Rattle.diagram.specs.Table.{Entry, Table, terminal_letter, entry_at, part_of}
use Rattle.diagram.specs.Store.{store}
use Rattle.diagram.specs.Held.{held}
use Rattle.diagram.proofs.Sound.{Sound}
use Rattle.diagram.proofs.Number.{part_self, part_within, part_larger}
use Rattle.diagram.proofs.Pattern.{with_lt}
use Rattle.diagram.proofs.Values.{number_part}
use Rattle.diagram.proofs.Store.{store_ext, store_stored}
use Rattle.diagram.proofs.Shannon as shannon
use Rattle.net.specs.Roots.{roots_length}
use Rattle.table.specs.declared.Put.{Put}
use Rattle.table.specs.Stop.{stopped}
use Rattle.table.specs.Holds.{Outcome}
use Rattle.table.proofs.Outcomes.{holds_table}
use Rattle.functions.specs.Open.{Open, Operand}
use Rattle.functions.proofs.Carry.{legible_sound, legible_long, letter_at_lem, low_at, high_at}
use Rattle.functions.proofs.Halving.{Halves}
use Rattle.descent.specs.Descend.{HalfOf}
use Rattle.descent.proofs.Going.{by_roots}
use Rattle.attempt.specs.Change.{change_from, change_by}
use Rattle.attempt.specs.Entries.{Evaluable}
use Rattle.evaluate.proofs.Entries.{evaluable_extends}

module _ {k : ℕ} {l w h ix : List ℕ} {used left : ℕ} {es : List ℕ} (o : Open k l w h ix used) (e : Evaluable k (held l w h used) used left es)
    (some : 1 ≤ left) (most : left ≤ k) {m : ℕ} (letter : m ≡ k - left) where
  abbrev t : Table
  t = held l w h used

  sound : Sound k t
  sound = legible_sound o.legible

  few : k ≤ 12
  few = o.legible.few

  long : length t ≡ used
  long = legible_long o.legible

  small : m < k
  small = omega arith

  terminal_past : m < terminal_letter
  terminal_past = omega (arith, small, few)

  within : (j : ℕ) → j < roots_length → get_or es j 0 < length t
  within j g = omega (arith, (e.operand j g).within, long)

  from_letter : (j : ℕ) → j < roots_length → m ≤ (entry_at t (get_or es j 0)).letter
  from_letter j g = omega (arith, (e.operand j g).from)

  -- a terminal is its own part
  terminal_part : (bit x : ℕ) → (entry_at t x).letter ≡ terminal_letter → part_of t m bit x ≡ x
  terminal_part bit x at = part_self t m x bit (λ q. omega (arith, terminal_past))

  module _ (bit : ℕ) (one : bit ≤ 1) {out : List ℕ} (half : out ≡ shannon.parts t m bit es) where
    half_at_lem : (j : ℕ) → j < roots_length → get_or out j 0 ≡ part_of t m bit (get_or es j 0)
    half_at_lem j g = ap (λ (xs : List ℕ). get_or xs j 0) half ∙ map_at (part_of t m bit) es 0 0 j (omega (arith, e.long))

    -- a rail's entry stays
    rail_at : (j x : ℕ) → j < roots_length → (entry_at t x).letter ≡ terminal_letter → get_or es j 0 ≡ x → get_or out j 0 ≡ x
    rail_at j x g leaf at = half_at_lem j g ∙ ap (part_of t m bit) at ∙ terminal_part bit x leaf

    -- the halves are as evaluable with one letter less
    half_evaluable : Evaluable k t used (left - 1) out
    half_evaluable =
        let ground : (entry_at t 0).letter ≡ terminal_letter = ap (λ (x : Entry). x.letter) sound.zeroth in
        let supply : (entry_at t 1).letter ≡ terminal_letter = ap (λ (x : Entry). x.letter) sound.first in
        record {
          long = ap length half ∙ length-map es (part_of t m bit) ∙ e.long;
          operand = λ j g.
              subst (Operand k t used (left - 1)) (sym (half_at_lem j g))
              (record {
                within = omega (arith, part_within t m (get_or es j 0) bit sound terminal_past (within j g), long);
                from = omega (arith, part_larger t m (get_or es j 0) bit sound terminal_past (within j g) (from_letter j g));
              });
          ground_before = rail_at 0 0 (omega arith) ground e.ground_before;
          supply_before = rail_at 1 1 (omega arith) supply e.supply_before;
          ground_after = rail_at 26 0 (omega arith) ground e.ground_after;
          supply_after = rail_at 27 1 (omega arith) supply e.supply_after;
          bits = λ j p q g.
              let place : j < roots_length = omega arith in
              rw (half_at_lem j place, number_part t m bit (get_or es j 0) p few sound (within j place) small one (from_letter j place))
              (e.bits j (with_letter m bit p) q (with_lt k m bit p g small one));
        }

  -- the parts by the columns
  low_half : {out : List ℕ} → HalfOf l w es m out → out ≡ shannon.parts t m 0 es
  low_half {out} f =
      by_roots (part_of t m 0) es out e.long f.long
      (λ j g. f.is j g ∙ sym (rw (letter_at_lem o.legible (get_or es j 0) (e.operand j g).within, low_at o.legible (get_or es j 0) (e.operand j g).within)))

  high_half : {out : List ℕ} → HalfOf l h es m out → out ≡ shannon.parts t m 1 es
  high_half {out} f =
      by_roots (part_of t m 1) es out e.long f.long
      (λ j g. f.is j g ∙ sym (rw (letter_at_lem o.legible (get_or es j 0) (e.operand j g).within, high_at o.legible (get_or es j 0) (e.operand j g).within)))

  pub low_evaluable : {out : List ℕ} → HalfOf l w es m out → Evaluable k (held l w h used) used (left - 1) out
  low_evaluable f = half_evaluable 0 (omega arith) (low_half f)

  high_evaluable : {out : List ℕ} → HalfOf l h es m out → Evaluable k t used (left - 1) out
  high_evaluable f = half_evaluable 1 (omega arith) (high_half f)

  all_roots : shannon.Roots t m es
  all_roots = shannon.roots_of t m es (λ j g. (within j (omega (arith, e.long)), from_letter j (omega (arith, e.long))))

  module _ (c : Circuit) (time : ℕ) (all : Bool) (n : ℕ) {a b : List ℕ} (fa : HalfOf l w es m a) (fb : HalfOf l h es m b) where
    -- the halves make the function
    pub halves_stored : Halves k (held l w h used) m (change_by c time all n k (held l w h used) es) (change_by c time all n k (held l w h used) a) (λ u. change_by c time all n k u b)
    halves_stored = record {
      halved = rw (low_half fa, high_half fb) (shannon.store_roots t few sound m (change_from c time all n) es small all_roots);
      stable = λ u v x.
          store_ext k 0 (change_by c time all n k u b) (change_by c time all n k t b) v
          (λ p _.
          let high : Evaluable k t used (left - 1) b = high_evaluable fb in
          ap (change_from c time all n) (shannon.numbers_extend b p few sound x (λ j g. omega (arith, (high.operand j (omega (arith, high.long))).within, long))));
    }

    -- the high halves in what the low ones left
    pub next_evaluable : {l1 w1 h1 ix1 : List ℕ} {p : Put} → Outcome (held l w h used) (store k 0 (change_by c time all n k (held l w h used) a) (held l w h used)) l1 w1 h1 ix1 p → stopped p.stop ≡ false
        → Evaluable k (held l1 w1 h1 p.used) p.used (left - 1) b
    next_evaluable {l1} {w1} {h1} {ix1} {p} done room =
        let held = done.holds room in
        rw (holds_table held) (evaluable_extends few sound (store_stored k 0 (change_by c time all n k t a) t few sound (omega arith)).extends long (sym held.long) (high_evaluable fb))
