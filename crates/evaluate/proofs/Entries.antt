-- Entries by which a node is evaluated: their numbers at a pattern, entries that are terminals, and entries in an extended table.
use mathlib.Core.Path.{◌≡◌, sym, ◌∙◌, ap, subst}
use mathlib.Core.Logic.{⊎_elim}
use mathlib.Core.List.{List}
use mathlib.Core.Bool.{Bool}
use Prim.Native.Nat.{ℕ, ◌<◌, ◌≤◌}
use native.Mathlib.Omega.{arith}
use lib.ListN.{length, get_or, length-map}
use lib.Seq.{ext_get_or}
use lib.Pow.{pow_pos}
use Rattle.lists.proofs.Cases.{eq_or_ne}
use Rattle.format.specs.Circuit.{Circuit}
use Rattle.diagram.specs.Pattern.{patterns}
use Rattle.diagram.specs.Table.{Table, terminal_letter, branch, entry_at, number_at}
use Rattle.diagram.specs.Store.{add, store}
use Rattle.diagram.specs.Held.{held}
use Rattle.diagram.proofs.Sound.{Sound}
use Rattle.diagram.specs.Extends.{Extends}
use Rattle.diagram.proofs.Number.{number_zeroth, number_first, number_terminal, number_at_extends}
use Rattle.diagram.proofs.Store.{store_number}
use Rattle.diagram.proofs.Shannon.{numbers_at}
use Rattle.net.specs.Roots.{roots_length}
use Rattle.table.specs.declared.Put.{Put}
use Rattle.table.specs.Holds.{Outcome}
use Rattle.functions.specs.Open.{Open}
use Rattle.functions.proofs.Carry.{legible_sound, letter_at_lem, low_at, branch_letter}
use Rattle.descent.specs.Settle.{leaf_at}
use Rattle.descent.specs.Descend.{Entries, NumbersOf}
use Rattle.attempt.specs.Change.{change_from, change_by}
use Rattle.attempt.specs.Entries.{Evaluable}
use Rattle.evaluate.specs.Numbers.{Numbers}

-- so a node is evaluated by them there too
pub evaluable_extends : {k : ℕ} {t u : Table} {old used left : ℕ} {es : List ℕ} → k ≤ 12 → Sound k t → Extends t u → length t ≡ old → length u ≡ used
    → Evaluable k t old left es → Evaluable k u used left es
evaluable_extends {k} {t} {u} {old} {used} {left} {es} few s x lt lu e = record {
  long = e.long;
  operand = λ j h.
      let o = e.operand j h in
      record {
        within = omega (arith, o.within, x.longer);
        from = rw (x.kept (get_or es j 0) (omega (arith, o.within))) o.from;
      };
  ground_before = e.ground_before;
  supply_before = e.supply_before;
  ground_after = e.ground_after;
  supply_after = e.supply_after;
  bits = λ j p h g. rw (number_at_extends (get_or es j 0) p few s x (omega (arith, (e.operand j (omega arith)).within))) (e.bits j p h g);
}

-- and with more letters
pub evaluable_more : {k : ℕ} {t : Table} {used left more : ℕ} {es : List ℕ} → left ≤ more → Evaluable k t used left es → Evaluable k t used more es
evaluable_more le e = record {
  long = e.long;
  operand = λ j h. record { within = (e.operand j h).within; from = omega (arith, (e.operand j h).from) };
  ground_before = e.ground_before;
  supply_before = e.supply_before;
  ground_after = e.ground_after;
  supply_after = e.supply_after;
  bits = e.bits;
}

module _ {k : ℕ} {l w h ix : List ℕ} {used left : ℕ} {es : List ℕ} (o : Open k l w h ix used) (e : Evaluable k (held l w h used) used left es) where
  abbrev t : Table
  t = held l w h used

  sound : Sound k t
  sound = legible_sound o.legible

  few : k ≤ 12
  few = o.legible.few

  -- they are entries of each column
  pub evaluable_entries : (column : List ℕ) → length column ≡ length l → Entries column es
  evaluable_entries column q = record { long = e.long; within = λ j g. omega (arith, (e.operand j g).within, o.legible.fits) }

  -- the number of a known entry
  known : (p j x v : ℕ) → j < roots_length → get_or es j 0 ≡ x → number_at k t x p ≡ v → get_or (leaf_at k t es p) j 0 ≡ v
  known p j x v g at is = numbers_at k t es p j (omega (arith, e.long)) ∙ ap (λ (i : ℕ). number_at k t i p) at ∙ is

  -- at every pattern their numbers are those of a pattern
  pub evaluable_numbers : (p : ℕ) → p < patterns k → Numbers (leaf_at k (held l w h used) es p)
  evaluable_numbers p g = record {
    long = length-map es (λ (i : ℕ). number_at k t i p) ∙ e.long;
    ground_before = known p 0 0 0 (omega arith) e.ground_before (number_zeroth t p few sound);
    supply_before = known p 1 1 1 (omega arith) e.supply_before (number_first t p few sound);
    ground_after = known p 26 0 0 (omega arith) e.ground_after (number_zeroth t p few sound);
    supply_after = known p 27 1 1 (omega arith) e.supply_after (number_first t p few sound);
    bits = λ j q. rw (numbers_at k t es p j (omega (arith, e.long))) (e.bits j p q g);
  }

-- no letter is left: the entries are terminals
module _ {k : ℕ} {l w h ix : List ℕ} {used : ℕ} {es : List ℕ} (o : Open k l w h ix used) (e : Evaluable k (held l w h used) used 0 es) where
  abbrev t0 : Table
  t0 = held l w h used

  all_terminals : (j : ℕ) → j < roots_length → (entry_at t0 (get_or es j 0)).letter ≡ terminal_letter
  all_terminals j g =
      let i : ℕ = get_or es j 0 in
      let in-columns : i < used = (e.operand j g).within in
      letter_at_lem o.legible i in-columns
      ∙ ⊎_elim
      (λ (q : get_or l i 0 ≡ terminal_letter). q)
      (λ (q : get_or l i 0 ≡ terminal_letter → ⊥). absurd (omega (arith, branch_letter o.legible i in-columns q, (e.operand j g).from, letter_at_lem o.legible i in-columns)))
      (eq_or_ne (get_or l i 0) terminal_letter)

  module _ {out : List ℕ} (f : NumbersOf w es out) where
    -- whose numbers are the same at every pattern
    same_numbers : (p : ℕ) → out ≡ leaf_at k t0 es p
    same_numbers p =
        ext_get_or 0 out (leaf_at k t0 es p) (f.long ∙ sym (length-map es (λ (i : ℕ). number_at k t0 i p) ∙ e.long))
        (λ j g.
        let small : j < roots_length = omega (arith, f.long) in
        f.is j small
        ∙ sym (numbers_at k t0 es p j (omega (arith, e.long))
        ∙ number_terminal k 0 t0 (get_or es j 0) p (omega (arith, o.legible.few)) (all_terminals j small)
        ∙ low_at o.legible (get_or es j 0) (e.operand j small).within))

    pub leaf_numbers_are : Numbers out
    leaf_numbers_are = subst Numbers (sym (same_numbers 0)) (evaluable_numbers o e 0 (pow_pos k))

    -- and so is what they come to
    pub leaf_stored : (c : Circuit) (time : ℕ) (all : Bool) (n v : ℕ) {l1 w1 h1 ix1 : List ℕ} {r : Put} → v ≡ change_from c time all n out
        → Outcome (held l w h used) (add (branch terminal_letter v 0) (held l w h used)) l1 w1 h1 ix1 r
        → Outcome (held l w h used) (store k 0 (change_by c time all n k (held l w h used) es) (held l w h used)) l1 w1 h1 ix1 r
    leaf_stored c time all n v q done = rw (store_number k 0 v (change_by c time all n k t0 es) t0 (λ p _. ap (change_from c time all n) (sym (same_numbers p)) ∙ sym q)) done
