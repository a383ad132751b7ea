-- Laws of columns without room: the rows hold the first entries of what was to be stored.
use mathlib.Core.Path.{◌≡◌, sym, ◌∙◌, subst}
use mathlib.Core.List.{List}
use Prim.Native.Nat.{ℕ, ◌<◌, ◌≤◌}
use native.Mathlib.Omega.{arith}
use lib.ListN.{length, take}
use lib.Seq.{get_or-take, length-take-le}
use Rattle.diagram.specs.Pattern.{most_letters}
use Rattle.diagram.specs.Table.{Entry, Table, blank, terminal_letter, entry_at}
use Rattle.diagram.proofs.Sound.{Branch, Legal, Sound}
use Rattle.diagram.specs.Extends.{Extends}
use Rattle.diagram.proofs.Add.{extends_trans}
use Rattle.table.specs.Holds.{Holds}
use Rattle.table.proofs.Outcomes.{holds_table}
use Rattle.functions.proofs.Carry.{open_next}
use Rattle.working.specs.Grown.{Crowded}

-- what a sound table begins with is sound
module _ {letters : ℕ} {t u : Table} (x : Extends t u) (s : Sound letters u) where
  legal_first : (i : ℕ) → i < length t → Legal letters t i (entry_at t i)
  legal_first i lt = record { leaf = own.leaf; node = node }
    where
      own : Legal letters u i (entry_at t i)
      own = subst (λ (y : Entry). Legal letters u i y) (x.kept i lt) (s.legal i (omega (arith, x.longer)))

      larger : (e : ℕ) → e < i → (entry_at t i).letter < (entry_at u e).letter → (entry_at t i).letter < (entry_at t e).letter
      larger e h = subst (λ (y : Entry). (entry_at t i).letter < y.letter) (x.kept e (omega arith))

      node : ((entry_at t i).letter ≡ terminal_letter → ⊥) → Branch letters t i (entry_at t i)
      node n =
          let b : Branch letters u i (entry_at t i) = own.node n in
          record {
            letter_in = b.letter_in;
            low_earlier = b.low_earlier;
            low_later = larger _ b.low_earlier b.low_later;
            high_earlier = b.high_earlier;
            high_later = larger _ b.high_earlier b.high_later;
            differ = b.differ;
          }

  pub sound_first : 3 ≤ length t → Sound letters t
  sound_first three = record {
    three = three;
    zeroth = sym (x.kept 0 (omega arith)) ∙ s.zeroth;
    first = sym (x.kept 1 (omega arith)) ∙ s.first;
    second = sym (x.kept 2 (omega arith)) ∙ s.second;
    legal = legal_first;
    apart = λ i j hi hj e. s.apart i j (omega (arith, x.longer)) (omega (arith, x.longer)) (x.kept i hi ∙ e ∙ sym (x.kept j hj));
  }

-- the first entries of a table
module _ (n : ℕ) (u : Table) (le : n ≤ length u) where
  first_extends : Extends (take n u) u
  first_extends =
      let long : length (take n u) ≡ n = length-take-le n u le in
      record { longer = omega arith; kept = λ i h. sym (get_or-take n u i blank (omega arith)) }

  extends_first : {t : Table} → length t ≤ n → Extends t u → Extends t (take n u)
  extends_first fits x =
      let long : length (take n u) ≡ n = length-take-le n u le in
      record { longer = omega arith; kept = λ i h. get_or-take n u i blank (omega arith) ∙ x.kept i h }

-- columns with the first entries of a sound extension, as many as they have rows
pub crowded_first : {letters : ℕ} {t u : Table} {l w h ix : List ℕ} → letters ≤ most_letters → Sound letters u → Extends t u → 3 ≤ length t → length t ≤ length l → length l ≤ length u → Holds l w h ix (take (length l) u) (length l)
    → Crowded letters t l w h ix
crowded_first {letters} {t} {u} {l} few s x three fits le g =
    let long : length (take (length l) u) ≡ length l = length-take-le (length l) u le in
    record {
      opened = open_next few (sound_first (first_extends (length l) u le) s (omega arith)) g;
      extends = rw (holds_table g) (extends_first (length l) u le fits x);
    }

-- and an extension of what came before
pub crowded_from : {letters : ℕ} {t u : Table} {l w h ix : List ℕ} → Extends u t → Crowded letters t l w h ix → Crowded letters u l w h ix
crowded_from x c = record { opened = c.opened; extends = extends_trans x c.extends }
