-- Laws of entries by what they mean, and of what grows.
use mathlib.Core.Path.{◌≡◌, refl, sym, ◌∙◌, ap, subst₂}
use mathlib.Core.List.{List}
use mathlib.Core.Bool.{true, false, true≢false, cond}
use Prim.Native.Nat.{ℕ, zero, suc, ◌-◌, ◌<◌, ◌≤◌}
use native.Mathlib.Omega.{arith}
use lib.ListN.{length, get_or}
use lib.Dec.{eqb}
use Rattle.lists.proofs.Cases.{true_false}
use Rattle.diagram.specs.Pattern.{most_letters, patterns}
use Rattle.diagram.specs.Table.{Table, terminal_letter, terminal, entry_at, number_at}
use Rattle.diagram.specs.Store.{add, store}
use Rattle.diagram.specs.Operation.{chosen}
use Rattle.diagram.specs.Held.{held}
use Rattle.diagram.proofs.Sound.{Branch, Sound}
use Rattle.diagram.specs.Extends.{Extends}
use Rattle.diagram.proofs.Add.{extends_refl, extends_trans}
use Rattle.diagram.proofs.Number.{part_low, part_high, number_terminal, number_at_extends, number_zeroth, number_first, number_second}
use Rattle.diagram.proofs.Store.{IsStored, store_stored, store_number}
use Rattle.diagram.proofs.Shannon.{split, store_halves, number_past, number_split}
use Rattle.table.specs.declared.Put.{Put}
use Rattle.table.specs.declared.Stop.TheVariants.{Going}
use Rattle.table.specs.Stop.{stopped}
use Rattle.table.specs.Holds.{Outcome}
use Rattle.table.proofs.Outcomes.{holds_table, outcome_over}
use Rattle.functions.specs.Open.{Legible, Open, Operand}
use Rattle.functions.proofs.Carry.{legible_sound, legible_long, letter_at_lem, low_at, high_at, open_next}
use Rattle.functions.proofs.Halving.{Halves}
use Rattle.functions.specs.Known.{Means}
use Rattle.working.specs.Grown.{Is, Grown}
use Rattle.working.proofs.Crowd.{crowded_first, crowded_from}

-- an entry of a sound table means its function in every extension
pub means_extends : {letters : ℕ} {t u : Table} {e : ℕ} {f : ℕ → ℕ} → letters ≤ most_letters → Sound letters t → Extends t u → Means letters t e f → Means letters u e f
means_extends {letters} {t} {u} {e} few s x m = record {
  within = omega (arith, x.longer, m.within);
  number = λ p h. number_at_extends e p few s x m.within ∙ m.number p h;
}

-- and functions of the same numbers
pub means_same : {letters : ℕ} {t : Table} {e : ℕ} {f g : ℕ → ℕ} → Means letters t e f → ((p : ℕ) → p < patterns letters → f p ≡ g p) → Means letters t e g
means_same m h = record { within = m.within; number = λ p q. m.number p q ∙ h p q }

-- the same of an answer
pub grown_same : {letters : ℕ} {t : Table} {f g : ℕ → ℕ} {l w h ix : List ℕ} {r : Put} → Grown letters t f l w h ix r → ((p : ℕ) → p < patterns letters → f p ≡ g p) → Grown letters t g l w h ix r
grown_same g same = record { opened = g.opened; extends = g.extends; means = λ e. means_same (g.means e) same; crowded = g.crowded }

-- entries 0 and 1 are the tests that fail and pass everywhere
pub is_zero : {letters : ℕ} {t : Table} → letters ≤ most_letters → Sound letters t → Is letters t 0 (λ p. false)
is_zero {letters} {t} few s = record { within = omega (arith, s.three); number = λ p h. number_zeroth t p few s }

pub is_one : {letters : ℕ} {t : Table} → letters ≤ most_letters → Sound letters t → Is letters t 1 (λ p. true)
is_one {letters} {t} few s = record { within = omega (arith, s.three); number = λ p h. number_first t p few s }

-- the table that open columns hold
module _ {letters : ℕ} {l w h ix : List ℕ} {used : ℕ} (o : Open letters l w h ix used) where
  pub open_few : letters ≤ most_letters
  open_few = o.legible.few

  pub open_sound : Sound letters (held l w h used)
  open_sound = legible_sound o.legible

  pub open_long : length (held l w h used) ≡ used
  open_long = legible_long o.legible

  pub open_three : 3 ≤ used
  open_three = omega (arith, open_sound.three, open_long)

  -- an exact outcome is growth
  pub outcome_grown : {f : ℕ → ℕ} {l2 w2 h2 ix2 : List ℕ} {r : Put} → Outcome (held l w h used) (store letters 0 f (held l w h used)) l2 w2 h2 ix2 r
      → Grown letters (held l w h used) f l2 w2 h2 ix2 r
  outcome_grown {f} {l2} {w2} {h2} {ix2} {r} q =
      let t : Table = held l w h used in
      let s : IsStored letters letters 0 f t (store letters 0 f t) = store_stored letters 0 f t open_few open_sound (omega arith) in
      record {
        opened = λ e. open_next open_few s.sound (q.holds e);
        extends = λ e. rw (holds_table (q.holds e)) s.extends;
        means = λ e. rw (holds_table (q.holds e), q.entry e) record { within = s.within; number = s.number };
        crowded = λ e. crowded_first open_few s.sound s.extends open_sound.three q.kept.fits (omega (arith, outcome_over q e)) (q.crowded e);
      }

-- growth on growth
pub grown_then : {letters : ℕ} {t : Table} {f g : ℕ → ℕ} {l1 w1 h1 ix1 l2 w2 h2 ix2 : List ℕ} {q r : Put} → Grown letters t f l1 w1 h1 ix1 q → stopped q.stop ≡ false
    → Grown letters (held l1 w1 h1 q.used) g l2 w2 h2 ix2 r → Grown letters t g l2 w2 h2 ix2 r
grown_then a room b = record { opened = b.opened; extends = λ e. extends_trans (a.extends room) (b.extends e); means = b.means; crowded = λ e. crowded_from (a.extends room) (b.crowded e) }

-- a full answer is one for every function
pub grown_full : {letters : ℕ} {t : Table} {f g : ℕ → ℕ} {l w h ix : List ℕ} {r : Put} → Grown letters t g l w h ix r → stopped r.stop ≡ true → Grown letters t f l w h ix r
grown_full {r = r} q e = record { opened = λ z. true_false (stopped r.stop) e z; extends = λ z. true_false (stopped r.stop) e z; means = λ z. true_false (stopped r.stop) e z; crowded = q.crowded }

-- an entry that is there already
pub grown_there : {letters : ℕ} {l w h ix : List ℕ} {used e : ℕ} {f : ℕ → ℕ} → Open letters l w h ix used → Means letters (held l w h used) e f
    → Grown letters (held l w h used) f l w h ix (record { stop = Going; entry = e; used = used })
grown_there o m = record { opened = λ z. o; extends = λ z. extends_refl _; means = λ z. m; crowded = λ z. absurd (true≢false (sym z)) }

-- Choices with the constants.
module _ {letters : ℕ} {l w h ix : List ℕ} {used : ℕ} (o : Open letters l w h ix used) where
  abbrev n : ℕ → ℕ → ℕ
  n e p = number_at letters (held l w h used) e p

  zero_number : (p : ℕ) → n 0 p ≡ 0
  zero_number p = number_zeroth (held l w h used) p (open_few o) (open_sound o)

  one_number : (p : ℕ) → n 1 p ≡ 1
  one_number p = number_first (held l w h used) p (open_few o) (open_sound o)

  module _ (a b : ℕ) {l2 w2 h2 ix2 : List ℕ} {r : Put} where
    pub both_grown : Outcome (held l w h used) (store letters 0 (chosen letters (held l w h used) a b 0) (held l w h used)) l2 w2 h2 ix2 r
        → Grown letters (held l w h used) (λ p. cond (eqb (number_at letters (held l w h used) a p) 1) (number_at letters (held l w h used) b p) 0) l2 w2 h2 ix2 r
    both_grown q = grown_same (outcome_grown o q) (λ p _. ap (λ (z : ℕ). cond (eqb (n a p) 1) (n b p) z) (zero_number p))

    pub either_grown : Outcome (held l w h used) (store letters 0 (chosen letters (held l w h used) a 1 b) (held l w h used)) l2 w2 h2 ix2 r
        → Grown letters (held l w h used) (λ p. cond (eqb (number_at letters (held l w h used) a p) 1) 1 (number_at letters (held l w h used) b p)) l2 w2 h2 ix2 r
    either_grown q = grown_same (outcome_grown o q) (λ p _. ap (λ (z : ℕ). cond (eqb (n a p) 1) z (n b p)) (one_number p))

    pub without_grown : Outcome (held l w h used) (store letters 0 (chosen letters (held l w h used) b 0 a) (held l w h used)) l2 w2 h2 ix2 r
        → Grown letters (held l w h used) (λ p. cond (eqb (number_at letters (held l w h used) b p) 1) 0 (number_at letters (held l w h used) a p)) l2 w2 h2 ix2 r
    without_grown q = grown_same (outcome_grown o q) (λ p _. ap (λ (z : ℕ). cond (eqb (n b p) 1) z (n a p)) (zero_number p))

  pub opposite_grown : (a : ℕ) {l2 w2 h2 ix2 : List ℕ} {r : Put} → Outcome (held l w h used) (store letters 0 (chosen letters (held l w h used) a 0 1) (held l w h used)) l2 w2 h2 ix2 r
      → Grown letters (held l w h used) (λ p. cond (eqb (number_at letters (held l w h used) a p) 1) 0 1) l2 w2 h2 ix2 r
  opposite_grown a q = grown_same (outcome_grown o q) (λ p _. ap (λ (z : ℕ). cond (eqb (n a p) 1) z (n 1 p)) (zero_number p) ∙ ap (λ (z : ℕ). cond (eqb (n a p) 1) 0 z) (one_number p))

  -- an entry keeps its numbers as the table grows
  pub grown_number : {f : ℕ → ℕ} {l2 w2 h2 ix2 : List ℕ} {r : Put} → Grown letters (held l w h used) f l2 w2 h2 ix2 r → stopped r.stop ≡ false → (e p : ℕ) → e < used
      → number_at letters (held l2 w2 h2 r.used) e p ≡ number_at letters (held l w h used) e p
  grown_number g room e p lt = number_at_extends e p (open_few o) (open_sound o) (g.extends room) (omega (arith, open_long o))

  -- and its place
  pub grown_within : {f : ℕ → ℕ} {l2 w2 h2 ix2 : List ℕ} {r : Put} → Grown letters (held l w h used) f l2 w2 h2 ix2 r → stopped r.stop ≡ false → {e : ℕ} → e < used → e < r.used
  grown_within g room lt = omega (arith, (g.extends room).longer, open_long o, open_long (g.opened room))

  -- the new entry is one of the used
  pub grown_entry : {f : ℕ → ℕ} {l2 w2 h2 ix2 : List ℕ} {r : Put} → Grown letters (held l w h used) f l2 w2 h2 ix2 r → stopped r.stop ≡ false → r.entry < r.used
  grown_entry g room = omega (arith, (g.means room).within, open_long (g.opened room))

-- the first three entries are the same terminals in every sound table
fixed_number : {letters : ℕ} (t u : Table) → letters ≤ most_letters → Sound letters t → Sound letters u → (e p : ℕ) → e < 3 → number_at letters u e p ≡ number_at letters t e p
fixed_number t u few s su zero p small = number_zeroth u p few su ∙ sym (number_zeroth t p few s)
fixed_number t u few s su (suc zero) p small = number_first u p few su ∙ sym (number_first t p few s)
fixed_number t u few s su (suc (suc zero)) p small = number_second u p few su ∙ sym (number_second t p few s)
fixed_number t u few s su (suc (suc (suc e))) p small = absurd (omega arith)

-- Bringing an entry of one table into another.
module _ {letters : ℕ} {tl tw th : List ℕ} {tused : ℕ} (lent : Legible letters tl tw th tused) {left e : ℕ} (x : Operand letters (held tl tw th tused) tused left e) where
  abbrev t : Table
  t = held tl tw th tused

  sound : Sound letters t
  sound = legible_sound lent

  inside : e < length t
  inside = omega (arith, x.within, legible_long lent)

  -- one of the first three entries
  pub bring_fixed : {u : Table} → Sound letters u → e < 3 → Means letters u e (number_at letters (held tl tw th tused) e)
  bring_fixed {u} su small = record { within = omega (arith, su.three); number = λ p _. fixed_number t u lent.few sound su e p small }

  -- a terminal
  bring_terminal : (u : Table) → get_or tl e 0 ≡ terminal_letter → store letters 0 (number_at letters (held tl tw th tused) e) u ≡ add (terminal (get_or tw e 0)) u
  bring_terminal u q =
      store_number letters 0 (get_or tw e 0) (number_at letters t e) u
      (λ p h. number_terminal letters 0 t e p (omega (arith, lent.few)) (letter_at_lem lent e x.within ∙ q) ∙ low_at lent e x.within)

  pub bring_leaf : {u : Table} {l w h ix : List ℕ} {r : Put} → get_or tl e 0 ≡ terminal_letter → Outcome u (add (terminal (get_or tw e 0)) u) l w h ix r
      → Outcome u (store letters 0 (number_at letters (held tl tw th tused) e) u) l w h ix r
  bring_leaf {u} q o = rw (bring_terminal u q) o

  module _ (node : get_or tl e 0 ≡ terminal_letter → ⊥) where
    branch_e : Branch letters t e (entry_at t e)
    branch_e = (sound.legal e inside).node (λ q. node (sym (letter_at_lem lent e x.within) ∙ q))

    pub bring_room : 1 ≤ left
    bring_room = omega (arith, x.from, branch_e.letter_in)

    pub bring_low : Operand letters (held tl tw th tused) tused (left - 1) (get_or tw e 0)
    bring_low = rw (← low_at lent e x.within) record { within = omega (arith, branch_e.low_earlier, x.within); from = omega (arith, branch_e.low_later, x.from, bring_room) }

    pub bring_high : Operand letters (held tl tw th tused) tused (left - 1) (get_or th e 0)
    bring_high = rw (← high_at lent e x.within) record { within = omega (arith, branch_e.high_earlier, x.within); from = omega (arith, branch_e.high_later, x.from, bring_room) }

    -- a branch: its two parts
    pub bring_halves : (u : Table) → Sound letters u → Halves letters u (get_or tl e 0) (number_at letters (held tl tw th tused) e) (number_at letters (held tl tw th tused) (get_or tw e 0)) (λ v. number_at letters (held tl tw th tused) (get_or th e 0))
    bring_halves u su = record {
      halved =
          let m : ℕ = (entry_at t e).letter in
          rw (← letter_at_lem lent e x.within, ← low_at lent e x.within, ← high_at lent e x.within)
          (store_halves m (number_at letters t e) (number_at letters t (entry_at t e).low) (number_at letters t (entry_at t e).high) u lent.few su branch_e.letter_in
          (number_past t lent.few sound (suc m) (entry_at t e).low branch_e.letter_in branch_e.low_later)
          (number_past t lent.few sound (suc m) (entry_at t e).high branch_e.letter_in branch_e.high_later)
          (λ p h. subst₂ (λ (a b : ℕ). number_at letters t e p ≡ split m (number_at letters t a) (number_at letters t b) p) (part_low t m e refl) (part_high t m e refl) (number_split t lent.few sound m e p branch_e.letter_in inside (omega arith))));
      stable = λ v z y. refl;
    }
