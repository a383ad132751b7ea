-- Laws of several entries at once: a place is filled, and the others keep what they mean.
use mathlib.Core.Path.{◌≡◌, refl, sym, ◌∙◌, ap}
use mathlib.Core.Logic.{⊎_elim}
use mathlib.Core.List.{List, []}
use mathlib.Core.Bool.{Bool, false, cond}
use Prim.Native.Nat.{ℕ, ◌+◌, ◌<◌, ◌≤◌}
use native.Mathlib.Omega.{arith}
use lib.ListN.{length, get_or, set, length-set}
use lib.Seq.{get_or-set_same, get_or-set_other}
use lib.Dec.{ltb}
use borrow.Author.Tests.{lt-ltb, le-ltb}
use Rattle.lists.proofs.Cases.{eq_or_ne, lt_or_ge}
use Rattle.diagram.specs.Pattern.{patterns}
use Rattle.diagram.specs.Table.{Table, number_at}
use Rattle.diagram.specs.Held.{held}
use Rattle.diagram.specs.Extends.{Extends}
use Rattle.diagram.proofs.Add.{extends_refl, extends_trans}
use Rattle.diagram.proofs.Number.{number_at_extends, number_zeroth}
use Rattle.table.specs.declared.Put.{Put}
use Rattle.table.specs.Stop.{stopped}
use Rattle.functions.specs.Open.{Open}
use Rattle.functions.specs.Known.{Means}
use Rattle.working.specs.Grown.{Grown}
use Rattle.working.specs.Many.{AllUsed, Filled, cell, Matrixed}
use Rattle.working.proofs.Grow.{means_extends, means_same, open_few, open_sound, open_long, open_three}

-- one function of the places below n, another of the rest
abbrev pub up_to : ℕ → (ℕ → ℕ → ℕ) → (ℕ → ℕ → ℕ) → ℕ → ℕ → ℕ
up_to n new old m p = cond (ltb m n) (new m p) (old m p)

-- the place n is added
up_same : (n : ℕ) (new old : ℕ → ℕ → ℕ) (p : ℕ) → new n p ≡ up_to (n + 1) new old n p
up_same n new old p = rw (lt-ltb n (n + 1) (omega arith))

pub up_other : (n m : ℕ) → (m ≡ n → ⊥) → ltb m n ≡ ltb m (n + 1)
up_other n m ne =
    ⊎_elim
    (λ (h : m < n). lt-ltb m n h ∙ sym (lt-ltb m (n + 1) (omega arith)))
    (λ (h : n ≤ m). le-ltb m n h ∙ sym (le-ltb m (n + 1) (omega (arith, ne))))
    (lt_or_ge m n)

-- open columns: an entry and its numbers, in an extension
module _ {letters : ℕ} {l w h ix : List ℕ} {used : ℕ} (o : Open letters l w h ix used) where
  pub number_kept : {u : Table} → Extends (held l w h used) u → (e p : ℕ) → e < used → number_at letters u e p ≡ number_at letters (held l w h used) e p
  number_kept x e p lt = number_at_extends e p (open_few o) (open_sound o) x (omega (arith, open_long o))

  pub means_kept : {u : Table} {e : ℕ} {f : ℕ → ℕ} → Extends (held l w h used) u → Means letters (held l w h used) e f → Means letters u e f
  means_kept x m = means_extends (open_few o) (open_sound o) x m

  -- an entry means its own numbers
  pub means_own : {e : ℕ} → e < used → Means letters (held l w h used) e (number_at letters (held l w h used) e)
  means_own lt = record { within = omega (arith, open_long o); number = λ p _. refl }

  -- entry 0 is 0
  pub means_zero : Means letters (held l w h used) 0 (λ p. 0)
  means_zero = record { within = omega (arith, open_long o, open_three o); number = λ p _. number_zeroth (held l w h used) p (open_few o) (open_sound o) }

  -- what is used in an extension
  pub used_kept : {l2 w2 h2 ix2 : List ℕ} {used2 : ℕ} → Open letters l2 w2 h2 ix2 used2 → Extends (held l w h used) (held l2 w2 h2 used2) → {e : ℕ} → e < used → e < used2
  used_kept o2 x lt = omega (arith, x.longer, open_long o, open_long o2)

  pub means_used : {e : ℕ} {f : ℕ → ℕ} → Means letters (held l w h used) e f → e < used
  means_used m = omega (arith, m.within, open_long o)

module _ {size letters : ℕ} {t : Table} {f : ℕ → ℕ → ℕ} {l w h ix : List ℕ} {used : ℕ} {entries : List ℕ} (s : Filled size letters t f l w h ix used entries) where
  -- other functions of the same numbers
  pub filled_same : {g : ℕ → ℕ → ℕ} → ((m p : ℕ) → m < size → p < patterns letters → f m p ≡ g m p) → Filled size letters t g l w h ix used entries
  filled_same same = record { opened = s.opened; extends = s.extends; means = λ m hm. means_same (s.means m hm) (λ p hp. same m p hm hp) }

  -- a table before
  pub filled_from : {u : Table} → Extends u t → Filled size letters u f l w h ix used entries
  filled_from x = record { opened = s.opened; extends = extends_trans x s.extends; means = s.means }

  pub filled_used : AllUsed size entries used
  filled_used m hm = means_used s.opened (s.means m hm)

  module _ {g : ℕ → ℕ} {l2 w2 h2 ix2 : List ℕ} {r : Put} (q : Grown letters (held l w h used) g l2 w2 h2 ix2 r) (room : stopped r.stop ≡ false) where
    -- a place gets the new entry
    pub filled_set : (n : ℕ) (f2 : ℕ → ℕ → ℕ) → n < length entries → ((p : ℕ) → p < patterns letters → g p ≡ f2 n p) → ((m p : ℕ) → m < size → (m ≡ n → ⊥) → p < patterns letters → f m p ≡ f2 m p)
        → Filled size letters t f2 l2 w2 h2 ix2 r.used (set entries n r.entry)
    filled_set n f2 long same rest = record { opened = q.opened room; extends = extends_trans s.extends (q.extends room); means = each }
      where
        each : (m : ℕ) → m < size → Means letters (held l2 w2 h2 r.used) (get_or (set entries n r.entry) m 0) (f2 m)
        each m hm =
            ⊎_elim
            (λ (e : m ≡ n). rw (e, get_or-set_same entries n r.entry 0 long) (means_same (q.means room) same))
            (λ (ne : m ≡ n → ⊥).
            rw (get_or-set_other entries n m r.entry 0 ne)
            (means_same (means_kept s.opened (q.extends room) (s.means m hm)) (λ p hp. rest m p hm ne hp)))
            (eq_or_ne m n)

-- A loop that fills the places in order: those below n are new.
pub record Filling (size letters : ℕ) (t : Table) (new old : ℕ → ℕ → ℕ) (l0 w0 h0 ix0 l w h ix : List ℕ) (used : ℕ) (entries : List ℕ) (n : ℕ) : Type 0 where
  pub long : length entries ≡ size
  pub letter_long : length l ≡ length l0
  pub low_long : length w ≡ length w0
  pub high_long : length h ≡ length h0
  pub index_long : length ix ≡ length ix0
  pub filled : Filled size letters t (up_to n new old) l w h ix used entries

-- none of the places yet
pub filling_first : {size letters : ℕ} (new old : ℕ → ℕ → ℕ) {l w h ix : List ℕ} {used : ℕ} {entries : List ℕ} → Open letters l w h ix used → length entries ≡ size
    → ((m : ℕ) → m < size → Means letters (held l w h used) (get_or entries m 0) (old m)) → Filling size letters (held l w h used) new old l w h ix l w h ix used entries 0
filling_first new old o long each = record {
  long = long;
  letter_long = refl;
  low_long = refl;
  high_long = refl;
  index_long = refl;
  filled = record { opened = o; extends = extends_refl _; means = λ m hm. means_same (each m hm) (λ p _. sym (ap (λ (b : Bool). cond b (new m p) (old m p)) (le-ltb m 0 (omega arith)))) };
}

module _ {size letters : ℕ} {t : Table} {new old : ℕ → ℕ → ℕ} {l0 w0 h0 ix0 l w h ix : List ℕ} {used n : ℕ} {entries : List ℕ} (s : Filling size letters t new old l0 w0 h0 ix0 l w h ix used entries n) where
  -- the next place
  pub filling_next : {g : ℕ → ℕ} {l2 w2 h2 ix2 : List ℕ} {r : Put} → Grown letters (held l w h used) g l2 w2 h2 ix2 r → stopped r.stop ≡ false → ((p : ℕ) → p < patterns letters → g p ≡ new n p) → n < size
      → length l2 ≡ length l → length w2 ≡ length w → length h2 ≡ length h → length ix2 ≡ length ix
      → Filling size letters t new old l0 w0 h0 ix0 l2 w2 h2 ix2 r.used (set entries n r.entry) (n + 1)
  filling_next {r = r} q room same lt a b c d = record {
    long = length-set entries n r.entry ∙ s.long;
    letter_long = a ∙ s.letter_long;
    low_long = b ∙ s.low_long;
    high_long = c ∙ s.high_long;
    index_long = d ∙ s.index_long;
    filled =
        filled_set s.filled q room n (up_to (n + 1) new old) (omega (arith, s.long)) (λ p hp. same p hp ∙ up_same n new old p)
        (λ m p hm ne hp. ap (λ (b : Bool). cond b (new m p) (old m p)) (up_other n m ne));
  }

  -- all of the places that are to be filled
  pub filling_done : {most : ℕ} → n ≡ most → Filled size letters t (up_to most new old) l w h ix used entries
  filling_done z = rw z at s.filled

  pub filling_all : size ≤ n → Filled size letters t new l w h ix used entries
  filling_all le = filled_same s.filled (λ m p hm hp. ap (λ (b : Bool). cond b (new m p) (old m p)) (lt-ltb m n (omega arith)))

-- one function of the rows below n, another of the rest
abbrev pub rows_to : ℕ → (ℕ → ℕ → ℕ → ℕ) → (ℕ → ℕ → ℕ → ℕ) → ℕ → ℕ → ℕ → ℕ
rows_to n new old x y p = cond (ltb x n) (new x y p) (old x y p)

-- A loop that fills the rows of a matrix in order.
pub record RowsFilling (letters : ℕ) (t : Table) (new old : ℕ → ℕ → ℕ → ℕ) (l0 w0 h0 ix0 l w h ix : List ℕ) (used : ℕ) (joined : List (List ℕ)) (n : ℕ) : Type 0 where
  pub long : length joined ≡ 24
  pub letter_long : length l ≡ length l0
  pub low_long : length w ≡ length w0
  pub high_long : length h ≡ length h0
  pub index_long : length ix ≡ length ix0
  pub rows : Matrixed letters t (rows_to n new old) l w h ix used joined

-- none of the rows yet
pub rows_first : {letters : ℕ} (new old : ℕ → ℕ → ℕ → ℕ) {l w h ix : List ℕ} {used : ℕ} {joined : List (List ℕ)} → Open letters l w h ix used → length joined ≡ 24
    → ((x y : ℕ) → x < 24 → y < 24 → Means letters (held l w h used) (cell joined x y) (old x y)) → RowsFilling letters (held l w h used) new old l w h ix l w h ix used joined 0
rows_first new old o long each = record {
  long = long;
  letter_long = refl;
  low_long = refl;
  high_long = refl;
  index_long = refl;
  rows = record { opened = o; extends = extends_refl _; means = λ x y hx hy. means_same (each x y hx hy) (λ p _. sym (ap (λ (b : Bool). cond b (new x y p) (old x y p)) (le-ltb x 0 (omega arith)))) };
}

module _ {letters : ℕ} {t : Table} {new old : ℕ → ℕ → ℕ → ℕ} {l0 w0 h0 ix0 l w h ix : List ℕ} {used n : ℕ} {joined : List (List ℕ)} (s : RowsFilling letters t new old l0 w0 h0 ix0 l w h ix used joined n) where
  -- the next row
  pub rows_next : {f : ℕ → ℕ → ℕ} {l2 w2 h2 ix2 : List ℕ} {used2 : ℕ} {row : List ℕ} → Filled 24 letters (held l w h used) f l2 w2 h2 ix2 used2 row → ((y p : ℕ) → y < 24 → p < patterns letters → f y p ≡ new n y p) → n < 24
      → length l2 ≡ length l → length w2 ≡ length w → length h2 ≡ length h → length ix2 ≡ length ix
      → RowsFilling letters t new old l0 w0 h0 ix0 l2 w2 h2 ix2 used2 (set joined n row) (n + 1)
  rows_next {f} {l2} {w2} {h2} {ix2} {used2} {row} q same lt a b c d = record {
    long = length-set joined n row ∙ s.long;
    letter_long = a ∙ s.letter_long;
    low_long = b ∙ s.low_long;
    high_long = c ∙ s.high_long;
    index_long = d ∙ s.index_long;
    rows = record { opened = q.opened; extends = extends_trans s.rows.extends q.extends; means = each };
  }
    where
      each : (x y : ℕ) → x < 24 → y < 24 → Means letters (held l2 w2 h2 used2) (cell (set joined n row) x y) (rows_to (n + 1) new old x y)
      each x y hx hy =
          ⊎_elim
          (λ (e : x ≡ n).
          rw (e, get_or-set_same joined n row [] (omega (arith, s.long)))
          (means_same (q.means y hy) (λ p hp. same y p hy hp ∙ sym (ap (λ (b : Bool). cond b (new n y p) (old n y p)) (lt-ltb n (n + 1) (omega arith))))))
          (λ (ne : x ≡ n → ⊥).
          rw (get_or-set_other joined n x row [] ne)
          (means_same (means_kept s.rows.opened q.extends (s.rows.means x y hx hy)) (λ p hp. ap (λ (b : Bool). cond b (new x y p) (old x y p)) (up_other n x ne))))
          (eq_or_ne x n)

  -- all rows
  pub rows_done : 24 ≤ n → Matrixed letters t new l w h ix used joined
  rows_done le = record { opened = s.rows.opened; extends = s.rows.extends; means = λ x y hx hy. means_same (s.rows.means x y hx hy) (λ p _. ap (λ (b : Bool). cond b (new x y p) (old x y p)) (lt-ltb x n (omega arith))) }

  -- a row that is still to come is an old one
  pub rows_old : (x y : ℕ) → n ≤ x → x < 24 → y < 24 → Means letters (held l w h used) (cell joined x y) (old x y)
  rows_old x y le hx hy = means_same (s.rows.means x y hx hy) (λ p _. ap (λ (b : Bool). cond b (new x y p) (old x y p)) (le-ltb x n le))
