-- Laws of the cells of the matrix after a link.
use mathlib.Core.Path.{◌≡◌, refl, sym}
use mathlib.Core.List.{List}
use mathlib.Core.Bool.{Bool, true, false, ◌&&◌, ◌||◌, cond, and-false}
use Prim.Native.Nat.{ℕ, ◌<◌}
use native.Mathlib.Omega.{arith}
use lib.ListN.{get_or}
use lib.Dec.{eqb}
use borrow.Author.Tests.{eqb-true}
use Rattle.lists.proofs.Cases.{and_left, and_right}
use Rattle.diagram.specs.Pattern.{patterns}
use Rattle.diagram.specs.Table.{Table, number_at}
use Rattle.diagram.specs.Held.{held}
use Rattle.diagram.specs.Extends.{Extends}
use Rattle.diagram.proofs.Add.{extends_refl, extends_trans}
use Rattle.diagram.proofs.Number.{number_zeroth}
use Rattle.table.specs.declared.Put.{Put}
use Rattle.table.specs.declared.Stop.TheVariants.{Going}
use Rattle.table.specs.Stop.{stopped}
use Rattle.functions.specs.Open.{Open}
use Rattle.working.specs.Grown.{bit, Grown}
use Rattle.working.specs.Many.{AllUsed, Filled, cell, also, linked_number}
use Rattle.working.proofs.Grow.{means_same, open_few, open_sound, grown_same, grown_then, grown_there, grown_number, grown_entry}
use Rattle.working.proofs.Fill.{means_own, number_kept, filled_same, filled_from, RowsFilling, rows_old}

-- an entry that is 0 adds nothing
also_none : (z a b : ℕ) → a ≡ 0 → also z a b ≡ z
also_none z a b e = rw e

also_nothing : (z a b : ℕ) → b ≡ 0 → also z a b ≡ z
also_nothing z a b e = rw (e, and-false (eqb a 1))

-- the choice of a choice
also_chosen : (z a b : ℕ) → cond (eqb (cond (eqb a 1) b 0) 1) 1 z ≡ also z a b
also_chosen z a b = by (eqb a 1)
  where
    by : (x : Bool) → cond (eqb (cond x b 0) 1) 1 z ≡ cond (x && eqb b 1) 1 z
    by true = refl
    by false = refl

module _ {letters : ℕ} {l w h ix : List ℕ} {used : ℕ} (o : Open letters l w h ix used) where
  zero_is : {e : ℕ} → e ≡ 0 → (p : ℕ) → number_at letters (held l w h used) e p ≡ 0
  zero_is e p = rw e (number_zeroth (held l w h used) p (open_few o) (open_sound o))

  module _ (z a b : ℕ) (hz : z < used) where
    pub also_first : a ≡ 0 → Grown letters (held l w h used)
        (λ p. also (number_at letters (held l w h used) z p) (number_at letters (held l w h used) a p) (number_at letters (held l w h used) b p)) l w h ix (record { stop = Going; entry = z; used = used })
    also_first e = grown_same (grown_there o (means_own o hz)) (λ p _. sym (also_none _ _ (number_at letters (held l w h used) b p) (zero_is e p)))

    pub also_second : b ≡ 0 → Grown letters (held l w h used)
        (λ p. also (number_at letters (held l w h used) z p) (number_at letters (held l w h used) a p) (number_at letters (held l w h used) b p)) l w h ix (record { stop = Going; entry = z; used = used })
    also_second e = grown_same (grown_there o (means_own o hz)) (λ p _. sym (also_nothing _ (number_at letters (held l w h used) a p) _ (zero_is e p)))

    pub also_grown : {l1 w1 h1 ix1 l2 w2 h2 ix2 : List ℕ} {q r : Put}
        → (g : Grown letters (held l w h used) (λ p. cond (eqb (number_at letters (held l w h used) a p) 1) (number_at letters (held l w h used) b p) 0) l1 w1 h1 ix1 q) → stopped q.stop ≡ false
        → Grown letters (held l1 w1 h1 q.used) (λ p. cond (eqb (number_at letters (held l1 w1 h1 q.used) q.entry p) 1) 1 (number_at letters (held l1 w1 h1 q.used) z p)) l2 w2 h2 ix2 r
        → Grown letters (held l w h used)
        (λ p. also (number_at letters (held l w h used) z p) (number_at letters (held l w h used) a p) (number_at letters (held l w h used) b p)) l2 w2 h2 ix2 r
    also_grown g room s =
        grown_then g room
        (grown_same s (λ p hp. rw ((g.means room).number p hp, grown_number o g room z p hz) (also_chosen _ (number_at letters (held l w h used) a p) (number_at letters (held l w h used) b p))))

  -- both ways
  pub cell_grown : {f : ℕ → ℕ} {l1 w1 h1 ix1 l2 w2 h2 ix2 : List ℕ} {q r : Put} {xa by : ℕ} (g : Grown letters (held l w h used) f l1 w1 h1 ix1 q) → stopped q.stop ≡ false → xa < used → by < used
      → Grown letters (held l1 w1 h1 q.used) (λ p. also (number_at letters (held l1 w1 h1 q.used) q.entry p) (number_at letters (held l1 w1 h1 q.used) xa p) (number_at letters (held l1 w1 h1 q.used) by p)) l2 w2 h2 ix2 r
      → Grown letters (held l w h used) (λ p. also (f p) (number_at letters (held l w h used) xa p) (number_at letters (held l w h used) by p)) l2 w2 h2 ix2 r
  cell_grown {xa = xa} {by} g room hxa hby s =
      grown_then g room
      (grown_same s (λ p hp. rw ((g.means room).number p hp, grown_number o g room xa p hxa, grown_number o g room by p hby)))

-- the link in numbers that are 0 and 1 is the link in tests
pub linked_bits : (k xy xa by xb ay : Bool) → linked_number (bit k) (bit xy) (bit xa) (bit by) (bit xb) (bit ay) ≡ bit (xy || (k && ((xa && by) || (xb && ay))))
linked_bits true true true true xb ay = refl
linked_bits true true true false true true = refl
linked_bits true true true false true false = refl
linked_bits true true true false false ay = refl
linked_bits true true false by true true = refl
linked_bits true true false by true false = refl
linked_bits true true false by false ay = refl
linked_bits true false true true xb ay = refl
linked_bits true false true false true true = refl
linked_bits true false true false true false = refl
linked_bits true false true false false ay = refl
linked_bits true false false by true true = refl
linked_bits true false false by true false = refl
linked_bits true false false by false ay = refl
linked_bits false true xa by xb ay = refl
linked_bits false false xa by xb ay = refl

-- a transistor that is nowhere kept links nothing
pub linked_none : (k xy xa by xb ay : ℕ) → k ≡ 0 → linked_number k xy xa by xb ay ≡ xy
linked_none k xy xa by xb ay e = rw e

-- a node that is joined with neither end stays as it is
linked_apart : (k xy xa by xb ay : ℕ) → xa ≡ 0 → xb ≡ 0 → linked_number k xy xa by xb ay ≡ xy
linked_apart k xy xa by xb ay ea eb = rw (ea, eb) (either (eqb k 1))
  where
    either : (x : Bool) → also (also xy (cond x 0 0) ay) (cond x 0 0) by ≡ xy
    either true = refl
    either false = refl

-- a cell's numbers in an extension
pub cell_kept : {letters : ℕ} {l w h ix : List ℕ} {used : ℕ} (o : Open letters l w h ix used) {u : Table} (x : Extends (held l w h used) u) {xy xa by xb ay : ℕ} → xy < used → xa < used → by < used → xb < used → ay < used → (p : ℕ)
    → also (also (number_at letters u xy p) (number_at letters u xb p) (number_at letters u ay p)) (number_at letters u xa p) (number_at letters u by p)
    ≡ also (also (number_at letters (held l w h used) xy p) (number_at letters (held l w h used) xb p) (number_at letters (held l w h used) ay p)) (number_at letters (held l w h used) xa p) (number_at letters (held l w h used) by p)
cell_kept o x {xy} {xa} {by} {xb} {ay} hxy hxa hby hxb hay p =
    rw (number_kept o x xy p hxy, number_kept o x xb p hxb, number_kept o x ay p hay, number_kept o x xa p hxa, number_kept o x by p hby)

-- a choice of a kept transistor, in a cell
module _ {letters : ℕ} {l w h ix : List ℕ} {used : ℕ} (o : Open letters l w h ix used) where
  -- a row: first what it has with the ends, then its cells
  pub row_grown : (kept ea eb : ℕ) (row first second : List ℕ) → AllUsed 24 row used → AllUsed 24 first used → AllUsed 24 second used → {l1 w1 h1 ix1 l2 w2 h2 ix2 l3 w3 h3 ix3 : List ℕ} {p q : Put} {used3 : ℕ} {out : List ℕ}
      → (g : Grown letters (held l w h used) (λ z. cond (eqb (number_at letters (held l w h used) kept z) 1) (number_at letters (held l w h used) ea z) 0) l1 w1 h1 ix1 p) → stopped p.stop ≡ false
      → (s : Grown letters (held l1 w1 h1 p.used) (λ z. cond (eqb (number_at letters (held l1 w1 h1 p.used) kept z) 1) (number_at letters (held l1 w1 h1 p.used) eb z) 0) l2 w2 h2 ix2 q) → stopped q.stop ≡ false
      → kept < used → ea < used → eb < used
      → Filled 24 letters (held l2 w2 h2 q.used) (λ y z. also (also (number_at letters (held l2 w2 h2 q.used) (get_or row y 0) z) (number_at letters (held l2 w2 h2 q.used) q.entry z) (number_at letters (held l2 w2 h2 q.used) (get_or first y 0) z)) (number_at letters (held l2 w2 h2 q.used) p.entry z) (number_at letters (held l2 w2 h2 q.used) (get_or second y 0) z)) l3 w3 h3 ix3 used3 out
      → Filled 24 letters (held l w h used) (λ y z. linked_number (number_at letters (held l w h used) kept z) (number_at letters (held l w h used) (get_or row y 0) z) (number_at letters (held l w h used) ea z) (number_at letters (held l w h used) (get_or second y 0) z) (number_at letters (held l w h used) eb z) (number_at letters (held l w h used) (get_or first y 0) z)) l3 w3 h3 ix3 used3 out
  row_grown kept ea eb row first second hr hf hs {l1} {w1} {h1} {ix1} {l2} {w2} {h2} {ix2} {p = p} {q} g room s rest hk hea heb f =
      let o1 : Open letters l1 w1 h1 ix1 p.used = g.opened room in
      let x : Extends (held l w h used) (held l2 w2 h2 q.used) = extends_trans (g.extends room) (s.extends rest) in
      filled_from
      (filled_same f (λ y z hy hz. rw (
        number_kept o x (get_or row y 0) z (hr y hy),
        number_kept o x (get_or first y 0) z (hf y hy),
        number_kept o x (get_or second y 0) z (hs y hy),
        (s.means rest).number z hz,
        grown_number o1 s rest p.entry z (grown_entry o g room),
        (g.means room).number z hz,
        grown_number o g room kept z hk,
        grown_number o g room eb z heb,
      )))
      x

  -- a row that has nothing with the ends
  pub row_stays : (kept a b : ℕ) (row first second : List ℕ) → AllUsed 24 row used → (eqb (get_or row a 0) 0 && eqb (get_or row b 0) 0) ≡ true
      → Filled 24 letters (held l w h used) (λ y z. linked_number (number_at letters (held l w h used) kept z) (number_at letters (held l w h used) (get_or row y 0) z) (number_at letters (held l w h used) (get_or row a 0) z) (number_at letters (held l w h used) (get_or second y 0) z) (number_at letters (held l w h used) (get_or row b 0) z) (number_at letters (held l w h used) (get_or first y 0) z)) l w h ix used row
  row_stays kept a b row first second hr none =
      let n : ℕ → ℕ → ℕ = number_at letters (held l w h used) in
      let ea : ℕ = get_or row a 0 in
      let eb : ℕ = get_or row b 0 in
      let za : ea ≡ 0 = eqb-true ea 0 (and_left (eqb ea 0) (eqb eb 0) none) in
      let zb : eb ≡ 0 = eqb-true eb 0 (and_right (eqb ea 0) (eqb eb 0) none) in
      record { opened = o; extends = extends_refl _; means = λ y hy. means_same (means_own o (hr y hy)) (λ p _. sym (linked_apart (n kept p) (n (get_or row y 0) p) (n ea p) (n (get_or second y 0) p) (n eb p) (n (get_or first y 0) p) (zero_is o za p) (zero_is o zb p))) }

  -- a row that is still the old one, in an extension
  pub row_kept : (joined : List (List ℕ)) (kept a b : ℕ) {new : ℕ → ℕ → ℕ → ℕ} {l2 w2 h2 ix2 : List ℕ} {used2 n : ℕ} {out : List (List ℕ)}
      → (s : RowsFilling letters (held l w h used) new (λ x y p. number_at letters (held l w h used) (cell joined x y) p) l w h ix l2 w2 h2 ix2 used2 out n) → ((x y : ℕ) → x < 24 → y < 24 → cell joined x y < used)
      → kept < used → a < 24 → b < 24 → n < 24 → (y p : ℕ) → y < 24 → p < patterns letters
      → linked_number (number_at letters (held l2 w2 h2 used2) kept p) (number_at letters (held l2 w2 h2 used2) (cell out n y) p) (number_at letters (held l2 w2 h2 used2) (cell out n a) p) (number_at letters (held l2 w2 h2 used2) (cell joined b y) p) (number_at letters (held l2 w2 h2 used2) (cell out n b) p) (number_at letters (held l2 w2 h2 used2) (cell joined a y) p)
      ≡ linked_number (number_at letters (held l w h used) kept p) (number_at letters (held l w h used) (cell joined n y) p) (number_at letters (held l w h used) (cell joined n a) p) (number_at letters (held l w h used) (cell joined b y) p) (number_at letters (held l w h used) (cell joined n b) p) (number_at letters (held l w h used) (cell joined a y) p)
  row_kept joined kept a b {l2 = l2} {w2} {h2} {ix2} {used2} {n} {out} s hj hk ha hb hn y p hy hp =
      let x : Extends (held l w h used) (held l2 w2 h2 used2) = s.rows.extends in
      let old : (z : ℕ) → z < 24 → number_at letters (held l2 w2 h2 used2) (cell out n z) p ≡ number_at letters (held l w h used) (cell joined n z) p =
      λ z hz. (rows_old s n z (omega arith) hn hz).number p hp in
      rw (number_kept o x kept p hk, old y hy, old a ha, number_kept o x (cell joined b y) p (hj b y hb hy), old b hb, number_kept o x (cell joined a y) p (hj a y ha hy))
