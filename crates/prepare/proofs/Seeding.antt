-- Laws of rule 2 over entries.
use mathlib.Core.Path.{◌≡◌, refl, sym, ◌∙◌, ap, ap₂, subst}
use mathlib.Core.Logic.{⊎_elim}
use mathlib.Core.List.{List, [], ◌∷◌, ◌++◌}
use mathlib.Core.Bool.{Bool, true, false, not, ◌&&◌, ◌||◌, cond, and-true, or-false, or_assoc, true≢false}
use Prim.Native.Nat.{ℕ, zero, suc, ◌+◌, ◌≤◌, ◌<◌}
use native.Mathlib.Omega.{arith}
use native.Mathlib.Numerals.{add-one}
use lib.ListN.{length, get_or, set, take, length-set}
use lib.Seq.{take-suc, get_or-set_same, get_or-set_other}
use lib.Dec.{ltb, eqb}
use borrow.Author.Tests.{lt-ltb, le-ltb, eqb-true}
use Rattle.lists.proofs.Cases.{eq_or_ne, lt_or_ge, or_cases, true_false}
use Rattle.lists.proofs.Count.{cond_le, cond_one}
use Rattle.format.specs.declared.Transistor.{Transistor}
use Rattle.format.specs.Circuit.{Circuit}
use Rattle.format.proofs.Legal.{LegalTransistor, LegalCell}
use Rattle.diagram.specs.Pattern.{patterns}
use Rattle.diagram.specs.Table.{Table, number_at}
use Rattle.diagram.specs.Held.{held}
use Rattle.diagram.specs.Extends.{Extends}
use Rattle.diagram.proofs.Add.{extends_refl, extends_trans}
use Rattle.diagram.proofs.Number.{number_zeroth}
use Rattle.table.specs.declared.Put.{Put}
use Rattle.table.specs.declared.Stop.TheVariants.{Going}
use Rattle.table.specs.Stop.{stopped}
use Rattle.functions.specs.Open.{Open}
use Rattle.functions.specs.Known.{Means}
use Rattle.working.specs.Grown.{bit, Grown}
use Rattle.working.specs.Many.{AllUsed, Filled}
use Rattle.working.proofs.Crowd.{crowded_from}
use Rattle.working.proofs.Grow.{means_same, is_zero, is_one, open_few, open_sound, grown_same, grown_then, grown_there, grown_number}
use Rattle.working.proofs.Fill.{up_other, number_kept, means_own, means_zero, used_kept, filled_same, filled_from, Filling, filling_first, filling_next, filling_done}
use Rattle.rules.specs.State.{node_numbers, is_inner}
use Rattle.rules.specs.Label.{label_at, of_piece, some}
use Rattle.rules.specs.Group.{groups}
use Rattle.rules.specs.Matrix.{transistor_at}
use Rattle.rules.proofs.Arrive.{some_same}
use Rattle.rules.proofs.Label.{all_legal}
use Rattle.prepare.specs.Steps.{Bits, one, disturbed_by, is_considered, seed_by, seed_number, differs, Active}

-- a bit is the number of its test
pub bit_back : (y : ℕ) → y ≤ 1 → y ≡ bit (eqb y 1)
bit_back zero h = refl
bit_back (suc zero) h = refl
bit_back (suc (suc y)) h = absurd (omega arith)

-- a bit, or one that is no more, is that bit
either_first : (x y : ℕ) → x ≤ 1 → y ≤ x → x ≡ cond (eqb x 1) 1 y
either_first zero y h le = omega arith
either_first (suc zero) y h le = refl
either_first (suc (suc x)) y h le = absurd (omega arith)

-- three choices in a row
three_bits : (z g a b : Bool) → cond (eqb (bit b) 1) 1 (cond (eqb (bit a) 1) 1 (cond g 1 (bit z))) ≡ bit (z || ((g || a) || b))
three_bits true true true true = refl
three_bits true true true false = refl
three_bits true true false true = refl
three_bits true true false false = refl
three_bits true false true true = refl
three_bits true false true false = refl
three_bits true false false true = refl
three_bits true false false false = refl
three_bits false true true true = refl
three_bits false true true false = refl
three_bits false true false true = refl
three_bits false true false false = refl
three_bits false false true true = refl
three_bits false false true false = refl
three_bits false false false true = refl
three_bits false false false false = refl

-- the number of an entry that is 0 unless a test passes
module _ {letters : ℕ} {l w h ix : List ℕ} {used : ℕ} (o : Open letters l w h ix used) where
  abbrev n : ℕ → ℕ → ℕ
  n e p = number_at letters (held l w h used) e p

  if_number : (b : Bool) (e p : ℕ) → n e p ≤ 1 → n (cond b e 0) p ≡ bit (b && eqb (n e p) 1)
  if_number true e p small = bit_back (n e p) small
  if_number false e p small = number_zeroth (held l w h used) p (open_few o) (open_sound o)

  -- either of two, where the second is nowhere more
  pub any_same : (a z : ℕ) → (eqb z 0 || eqb a z) ≡ true → a < used → ((p : ℕ) → p < patterns letters → number_at letters (held l w h used) a p ≤ 1)
      → Grown letters (held l w h used) (λ p. cond (eqb (number_at letters (held l w h used) a p) 1) 1 (number_at letters (held l w h used) z p)) l w h ix (record { stop = Going; entry = a; used = used })
  any_same a z test lt small =
      grown_same (grown_there o (means_own o lt)) (λ p hp.
      either_first (n a p) (n z p) (small p hp)
      (⊎_elim
      (λ (e : eqb z 0 ≡ true). rw (eqb-true z 0 e, number_zeroth (held l w h used) p (open_few o) (open_sound o)) (omega arith))
      (λ (e : eqb a z ≡ true). rw (eqb-true a z e) (omega arith))
      (or_cases (eqb z 0) (eqb a z) test)))

  -- the gate's change, and the changes of the ends that are inputs, or z
  pub touch_grown : (z gate ea eb a b : ℕ) (ia ib : Bool) {l1 w1 h1 ix1 l2 w2 h2 ix2 l3 w3 h3 ix3 : List ℕ} {p q r : Put} → a ≡ cond ia ea 0 → b ≡ cond ib eb 0 → a < used → b < used
      → ((x : ℕ) → x < patterns letters → number_at letters (held l w h used) z x ≤ 1) → ((x : ℕ) → x < patterns letters → number_at letters (held l w h used) ea x ≤ 1) → ((x : ℕ) → x < patterns letters → number_at letters (held l w h used) eb x ≤ 1)
      → (g : Grown letters (held l w h used) (λ x. cond (eqb (number_at letters (held l w h used) gate x) 1) 1 (number_at letters (held l w h used) z x)) l1 w1 h1 ix1 p) → stopped p.stop ≡ false
      → (s : Grown letters (held l1 w1 h1 p.used) (λ x. cond (eqb (number_at letters (held l1 w1 h1 p.used) a x) 1) 1 (number_at letters (held l1 w1 h1 p.used) p.entry x)) l2 w2 h2 ix2 q) → stopped q.stop ≡ false
      → Grown letters (held l2 w2 h2 q.used) (λ x. cond (eqb (number_at letters (held l2 w2 h2 q.used) b x) 1) 1 (number_at letters (held l2 w2 h2 q.used) q.entry x)) l3 w3 h3 ix3 r
      → Grown letters (held l w h used) (λ x. bit (eqb (number_at letters (held l w h used) z x) 1 || ((eqb (number_at letters (held l w h used) gate x) 1 || (ia && eqb (number_at letters (held l w h used) ea x) 1)) || (ib && eqb (number_at letters (held l w h used) eb x) 1)))) l3 w3 h3 ix3 r
  touch_grown z gate ea eb a b ia ib {l1} {w1} {h1} {ix1} {l2} {w2} {h2} {ix2} {p = p} {q} da db ha hb fz fa fb g room s rest u =
      let x : Extends (held l w h used) (held l2 w2 h2 q.used) = extends_trans (g.extends room) (s.extends rest) in
      grown_then (grown_then g room s) rest
      (grown_same u (λ y hy.
      ap (λ (v : ℕ). cond (eqb (number_at letters (held l2 w2 h2 q.used) b y) 1) 1 v) ((s.means rest).number y hy)
      ∙ rw ((g.means room).number y hy, grown_number o g room a y ha, number_kept o x b y hb, da, db, if_number ia ea y (fa y hy), if_number ib eb y (fb y hy))
      (ap (λ (v : ℕ). cond (eqb (bit (ib && eqb (n eb y) 1)) 1) 1 (cond (eqb (bit (ia && eqb (n ea y) 1)) 1) 1 (cond (eqb (n gate y) 1) 1 v))) (bit_back (n z y) (fz y hy))
      ∙ three_bits (eqb (n z y) 1) (eqb (n gate y) 1) (ia && eqb (n ea y) 1) (ib && eqb (n eb y) 1))))

-- the last of a list
some_append : {A : Type 0} (test : A → Bool) (xs : List A) (x : A) → some test (xs ++ x ∷ []) ≡ some test xs || test x
unfolding some
some_append test [] x = or-false (test x)
some_append test (y ∷ ys) x = ap (λ (b : Bool). test y || b) (some_append test ys x) ∙ sym (or_assoc (test y) (some test ys) (test x))

-- a test that the number of a bit tells
pub bit_none : (b : Bool) → bit b ≡ 0 → b ≡ false
bit_none true e = absurd (omega arith)
bit_none false e = refl

pub bit_some : (b : Bool) → (bit b ≡ 0 → ⊥) → b ≡ true
bit_some true ne = refl
bit_some false ne = absurd (ne refl)

-- an entry that is 0 unless a test passes is a used one
pub if_used : (b : Bool) (e a : ℕ) {used : ℕ} → a ≡ cond b e 0 → e < used → 0 < used → a < used
if_used true e a same lt pos = rw same lt
if_used false e a same lt pos = rw same pos

-- what disturbs a transistor, and makes a seed, asks only for the changes of the cell's nodes
disturbed_same : (c : Circuit) (f e : ℕ → Bool) (t : Transistor) → LegalTransistor (length c.nodes) t → ((n : ℕ) → n < 2 + length c.nodes → f n ≡ e n) → disturbed_by c f t ≡ disturbed_by c e t
disturbed_same c f e t legal same = rw (same t.gate legal.gate_is, same t.first legal.first_is, same t.second legal.second_is)

pub seed_same : (c : Circuit) → LegalCell c → (f e : ℕ → Bool) → ((n : ℕ) → n < 2 + length c.nodes → f n ≡ e n) → (n : ℕ) → seed_by c f n ≡ seed_by c e n
seed_same c l f e same n = some_same _ _ c.transistors (λ t m. ap (λ (b : Bool). of_piece c (node_numbers c) n t && b) (disturbed_same c f e t (all_legal l t m) same))

-- the changes in an extension of their table
module _ {letters : ℕ} {l0 w0 h0 ix0 : List ℕ} {used0 : ℕ} (changed : List ℕ) (o : Open letters l0 w0 h0 ix0 used0) (hc : AllUsed 26 changed used0)
    {l w h ix : List ℕ} {used : ℕ} (now : Open letters l w h ix used) (x : Extends (held l0 w0 h0 used0) (held l w h used)) where
  pub changed_used : AllUsed 26 changed used
  changed_used m hm = used_kept o now x (hc m hm)

  pub changed_bits : Bits letters (held l0 w0 h0 used0) changed 26 → Bits letters (held l w h used) changed 26
  changed_bits bits m p hm hp = subst (λ (v : ℕ). v ≤ 1) (sym (number_kept o x (get_or changed m 0) p (hc m hm))) (bits m p hm hp)

  changed_one : (n p : ℕ) → n < 26 → one letters (held l w h used) (get_or changed n 0) p ≡ one letters (held l0 w0 h0 used0) (get_or changed n 0) p
  changed_one n p hn = ap (λ (v : ℕ). eqb v 1) (number_kept o x (get_or changed n 0) p (hc n hn))

-- some of a node's arms are disturbed
abbrev armed : Circuit → (ℕ → Bool) → List ℕ → Bool
armed c changed is = some (λ (i : ℕ). disturbed_by c changed (transistor_at c i)) is

-- A loop over a node's arms: where one of the first j of them is disturbed.
pub record Arming (c : Circuit) (arms : List ℕ) (letters : ℕ) (t : Table) (changed l0 w0 h0 ix0 l w h ix : List ℕ) (used z j : ℕ) : Type 0 where
  pub letter_long : length l ≡ length l0
  pub low_long : length w ≡ length w0
  pub high_long : length h ≡ length h0
  pub index_long : length ix ≡ length ix0
  pub opened : Open letters l w h ix used
  pub extends : Extends t (held l w h used)
  pub means : Means letters (held l w h used) z (λ p. bit (armed c (λ n. one letters t (get_or changed n 0) p) (take j arms)))

-- none of them yet
pub arming_first : {c : Circuit} {arms : List ℕ} {letters : ℕ} {changed l w h ix : List ℕ} {used : ℕ} → Open letters l w h ix used → Arming c arms letters (held l w h used) changed l w h ix l w h ix used 0 0
unfolding some
arming_first o = record { letter_long = refl; low_long = refl; high_long = refl; index_long = refl; opened = o; extends = extends_refl _; means = means_zero o }

module _ {c : Circuit} {arms : List ℕ} {letters : ℕ} {l0 w0 h0 ix0 : List ℕ} {used0 : ℕ} {changed l w h ix : List ℕ} {used z j : ℕ}
    (o : Open letters l0 w0 h0 ix0 used0) (s : Arming c arms letters (held l0 w0 h0 used0) changed l0 w0 h0 ix0 l w h ix used z j) where
  abbrev t0 : Table
  t0 = held l0 w0 h0 used0

  -- what the call asks
  pub arming_bit : (p : ℕ) → p < patterns letters → number_at letters (held l w h used) z p ≤ 1
  arming_bit p hp = subst (λ (v : ℕ). v ≤ 1) (sym (s.means.number p hp)) (cond_le (armed c (λ n. one letters t0 (get_or changed n 0) p) (take j arms)))

  -- one arm more
  pub arming_next : (i : ℕ) (t : Transistor) {l2 w2 h2 ix2 : List ℕ} {r : Put} → AllUsed 26 changed used0 → get_or arms j 0 ≡ i → transistor_at c i ≡ t → LegalTransistor (length c.nodes) t → length c.nodes ≤ 24 → j < length arms
      → Grown letters (held l w h used) (λ p. bit (one letters (held l w h used) z p || disturbed_by c (λ n. one letters (held l w h used) (get_or changed n 0) p) t)) l2 w2 h2 ix2 r → stopped r.stop ≡ false
      → length l2 ≡ length l → length w2 ≡ length w → length h2 ≡ length h → length ix2 ≡ length ix
      → Arming c arms letters (held l0 w0 h0 used0) changed l0 w0 h0 ix0 l2 w2 h2 ix2 r.used r.entry (j + 1)
  arming_next i t hc ie te legal few hj q room a b cc d = record {
    letter_long = a ∙ s.letter_long;
    low_long = b ∙ s.low_long;
    high_long = cc ∙ s.high_long;
    index_long = d ∙ s.index_long;
    opened = q.opened room;
    extends = extends_trans s.extends (q.extends room);
    means = means_same (q.means room) same;
  }
    where
      then : (p : ℕ) → armed c (λ n. one letters t0 (get_or changed n 0) p) (take (j + 1) arms) ≡ armed c (λ n. one letters t0 (get_or changed n 0) p) (take j arms) || disturbed_by c (λ n. one letters t0 (get_or changed n 0) p) t
      then p =
          rw (add-one j, take-suc arms j 0 hj) (some_append _ (take j arms) (get_or arms j 0))
          ∙ ap (λ (u : Transistor). armed c (λ n. one letters t0 (get_or changed n 0) p) (take j arms) || disturbed_by c (λ n. one letters t0 (get_or changed n 0) p) u) (ap (transistor_at c) ie ∙ te)

      same : (p : ℕ) → p < patterns letters → bit (one letters (held l w h used) z p || disturbed_by c (λ n. one letters (held l w h used) (get_or changed n 0) p) t) ≡ bit (armed c (λ n. one letters t0 (get_or changed n 0) p) (take (j + 1) arms))
      same p hp =
          ap₂ (λ (x y : Bool). bit (x || y))
          (ap (λ (v : ℕ). eqb v 1) (s.means.number p hp) ∙ cond_one (armed c (λ n. one letters t0 (get_or changed n 0) p) (take j arms)))
          (disturbed_same c (λ n. one letters (held l w h used) (get_or changed n 0) p) (λ n. one letters t0 (get_or changed n 0) p) t legal (λ n hn. changed_one changed o hc s.opened s.extends n p (omega arith)))
          ∙ ap bit (sym (then p))

  -- no room
  pub arming_full : {f g : ℕ → ℕ} {l2 w2 h2 ix2 : List ℕ} {r : Put} → Grown letters (held l w h used) f l2 w2 h2 ix2 r → stopped r.stop ≡ true → Grown letters (held l0 w0 h0 used0) g l2 w2 h2 ix2 r
  arming_full {r = r} q e = record {
    opened = λ n. true_false (stopped r.stop) e n;
    extends = λ n. true_false (stopped r.stop) e n;
    means = λ n. true_false (stopped r.stop) e n;
    crowded = λ y. crowded_from s.extends (q.crowded y);
  }

  -- all of them
  pub arming_done : (f : (ℕ → Bool) → Bool) → ((e : ℕ → Bool) → armed c e arms ≡ f e) → length arms ≤ j
      → Grown letters (held l0 w0 h0 used0) (λ p. bit (f (λ n. one letters (held l0 w0 h0 used0) (get_or changed n 0) p))) l w h ix (record { stop = Going; entry = z; used = used })
  arming_done f is le = record {
    opened = λ _. s.opened;
    extends = λ _. s.extends;
    means = λ _. means_same s.means (λ p hp. ap bit (ap (armed c (λ n. one letters t0 (get_or changed n 0) p)) (take_all j arms le) ∙ is (λ n. one letters t0 (get_or changed n 0) p)));
    crowded = λ y. absurd (true≢false (sym y));
  }
    where
      take_all : (m : ℕ) (is : List ℕ) → length is ≤ m → take m is ≡ is
      take_all zero [] g = refl
      take_all (suc m) [] g = refl
      take_all zero (i ∷ is) g = absurd (omega arith)
      take_all (suc m) (i ∷ is) g = ap (λ (js : List ℕ). i ∷ js) (take_all m is (omega arith))

-- a node that is considered, or not
pub seed_so : {letters : ℕ} {t : Table} {l w h ix : List ℕ} {r : Put} (b : Bool) (f : ℕ → Bool) → b ≡ true → Grown letters t (λ p. bit (f p)) l w h ix r → Grown letters t (λ p. bit (b && f p)) l w h ix r
seed_so b f e g = grown_same g (λ p _. sym (ap (λ (x : Bool). bit (x && f p)) e))

pub seed_not : {letters : ℕ} {l w h ix : List ℕ} {used : ℕ} (b : Bool) (f : ℕ → Bool) → b ≡ false → Open letters l w h ix used → Grown letters (held l w h used) (λ p. bit (b && f p)) l w h ix (record { stop = Going; entry = 0; used = used })
seed_not b f e o = grown_same (grown_there o (means_zero o)) (λ p _. sym (ap (λ (x : Bool). bit (x && f p)) e))

-- a loop over the nodes
pub record Seeding (c : Circuit) (only letters : ℕ) (t : Table) (changed l0 w0 h0 ix0 l w h ix : List ℕ) (used : ℕ) (out : List ℕ) (n : ℕ) : Type 0 where
  pub filling : Filling 26 letters t (λ m p. bit (is_considered c only m && seed_by c (λ i. one letters t (get_or changed i 0) p) m)) (λ m p. 0) l0 w0 h0 ix0 l w h ix used out n

pub seeding_first : (c : Circuit) (only : ℕ) {letters : ℕ} {changed l w h ix : List ℕ} {used : ℕ} {out : List ℕ} → Open letters l w h ix used → length out ≡ 26 → ((n : ℕ) → n < 26 → get_or out n 0 ≡ 0)
    → Seeding c only letters (held l w h used) changed l w h ix l w h ix used out 0
seeding_first c only {letters} {changed} {l} {w} {h} {ix} {used} o long zeros = record {
  filling =
      filling_first (λ m p. bit (is_considered c only m && seed_by c (λ i. one letters (held l w h used) (get_or changed i 0) p) m)) (λ m p. 0) o long
      (λ m hm. subst (λ (e : ℕ). Means letters (held l w h used) e (λ p. 0)) (sym (zeros m hm)) (means_zero o));
}

-- one node more
pub seeding_next : {c : Circuit} {only letters : ℕ} {changed l0 w0 h0 ix0 l w h ix : List ℕ} {used0 used : ℕ} {out : List ℕ} {n : ℕ} {l2 w2 h2 ix2 : List ℕ} {r : Put} → LegalCell c → length c.nodes ≤ 24 → Open letters l0 w0 h0 ix0 used0 → AllUsed 26 changed used0
    → Seeding c only letters (held l0 w0 h0 used0) changed l0 w0 h0 ix0 l w h ix used out n
    → Grown letters (held l w h used) (λ p. bit (is_considered c only n && seed_by c (λ i. one letters (held l w h used) (get_or changed i 0) p) n)) l2 w2 h2 ix2 r → stopped r.stop ≡ false → n < 26
    → length l2 ≡ length l → length w2 ≡ length w → length h2 ≡ length h → length ix2 ≡ length ix
    → Seeding c only letters (held l0 w0 h0 used0) changed l0 w0 h0 ix0 l2 w2 h2 ix2 r.used (set out n r.entry) (n + 1)
seeding_next {c} {only} {letters} {changed} {l0} {w0} {h0} {ix0} {l} {w} {h} {ix} {used0} {used} {n = n} legal few o hc s q room lt a b cc d = record {
  filling =
      filling_next s.filling q room
      (λ p hp.
      ap (λ (x : Bool). bit (is_considered c only n && x))
      (seed_same c legal (λ i. one letters (held l w h used) (get_or changed i 0) p) (λ i. one letters (held l0 w0 h0 used0) (get_or changed i 0) p)
      (λ i hi. changed_one changed o hc s.filling.filled.opened s.filling.filled.extends i p (omega arith)) n))
      lt a b cc d;
}

-- all of them
pub seeding_done : {c : Circuit} {only letters : ℕ} {t : Table} {changed l0 w0 h0 ix0 l w h ix : List ℕ} {used : ℕ} {out : List ℕ} {n more : ℕ} → Seeding c only letters t changed l0 w0 h0 ix0 l w h ix used out n → n ≡ more
    → Filled 26 letters t (λ m p. seed_number c more false only (λ i. one letters t (get_or changed i 0) p) m) l w h ix used out
seeding_done s e = filling_done s.filling e

-- entries 0 and 1 everywhere
filled_bits : {letters : ℕ} {l w h ix : List ℕ} {used : ℕ} {entries : List ℕ} (f : ℕ → Bool) → Open letters l w h ix used → ((g : ℕ) → g < 26 → get_or entries g 0 ≡ bit (f g)) → Filled 26 letters (held l w h used) (λ g p. bit (f g)) l w h ix used entries
filled_bits {letters} {l} {w} {h} {ix} {used} {entries} f o same = record { opened = o; extends = extends_refl _; means = λ g hg. subst (λ (e : ℕ). Means letters (held l w h used) e (λ p. bit (f g))) (sym (same g hg)) (by (f g)) }
  where
    by : (b : Bool) → Means letters (held l w h used) (bit b) (λ p. bit b)
    by true = is_one (open_few o) (open_sound o)
    by false = is_zero (open_few o) (open_sound o)

-- A loop that marks the considered nodes.
pub record Marking (c : Circuit) (only n : ℕ) (out : List ℕ) : Type 0 where
  pub long : length out ≡ 26
  pub marked : (j : ℕ) → j < 26 → get_or out j 0 ≡ cond (ltb j n) (bit (is_considered c only j)) 0

pub marking_first : (c : Circuit) (only : ℕ) {out : List ℕ} → length out ≡ 26 → ((j : ℕ) → j < 26 → get_or out j 0 ≡ 0) → Marking c only 0 out
marking_first c only long zeros = record {
  long = long;
  marked = λ j h. zeros j h ∙ sym (ap (λ (b : Bool). cond b (bit (is_considered c only j)) 0) (le-ltb j 0 (omega arith)));
}

pub marking_next : {c : Circuit} {only n e : ℕ} {out : List ℕ} → Marking c only n out → n < 26 → e ≡ bit (is_considered c only n) → Marking c only (n + 1) (set out n e)
marking_next {c} {only} {n} {e} {out} s lt same = record {
  long = length-set out n e ∙ s.long;
  marked = λ j h.
      ⊎_elim
      (λ (q : j ≡ n). rw q (get_or-set_same out n e 0 (omega (arith, s.long)) ∙ same ∙ sym (ap (λ (b : Bool). cond b (bit (is_considered c only n)) 0) (lt-ltb n (n + 1) (omega arith)))))
      (λ (ne : j ≡ n → ⊥). get_or-set_other out n j e 0 ne ∙ s.marked j h ∙ ap (λ (b : Bool). cond b (bit (is_considered c only j)) 0) (up_other n j ne))
      (eq_or_ne j n);
}

pub marking_done : {c : Circuit} {only n more : ℕ} {out : List ℕ} → Marking c only n out → n ≡ more → (j : ℕ) → j < 26 → get_or out j 0 ≡ cond (ltb j more) (bit (is_considered c only j)) 0
marking_done {c} {only} s e j h = s.marked j h ∙ ap (λ (x : ℕ). cond (ltb j x) (bit (is_considered c only j)) 0) e

-- seeds everywhere
and_bit : (a b : Bool) → cond a (bit b) 0 ≡ bit (a && b)
and_bit true b = refl
and_bit false b = refl

pub seed_every : {letters : ℕ} {l w h ix : List ℕ} {used : ℕ} {entries : List ℕ} (c : Circuit) (count : ℕ) (all : Bool) (only : ℕ) (changed : ℕ → ℕ → Bool) → all ≡ true → Open letters l w h ix used
    → ((n : ℕ) → n < 26 → get_or entries n 0 ≡ cond (ltb n count) (bit (is_considered c only n)) 0)
    → Filled 26 letters (held l w h used) (λ n p. seed_number c count all only (changed p) n) l w h ix used entries
seed_every c count all only changed e o same =
    filled_same (filled_bits (λ n. ltb n count && is_considered c only n) o (λ n hn. same n hn ∙ and_bit (ltb n count) (is_considered c only n)))
    (λ n p _ _.
    sym (ap (λ (z : Bool). cond (ltb n count) (bit (is_considered c only n && (z || seed_by c (changed p) n))) 0) e
    ∙ ap (λ (z : Bool). cond (ltb n count) (bit z) 0) (and-true (is_considered c only n)) ∙ and_bit (ltb n count) (is_considered c only n)))

-- what changed is a bit
if_bit : (a b : Bool) → cond a (bit b) 0 ≤ 1
if_bit true b = cond_le b
if_bit false b = omega arith

if_one : (a b : Bool) → eqb (cond a (bit b) 0) 1 ≡ (a && b)
if_one true b = cond_one b
if_one false b = refl

module _ {letters : ℕ} {t0 : Table} (t : Table) (before after : List ℕ) (count : ℕ) {l w h ix : List ℕ} {used : ℕ} {entries : List ℕ}
    (s : Filled 26 letters t0 (λ m p. cond (ltb m count) (bit (not (eqb (number_at letters t (get_or before m 0) p) (number_at letters t (get_or after m 0) p)))) 0) l w h ix used entries) where
  pub changes_bits : Bits letters (held l w h used) entries 26
  changes_bits m p hm hp = subst (λ (v : ℕ). v ≤ 1) (sym ((s.means m hm).number p hp)) (if_bit (ltb m count) (not (eqb (number_at letters t (get_or before m 0) p) (number_at letters t (get_or after m 0) p))))

  -- and what makes seeds
  pub seed_done : (c : Circuit) → LegalCell c → length c.nodes ≤ 24 → (all : Bool) (only more : ℕ) → all ≡ false → count ≡ more → more ≡ 2 + length c.nodes → {l2 w2 h2 ix2 : List ℕ} {used2 : ℕ} {seeds : List ℕ}
      → Filled 26 letters (held l w h used) (λ n p. seed_number c more false only (λ i. one letters (held l w h used) (get_or entries i 0) p) n) l2 w2 h2 ix2 used2 seeds
      → Filled 26 letters t0 (λ n p. seed_number c more all only (differs more letters t before after p) n) l2 w2 h2 ix2 used2 seeds
  seed_done c legal few all only more e same is f =
      filled_from
      (filled_same f (λ n p hn hp.
      ap (λ (z : Bool). cond (ltb n more) (bit (is_considered c only n && z)) 0)
      (seed_same c legal (λ i. one letters (held l w h used) (get_or entries i 0) p) (differs more letters t before after p)
      (λ i hi. ap (λ (v : ℕ). eqb v 1) ((s.means i (omega arith)).number p hp) ∙ if_one (ltb i count) (not (eqb (number_at letters t (get_or before i 0) p) (number_at letters t (get_or after i 0) p))) ∙ ap (λ (z : ℕ). ltb i z && not (eqb (number_at letters t (get_or before i 0) p) (number_at letters t (get_or after i 0) p))) same) n)
      ∙ sym (ap (λ (z : Bool). cond (ltb n more) (bit (is_considered c only n && (z || seed_by c (differs more letters t before after p) n))) 0) e)))
      s.extends

-- A loop that marks the groups of the nodes with another function than entry 0.
pub record Activating (c : Circuit) (seeds : List ℕ) (n : ℕ) (out : List ℕ) : Type 0 where
  pub long : length out ≡ 26
  pub active : Active c n seeds out

pub activating_first : (c : Circuit) (seeds : List ℕ) {out : List ℕ} → length out ≡ 26 → ((g : ℕ) → g < 26 → get_or out g 0 ≡ 0) → Activating c seeds 0 out
activating_first c seeds long zeros = record { long = long; active = record { bits = λ g h. omega (arith, zeros g h); marked = λ m h. absurd (omega arith) } }

pub activating_next : {c : Circuit} {seeds : List ℕ} {n g : ℕ} {out : List ℕ} → Activating c seeds n out → g < 26 → (is_inner c n ≡ true → (get_or seeds n 0 ≡ 0 → ⊥) → g ≡ label_at (groups c) n)
    → Activating c seeds (n + 1) (set out g 1)
activating_next {c} {seeds} {n} {g} {out} s small is = record { long = length-set out g 1 ∙ s.long; active = record { bits = bits; marked = marked } }
  where
    own : get_or (set out g 1) g 0 ≡ 1
    own = get_or-set_same out g 1 0 (omega (arith, s.long))

    bits : (j : ℕ) → j < 26 → get_or (set out g 1) j 0 ≤ 1
    bits j h =
        ⊎_elim
        (λ (q : j ≡ g). subst (λ (x : ℕ). get_or (set out g 1) x 0 ≤ 1) (sym q) (omega (arith, own)))
        (λ (ne : j ≡ g → ⊥). omega (arith, get_or-set_other out g j 1 0 ne, s.active.bits j h))
        (eq_or_ne j g)

    -- what was marked stays so
    marked : (m : ℕ) → m < n + 1 → is_inner c m ≡ true → (get_or seeds m 0 ≡ 0 → ⊥) → get_or (set out g 1) (label_at (groups c) m) 0 ≡ 1
    marked m h inner ne =
        ⊎_elim
        (λ (q : label_at (groups c) m ≡ g). ap (λ (x : ℕ). get_or (set out g 1) x 0) q ∙ own)
        (λ (other : label_at (groups c) m ≡ g → ⊥).
        get_or-set_other out g (label_at (groups c) m) 1 0 other
        ∙ s.active.marked m
        (⊎_elim
        (λ (lt' : m < n). lt')
        (λ (ge : n ≤ m). let same : n ≡ m = omega arith in absurd (other (sym (subst (λ (x : ℕ). is_inner c x ≡ true → (get_or seeds x 0 ≡ 0 → ⊥) → g ≡ label_at (groups c) x) same is inner ne))))
        (lt_or_ge m n))
        inner ne)
        (eq_or_ne (label_at (groups c) m) g)

-- 0 is no group's label
pub activating_done : {c : Circuit} {seeds : List ℕ} {n more : ℕ} {out : List ℕ} → Activating c seeds n out → n ≡ more → ((m : ℕ) → m < more → is_inner c m ≡ true → 2 ≤ label_at (groups c) m)
    → Active c more seeds (set out 0 0)
activating_done {c} {seeds} {n} {more} {out} s e least = record {
  bits = λ g h.
      ⊎_elim
      (λ (q : g ≡ 0). subst (λ (x : ℕ). get_or (set out 0 0) x 0 ≤ 1) (sym q) (omega (arith, get_or-set_same out 0 0 0 (omega (arith, s.long)))))
      (λ (ne : g ≡ 0 → ⊥). omega (arith, get_or-set_other out 0 g 0 0 ne, s.active.bits g h))
      (eq_or_ne g 0);
  marked = λ m h inner ne.
      get_or-set_other out 0 (label_at (groups c) m) 0 0 (λ z. omega (arith, least m h inner)) ∙ s.active.marked m (omega (arith, e)) inner ne;
}
