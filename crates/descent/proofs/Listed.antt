-- Loops that go through the listed places: one that fills a list at them, one that lists again those that stay, and one that finds the least letter.
use mathlib.Core.Path.{◌≡◌, refl, sym, ◌∙◌, ap, subst}
use mathlib.Core.Logic.{◌⊎◌, inl, inr, ⊎_elim}
use mathlib.Core.List.{List, ◌++◌, map}
use mathlib.Core.Bool.{true, false, cond}
use Prim.Native.Nat.{ℕ, ◌+◌, ◌<◌, ◌≤◌}
use native.Mathlib.Omega.{arith}
use lib.ListN.{length, get_or, set, take, length-set, replicate, get_or-replicate, get_or-append}
use lib.Seq.{get_or-set_same, get_or-set_other, get_or-take, length-take-le, ext_get_or}
use lib.Dec.{eqb}
use Rattle.std.proofs.lemmas.Grind.{get_or_default_zero}
use borrow.Author.Tests.{eqb-true, ne_eqb}
use Rattle.lists.proofs.Cases.{bool_cases, lt_or_ge, eq_or_ne}
use Rattle.lists.proofs.Map.{map_at}
use Rattle.diagram.specs.Table.{terminal_letter}
use Rattle.net.specs.Roots.{roots_length}
use Rattle.descent.specs.Live.{Listed, Places, Live}
use Rattle.descent.specs.Descend.{Least, HalfOf}
use Rattle.descent.proofs.Fill.{LeastTo}

-- zeros: nothing has to be listed
pub live_zeros : {live : List ℕ} {count : ℕ} → Places live count → Live (replicate roots_length 0) live count
live_zeros p = record { long = refl; places = p; listed = λ j h. inl (get_or-replicate roots_length j 0 0 h) }

-- all places are listed
pub live_all : {roots live : List ℕ} → length roots ≡ roots_length → length live ≡ roots_length → ((i : ℕ) → i < roots_length → get_or live i 0 ≡ i) → Live roots live roots_length
live_all size long is = record {
  long = size;
  places = record { long = long; few = omega arith; place = λ i h. omega (arith, is i h) };
  listed = λ j h. inr (j, h, is j h);
}

-- the listed places before the i-th are filled; the others are 0 or listed
pub record FilledAt (F : ℕ → ℕ) (live : List ℕ) (count i : ℕ) (out : List ℕ) : Type 0 where
  pub long : length out ≡ roots_length
  pub done : (n : ℕ) → n < i → get_or out (get_or live n 0) 0 ≡ F (get_or live n 0)
  pub rest : (j : ℕ) → j < roots_length → (get_or out j 0 ≡ 0) ⊎ Listed live count j

pub at_none : (F : ℕ → ℕ) {live : List ℕ} {count : ℕ} {out : List ℕ} → Live out live count → FilledAt F live count 0 out
at_none F o = record { long = o.long; done = λ n h. absurd (omega arith); rest = o.listed }

-- the first `count` of a list are so many
pub taken_count : {live : List ℕ} {count : ℕ} → Places live count → length (take count live) ≡ count
taken_count {live} {count} p = length-take-le count live (omega (arith, p.long, p.few))

-- an element of them
taken_at : {live : List ℕ} {count i : ℕ} → Places live count → i < length (take count live) → (i < count) × (get_or (take count live) i 0 ≡ get_or live i 0)
taken_at {live} {count} {i} p small = let fewer : i < count = omega (arith, taken_count p, small) in (fewer, get_or-take count live i 0 fewer)

pub taken_place : {live : List ℕ} {count : ℕ} → Places live count → (i d : ℕ) → i < length (take count live) → get_or (take count live) i d < roots_length
taken_place {live} {count} p i d small = let at = taken_at p small in rw (get_or_default_zero (take count live) i d small) (omega (arith, p.place i at.0, at.1))

-- one more place
pub at_next : {F : ℕ → ℕ} {live : List ℕ} {count i : ℕ} {out : List ℕ} → FilledAt F live count i out → Places live count → i < length (take count live) → (v : ℕ) → v ≡ F (get_or (take count live) i 0)
    → FilledAt F live count (i + 1) (set out (get_or (take count live) i 0) v)
at_next {F} {live} {count} {i} {out} f p small v e =
    let a : ℕ = get_or (take count live) i 0 in
    let at = taken_at p small in
    record {
      long = length-set out a v ∙ f.long;
      done = λ n h.
          ⊎_elim
          (λ (q : get_or live n 0 ≡ a). ap (λ (k : ℕ). get_or (set out a v) k 0) q ∙ get_or-set_same out a v 0 (omega (arith, f.long, p.place i at.0, at.1)) ∙ e ∙ ap F (sym q))
          (λ (q : get_or live n 0 ≡ a → ⊥).
          get_or-set_other out a (get_or live n 0) v 0 q
          ∙ ⊎_elim (λ (g : n < i). f.done n g) (λ (g : i ≤ n). let s : n ≡ i = omega arith in absurd (q (ap (λ (k : ℕ). get_or live k 0) s ∙ sym at.1))) (lt_or_ge n i))
          (eq_or_ne (get_or live n 0) a);
      rest = λ j h.
          ⊎_elim
          (λ (q : j ≡ a). inr (i, at.0, sym at.1 ∙ sym q))
          (λ (q : j ≡ a → ⊥). subst (λ (x : ℕ). (x ≡ 0) ⊎ Listed live count j) (sym (get_or-set_other out a j v 0 q)) (f.rest j h))
          (eq_or_ne j a);
    }

-- those of the listed places before the i-th whose numbers are not 0 are listed again
pub record KeptTo (F : ℕ → ℕ) (live : List ℕ) (i : ℕ) (list : List ℕ) (total : ℕ) : Type 0 where
  pub long : length list ≡ roots_length
  pub fewer : total ≤ i
  pub place : (n : ℕ) → n < total → get_or list n 0 < roots_length
  pub kept : (n : ℕ) → n < i → (F (get_or live n 0) ≡ 0) ⊎ Listed list total (get_or live n 0)

module _ {F : ℕ → ℕ} {live : List ℕ} {count i : ℕ} {list : List ℕ} {total : ℕ} (k : KeptTo F live i list total) (p : Places live count) (small : i < length (take count live)) (v : ℕ) (e : v ≡ F (get_or (take count live) i 0)) where
  kept_same : v ≡ 0 → KeptTo F live (i + 1) list total
  kept_same z = record {
    long = k.long;
    fewer = omega (arith, k.fewer);
    place = k.place;
    kept = λ n h. ⊎_elim (λ (g : n < i). k.kept n g) (λ (g : i ≤ n). let s : n ≡ i = omega arith in inl (ap (λ (x : ℕ). F (get_or live x 0)) s ∙ ap F (sym (taken_at p small).1) ∙ sym e ∙ z)) (lt_or_ge n i);
  }

  kept_more : KeptTo F live (i + 1) (set list total (get_or (take count live) i 0)) (total + 1)
  kept_more =
      let a : ℕ = get_or (take count live) i 0 in
      let at = taken_at p small in
      let room : total < length list = omega (arith, k.long, k.fewer, p.few, at.0) in
      let same : (n : ℕ) → n < total → get_or (set list total a) n 0 ≡ get_or list n 0 = λ n h. get_or-set_other list total n a 0 (λ q. omega arith) in
      record {
        long = length-set list total a ∙ k.long;
        fewer = omega (arith, k.fewer);
        place = λ n h.
            ⊎_elim
            (λ (g : n < total). rw (same n g) (k.place n g))
            (λ (g : total ≤ n). let s : n ≡ total = omega arith in rw (s, get_or-set_same list total a 0 room) (omega (arith, p.place i at.0, at.1)))
            (lt_or_ge n total);
        kept = λ n h.
            ⊎_elim
            (λ (g : n < i). ⊎_elim (λ (z : F (get_or live n 0) ≡ 0). inl z) (λ (l : Listed list total (get_or live n 0)). inr (l.0, omega (arith, l.1), same l.0 l.1 ∙ l.2)) (k.kept n g))
            (λ (g : i ≤ n). let s : n ≡ i = omega arith in inr (total, omega arith, get_or-set_same list total a 0 room ∙ at.1 ∙ ap (λ (x : ℕ). get_or live x 0) (sym s)))
            (lt_or_ge n i);
      }

  -- one more place
  pub kept_next : {list' : List ℕ} {total' : ℕ} → total' ≡ cond (eqb v 0) total (total + 1) → list' ≡ cond (eqb v 0) list (set list total (get_or (take count live) i 0)) → KeptTo F live (i + 1) list' total'
  kept_next et el =
      rw (et, el)
      (⊎_elim
      (λ (b : eqb v 0 ≡ true). rw b (kept_same (eqb-true v 0 b)))
      (λ (b : eqb v 0 ≡ false). rw b kept_more)
      (bool_cases (eqb v 0)))

-- the root at a listed place
pub root_listed : {roots live : List ℕ} {count : ℕ} → Live roots live count → (n : ℕ) → n < count → get_or (map (λ (j : ℕ). get_or roots j 0) live) n 0 ≡ get_or roots (get_or live n 0) 0
root_listed {roots} {live} r n h = map_at (λ (j : ℕ). get_or roots j 0) live 0 0 n (omega (arith, r.places.long, r.places.few))

pub root_taken : {roots live : List ℕ} {count : ℕ} → Live roots live count → (n : ℕ) → n < length (take count live) → get_or (map (λ (j : ℕ). get_or roots j 0) live) n 0 ≡ get_or roots (get_or (take count live) n 0) 0
root_taken {roots} r n h = let at = taken_at r.places h in root_listed r n at.0 ∙ ap (λ (j : ℕ). get_or roots j 0) (sym at.1)

-- the least letter of the listed roots is that of all: entry 0 is a terminal
pub least_all : {letter roots live : List ℕ} {count i m : ℕ} → Live roots live count → get_or letter 0 0 ≡ terminal_letter → m ≤ terminal_letter
    → LeastTo letter (map (λ (j : ℕ). get_or roots j 0) live) i m → count ≤ i → i ≤ count → Least letter roots m
least_all {letter} {roots} {live} {count} {i} {m} r zero most f end last = record {
  least = λ j h.
      ⊎_elim
      (λ (z : get_or roots j 0 ≡ 0). rw z (omega (arith, zero)))
      (λ (l : Listed live count j). subst (λ (x : ℕ). m ≤ get_or letter x 0) (root_listed r l.0 l.1 ∙ ap (λ (x : ℕ). get_or roots x 0) l.2) (f.least l.0 (omega (arith, l.1))))
      (r.listed j h);
  taken = λ n.
      let t = f.taken n in
      let small : t.0 < count = omega (arith, t.1) in
      (get_or live t.0 0, r.places.place t.0 small, ap (λ (x : ℕ). get_or letter x 0) (sym (root_listed r t.0 small)) ∙ t.2);
}

-- the part of entry 0 at another letter
part_zero : (letter side : List ℕ) (m : ℕ) → (get_or letter 0 0 ≡ m → ⊥) → (e : ℕ) → e ≡ 0 → cond (eqb (get_or letter e 0) m) (get_or side e 0) e ≡ 0
part_zero letter side m other e z = rw (z, ne_eqb (get_or letter 0 0) m other)

-- the parts of the roots at a letter that is not entry 0's
module _ {letter side roots live : List ℕ} {count m : ℕ} (r : Live roots live count) (other : get_or letter 0 0 ≡ m → ⊥) where
  -- the list serves them too
  pub half_live : {out : List ℕ} → HalfOf letter side roots m out → Live out live count
  half_live f = record {
    long = f.long;
    places = r.places;
    listed = λ j h. ⊎_elim (λ (z : get_or roots j 0 ≡ 0). inl (f.is j h ∙ part_zero letter side m other (get_or roots j 0) z)) (λ (l : Listed live count j). inr l) (r.listed j h);
  }

-- what was filled at every listed place: the others have nothing to hold
at_all : {F : ℕ → ℕ} {live : List ℕ} {count i : ℕ} {out : List ℕ} → FilledAt F live count i out → count ≤ i → ((j : ℕ) → j < roots_length → (F j ≡ 0) ⊎ Listed live count j)
    → (j : ℕ) → j < roots_length → get_or out j 0 ≡ F j
at_all {F} {live} {count} {i} {out} f end zero j h =
    ⊎_elim
    (λ (z : F j ≡ 0). ⊎_elim (λ (o : get_or out j 0 ≡ 0). o ∙ sym z) by (f.rest j h))
    by
    (zero j h)
  where
    by : Listed live count j → get_or out j 0 ≡ F j
    by l = subst (λ (x : ℕ). get_or out x 0 ≡ F x) l.2 (f.done l.0 (omega (arith, l.1)))

-- roots copied at the listed places, and the list's beginning: the same roots, listed
pub copied : {roots live out first : List ℕ} (tail : List ℕ) {count i : ℕ} → Live roots live count → FilledAt (λ (j : ℕ). get_or roots j 0) live count i out → length (take count live) ≤ i
    → first ≡ take count live → length (first ++ tail) ≡ roots_length → (out ≡ roots) × Live out (first ++ tail) count
copied {roots} {live} {out} {first} tail {count} {i} r f end is long =
    let size : length (take count live) ≡ count = taken_count r.places in
    let same : out ≡ roots = ext_get_or 0 out roots (f.long ∙ sym r.long) (λ j h. at_all f (omega (arith, size, end)) r.listed j (omega (arith, f.long, h))) in
    let own : (n : ℕ) → n < count → get_or (first ++ tail) n 0 ≡ get_or live n 0 =
    λ n h. get_or-append first tail 0 n (omega (arith, h, size, ap length is)) ∙ ap (λ (xs : List ℕ). get_or xs n 0) is ∙ get_or-take count live n 0 h in (
      same,
      record {
        long = f.long;
        places = record { long = long; few = r.places.few; place = λ n h. subst (λ (x : ℕ). x < roots_length) (sym (own n h)) (r.places.place n h) };
        listed = λ j h.
            ⊎_elim
            (λ (z : get_or roots j 0 ≡ 0). inl (ap (λ (xs : List ℕ). get_or xs j 0) same ∙ z))
            (λ (w : Listed live count j). inr (w.0, w.1, own w.0 w.1 ∙ w.2))
            (r.listed j h);
      },
    )
