-- Soundness of a table as plain facts, and the two ways between them and the test.
use mathlib.Core.Path.{◌≡◌, refl, sym, ap}
use mathlib.Core.Logic.{⊎_elim}
use mathlib.Core.Bool.{Bool, true, false, not, ◌&&◌}
use Prim.Native.Nat.{ℕ, ◌<◌, ◌≤◌}
use native.Mathlib.Omega.{arith}
use lib.ListN.{length}
use lib.Dec.{leb, ltb, eqb}
use borrow.Author.Tests.{ltb-true, leb-true, eqb-true, eqb-false, not-true, lt-ltb, le-leb, eq-eqb, ne_eqb}
use Rattle.lists.specs.Tests.{below}
use Rattle.lists.proofs.Cases.{bool_cases, lt_or_ge, eq_or_ne, and_left, and_right, and_both, true_false}
use Rattle.lists.proofs.Below.{below_each, each_below}
use Rattle.diagram.specs.Table.{Entry, Table, never, terminal_letter, terminal, entry_at, same}
use Rattle.diagram.specs.Sound.{part_legal, entry_legal, distinct, fixed_terminals, sound}

-- an entry passes the comparison with itself
pub same_refl : (a : Entry) → same a a ≡ true
same_refl a =
    and_both (eqb a.letter a.letter && eqb a.low a.low) (eqb a.high a.high)
    (and_both (eqb a.letter a.letter) (eqb a.low a.low) (eq-eqb a.letter a.letter refl) (eq-eqb a.low a.low refl))
    (eq-eqb a.high a.high refl)

-- so do two that are equal
pub equal_same : (a b : Entry) → a ≡ b → same a b ≡ true
equal_same a b e = rw e (same_refl b)

-- an entry is its three numbers
pub entry_path : (a b : Entry) → a.letter ≡ b.letter → a.low ≡ b.low → a.high ≡ b.high → a ≡ b
entry_path a b p q r = λ i. record { letter = p i; low = q i; high = r i }

-- entries that pass the comparison are equal
pub same_equal : (a b : Entry) → same a b ≡ true → a ≡ b
same_equal a b e =
    let both : (eqb a.letter b.letter && eqb a.low b.low) ≡ true = and_left (eqb a.letter b.letter && eqb a.low b.low) (eqb a.high b.high) e in
    entry_path a b
    (eqb-true a.letter b.letter (and_left (eqb a.letter b.letter) (eqb a.low b.low) both))
    (eqb-true a.low b.low (and_right (eqb a.letter b.letter) (eqb a.low b.low) both))
    (eqb-true a.high b.high (and_right (eqb a.letter b.letter && eqb a.low b.low) (eqb a.high b.high) e))

-- entries that fail it are not
pub same_differ : (a b : Entry) → same a b ≡ false → a ≡ b → ⊥
same_differ a b f e = true_false (same a b) (equal_same a b e) f

-- entries that differ fail it
pub differ_same : (a b : Entry) → (a ≡ b → ⊥) → same a b ≡ false
differ_same a b n = ⊎_elim (λ (e : same a b ≡ true). absurd (n (same_equal a b e))) (λ (e : same a b ≡ false). e) (bool_cases (same a b))

-- what a branch that stands at place i keeps to
pub record Branch (letters : ℕ) (t : Table) (i : ℕ) (x : Entry) : Type 0 where
  pub letter_in : x.letter < letters
  pub low_earlier : x.low < i
  pub low_later : x.letter < (entry_at t x.low).letter
  pub high_earlier : x.high < i
  pub high_later : x.letter < (entry_at t x.high).letter
  pub differ : x.low ≡ x.high → ⊥

-- a terminal, or a branch
pub record Legal (letters : ℕ) (t : Table) (i : ℕ) (x : Entry) : Type 0 where
  pub leaf : x.letter ≡ terminal_letter → x.high ≡ 0
  pub node : (x.letter ≡ terminal_letter → ⊥) → Branch letters t i x

-- a sound table
pub record Sound (letters : ℕ) (t : Table) : Type 0 where
  pub three : 3 ≤ length t
  pub zeroth : entry_at t 0 ≡ terminal 0
  pub first : entry_at t 1 ≡ terminal 1
  pub second : entry_at t 2 ≡ terminal never
  pub legal : (i : ℕ) → i < length t → Legal letters t i (entry_at t i)
  pub apart : (i j : ℕ) → i < length t → j < length t → entry_at t i ≡ entry_at t j → i ≡ j

-- an entry whose letter is none of the K is a terminal
pub past_terminal : {letters : ℕ} (t : Table) (e : ℕ) → Sound letters t → e < length t → letters ≤ (entry_at t e).letter → entry_at t e ≡ terminal (entry_at t e).low
past_terminal {letters} t e s h le =
    ⊎_elim
    (λ (q : (entry_at t e).letter ≡ terminal_letter). entry_path (entry_at t e) (terminal (entry_at t e).low) q refl ((s.legal e h).leaf q))
    (λ (n : (entry_at t e).letter ≡ terminal_letter → ⊥). let b : Branch letters t e (entry_at t e) = (s.legal e h).node n in absurd (omega arith))
    (eq_or_ne (entry_at t e).letter terminal_letter)

-- the test of a branch and its facts
abbrev branch_legal : ℕ → Table → ℕ → Entry → Bool
branch_legal letters t i x =
    ltb x.letter letters
    && part_legal t i x.letter x.low
    && part_legal t i x.letter x.high
    && not (eqb x.low x.high)

module _ (letters : ℕ) (t : Table) (i : ℕ) (x : Entry) where
  branch_record : branch_legal letters t i x ≡ true → Branch letters t i x
  branch_record e =
      let a : Bool = ltb x.letter letters in
      let b : Bool = part_legal t i x.letter x.low in
      let c : Bool = part_legal t i x.letter x.high in
      let d : Bool = not (eqb x.low x.high) in
      let abc : (a && b && c) ≡ true = and_left (a && b && c) d e in
      let ab : (a && b) ≡ true = and_left (a && b) c abc in
      let isb : b ≡ true = and_right a b ab in
      let isc : c ≡ true = and_right (a && b) c abc in
      record {
        letter_in = ltb-true x.letter letters (and_left a b ab);
        low_earlier = ltb-true x.low i (and_left (ltb x.low i) (ltb x.letter (entry_at t x.low).letter) isb);
        low_later = ltb-true x.letter (entry_at t x.low).letter (and_right (ltb x.low i) (ltb x.letter (entry_at t x.low).letter) isb);
        high_earlier = ltb-true x.high i (and_left (ltb x.high i) (ltb x.letter (entry_at t x.high).letter) isc);
        high_later = ltb-true x.letter (entry_at t x.high).letter (and_right (ltb x.high i) (ltb x.letter (entry_at t x.high).letter) isc);
        differ = eqb-false x.low x.high (not-true (eqb x.low x.high) (and_right (a && b && c) d e));
      }

  branch_test : Branch letters t i x → branch_legal letters t i x ≡ true
  branch_test h =
      rw (
        lt-ltb x.letter letters h.letter_in,
        lt-ltb x.low i h.low_earlier,
        lt-ltb x.letter (entry_at t x.low).letter h.low_later,
        lt-ltb x.high i h.high_earlier,
        lt-ltb x.letter (entry_at t x.high).letter h.high_later,
        ne_eqb x.low x.high h.differ,
      )

-- an entry that passes the test is legal
pub legal_record : (letters : ℕ) (t : Table) (i : ℕ) → entry_legal letters t i ≡ true → Legal letters t i (entry_at t i)
unfolding entry_legal
legal_record letters t i e = record {
  leaf = λ l. eqb-true (entry_at t i).high 0 (rw (eq-eqb (entry_at t i).letter terminal_letter l) at e);
  node = λ n. branch_record letters t i (entry_at t i) (rw (ne_eqb (entry_at t i).letter terminal_letter n) at e);
}

-- a legal entry passes the test
pub legal_test : (letters : ℕ) (t : Table) (i : ℕ) → Legal letters t i (entry_at t i) → entry_legal letters t i ≡ true
unfolding entry_legal
legal_test letters t i h =
    ⊎_elim
    (λ (l : (entry_at t i).letter ≡ terminal_letter). rw (eq-eqb (entry_at t i).letter terminal_letter l) (eq-eqb (entry_at t i).high 0 (h.leaf l)))
    (λ (n : (entry_at t i).letter ≡ terminal_letter → ⊥). rw (ne_eqb (entry_at t i).letter terminal_letter n) (branch_test letters t i (entry_at t i) (h.node n)))
    (eq_or_ne (entry_at t i).letter terminal_letter)

-- distinct entries, at places in order
earlier_apart : (t : Table) → distinct t ≡ true → (i j : ℕ) → i < length t → j < i → entry_at t i ≡ entry_at t j → ⊥
unfolding distinct
earlier_apart t e i j h g =
    same_differ (entry_at t i) (entry_at t j)
    (not-true (same (entry_at t i) (entry_at t j))
    (below_each i (λ k. not (same (entry_at t i) (entry_at t k))) (below_each (length t) (λ m. below m (λ k. not (same (entry_at t m) (entry_at t k)))) e i h) j g))

-- a table that passes the test has its entries apart
pub distinct_apart : (t : Table) → distinct t ≡ true → (i j : ℕ) → i < length t → j < length t → entry_at t i ≡ entry_at t j → i ≡ j
distinct_apart t e i j hi hj q =
    ⊎_elim
    (λ (g : i < j). absurd (earlier_apart t e j i hj g (sym q)))
    (λ (g : j ≤ i). ⊎_elim (λ (l : j < i). absurd (earlier_apart t e i j hi l q)) (λ (l : i ≤ j). omega arith) (lt_or_ge j i))
    (lt_or_ge i j)

-- a table whose entries are apart passes the test
pub apart_distinct : (t : Table) → ((i j : ℕ) → i < length t → j < length t → entry_at t i ≡ entry_at t j → i ≡ j) → distinct t ≡ true
unfolding distinct
apart_distinct t h =
    each_below (length t) (λ i. below i (λ j. not (same (entry_at t i) (entry_at t j)))) (λ i hi.
    each_below i (λ j. not (same (entry_at t i) (entry_at t j))) (λ j hj.
    ap not (differ_same (entry_at t i) (entry_at t j) (λ q. let z : i ≡ j = h i j hi (omega arith) q in omega arith))))

-- a table that passes the test keeps to the facts
pub sound_record : (letters : ℕ) (t : Table) → sound letters t ≡ true → Sound letters t
unfolding sound fixed_terminals
sound_record letters t e =
    let a : Bool = leb 3 (length t) in
    let b : Bool = same (entry_at t 0) (terminal 0) in
    let c : Bool = same (entry_at t 1) (terminal 1) in
    let d : Bool = same (entry_at t 2) (terminal never) in
    let f : Bool = below (length t) (entry_legal letters t) in
    let g : Bool = distinct t in
    let abcdf : (a && b && c && d && f) ≡ true = and_left (a && b && c && d && f) g e in
    let abcd : (a && b && c && d) ≡ true = and_left (a && b && c && d) f abcdf in
    let abc : (a && b && c) ≡ true = and_left (a && b && c) d abcd in
    let ab : (a && b) ≡ true = and_left (a && b) c abc in
    record {
      three = leb-true 3 (length t) (and_left a b ab);
      zeroth = same_equal (entry_at t 0) (terminal 0) (and_right a b ab);
      first = same_equal (entry_at t 1) (terminal 1) (and_right (a && b) c abc);
      second = same_equal (entry_at t 2) (terminal never) (and_right (a && b && c) d abcd);
      legal = λ i h. legal_record letters t i (below_each (length t) (entry_legal letters t) (and_right (a && b && c && d) f abcdf) i h);
      apart = distinct_apart t (and_right (a && b && c && d && f) g e);
    }

-- a table that keeps to the facts passes the test
pub sound_test : (letters : ℕ) (t : Table) → Sound letters t → sound letters t ≡ true
unfolding sound fixed_terminals
sound_test letters t s =
    rw (
      le-leb 3 (length t) s.three,
      equal_same (entry_at t 0) (terminal 0) s.zeroth,
      equal_same (entry_at t 1) (terminal 1) s.first,
      equal_same (entry_at t 2) (terminal never) s.second,
      each_below (length t) (entry_legal letters t) (λ i h. legal_test letters t i (s.legal i h)),
      apart_distinct t s.apart,
    )
