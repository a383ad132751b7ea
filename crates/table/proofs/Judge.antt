-- The check of a table, step by step, against the definition of soundness.
use mathlib.Core.Path.{◌≡◌, sym, ◌∙◌, ap}
use mathlib.Core.Logic.{⊎_elim}
use mathlib.Core.List.{List}
use mathlib.Core.Bool.{Bool, true, false, not, ◌&&◌, cond, true≢false}
use Prim.Native.Nat.{ℕ, ◌<◌, ◌≤◌}
use native.Mathlib.Omega.{arith}
use lib.ListN.{length, get_or, drop}
use lib.Seq.{get_or-take}
use lib.Dec.{ltb, eqb}
use borrow.Author.Tests.{le-ltb, le-leb, lt-leb}
use Rattle.lists.specs.Tests.{below}
use Rattle.lists.proofs.Cases.{bool_cases, lt_or_ge, and_left, and_right, and_both, true_false}
use Rattle.lists.proofs.Below.{below_each, each_below}
use Rattle.diagram.specs.Table.{Entry, Table, blank, terminal_letter, entry_at}
use Rattle.diagram.specs.Sound.{part_legal, entry_legal, distinct, fixed_terminals, sound}
use Rattle.diagram.specs.Held.{all_blank, entries, held, held_sound, high_of, letter_of, low_of}
use Rattle.diagram.proofs.Sound.{distinct_apart, apart_distinct}
use Rattle.diagram.proofs.Held.{HeldSound, entries_at, held_length, held_record, held_whole}
use Rattle.table.specs.Holds.{Sized, Ready, Judged}
use Rattle.table.specs.Steps.{part_in, three_terminals, entries_legal, Filled}

-- a test that cannot pass fails
refuted : (x : Bool) → (x ≡ true → ⊥) → false ≡ x
refuted x no-pass = ⊎_elim (λ (e : x ≡ true). absurd (no-pass e)) (λ (e : x ≡ false). sym e) (bool_cases x)

-- an entry
module _ (letters : ℕ) (l w h : List ℕ) (i : ℕ) (p : length w ≡ length l) (q : length h ≡ length l) where
  letter_at_lem : (j : ℕ) → (entry_at (entries l w h) j).letter ≡ get_or l j 0
  letter_at_lem j = ap letter_of (entries_at l w h p q j)

  low_at : (entry_at (entries l w h) i).low ≡ get_or w i 0
  low_at = ap low_of (entries_at l w h p q i)

  high_at : (entry_at (entries l w h) i).high ≡ get_or h i 0
  high_at = ap high_of (entries_at l w h p q i)

  pub legal_is : entry_legal letters (entries l w h) i ≡ cond (eqb (get_or l i 0) terminal_letter)
      (eqb (get_or h i 0) 0)
      (ltb (get_or l i 0) letters && part_in l i (get_or l i 0) (get_or w i 0) && part_in l i (get_or l i 0) (get_or h i 0) && not (eqb (get_or w i 0) (get_or h i 0)))
  unfolding entry_legal
  legal_is = rw (letter_at_lem i, low_at, high_at, letter_at_lem (get_or w i 0), letter_at_lem (get_or h i 0))

-- legality of an entry looks at no later one
module _ (letters : ℕ) (t u : Table) (i : ℕ) (agree : (j : ℕ) → j ≤ i → entry_at t j ≡ entry_at u j) where
  part_agree : (k e : ℕ) → part_legal t i k e ≡ part_legal u i k e
  part_agree k e =
      ⊎_elim
      (λ (l : e < i). ap (λ (x : Entry). ltb e i && ltb k x.letter) (agree e (omega arith)))
      (λ (l : i ≤ e). rw (le-ltb e i l))
      (lt_or_ge e i)

  legal_agree : entry_legal letters t i ≡ entry_legal letters u i
  unfolding entry_legal
  legal_agree = rw (agree i (omega arith), part_agree (entry_at u i).letter (entry_at u i).low, part_agree (entry_at u i).letter (entry_at u i).high)

-- the first n rows are legal, differ, and are in the index
pub record Filling (letters : ℕ) (l w h : List ℕ) (n : ℕ) (ix : List ℕ) : Type 0 where
  pub ready : Ready l w h ix n
  pub legal : (i : ℕ) → i < n → entry_legal letters (entries l w h) i ≡ true
  pub new : (i j : ℕ) → i < n → j < i → entry_at (entries l w h) j ≡ entry_at (entries l w h) i → ⊥

module _ (letters : ℕ) (l w h : List ℕ) (used : ℕ) (p : length w ≡ length l) (q : length h ≡ length l) (fits : used ≤ length l) where
  long : length (held l w h used) ≡ used
  long = held_length l w h p q used fits

  at : (i : ℕ) → i < used → entry_at (held l w h used) i ≡ entry_at (entries l w h) i
  at i g = get_or-take used (entries l w h) i blank g

  legal_at : (i : ℕ) → i < used → entry_legal letters (held l w h used) i ≡ entry_legal letters (entries l w h) i
  legal_at i g = legal_agree letters (held l w h used) (entries l w h) i (λ j s. at j (omega arith))

  -- an entry that is not legal
  pub filled_illegal : (ix : List ℕ) (i : ℕ) → i < used → entry_legal letters (entries l w h) i ≡ false → Filled letters l w h used ix false
  filled_illegal ix i g e = record {
    is = refuted (entries_legal letters (held l w h used)) (λ all.
        let lg : length (held l w h used) ≡ used = long in
        true_false (entry_legal letters (entries l w h) i)
        (sym (legal_at i g) ∙ below_each (length (held l w h used)) (entry_legal letters (held l w h used)) (and_left _ _ all) i (omega arith))
        e);
    ready = λ z. absurd (true≢false (sym z));
  }

  -- two that are equal
  pub filled_twin : (ix : List ℕ) (i j : ℕ) → i < used → j < i → entry_at (entries l w h) j ≡ entry_at (entries l w h) i → Filled letters l w h used ix false
  filled_twin ix i j g k e = record {
    is = refuted (entries_legal letters (held l w h used)) (λ all.
        let lg : length (held l w h used) ≡ used = long in
        let z : j ≡ i = distinct_apart (held l w h used) (and_right (below (length (held l w h used)) (entry_legal letters (held l w h used))) (distinct (held l w h used)) all) j i (omega arith) (omega arith) (at j (omega arith) ∙ e ∙ sym (at i g)) in
        omega arith);
    ready = λ z. absurd (true≢false (sym z));
  }

  -- neither
  pub filled_all : (ix : List ℕ) → Filling letters l w h used ix → Filled letters l w h used ix true
  filled_all ix f =
      let lg : length (held l w h used) ≡ used = long in
      let legal : below (length (held l w h used)) (entry_legal letters (held l w h used)) ≡ true =
      each_below (length (held l w h used)) (entry_legal letters (held l w h used)) (λ i g. legal_at i (omega arith) ∙ f.legal i (omega arith)) in
      let apart : distinct (held l w h used) ≡ true =
      apart_distinct (held l w h used) (λ i j gi gj e.
      let hi : i < used = omega arith in
      let hj : j < used = omega arith in
      ⊎_elim
      (λ (s : i < j). absurd (f.new j i hj s (sym (at i hi) ∙ e ∙ at j hj)))
      (λ (s : j ≤ i).
      ⊎_elim
      (λ (r : j < i). absurd (f.new i j hi r (sym (at j hj) ∙ sym e ∙ at i hi)))
      (λ (r : i ≤ j). omega arith)
      (lt_or_ge j i))
      (lt_or_ge i j)) in
      record { is = sym (and_both _ _ legal apart); ready = λ z. f.ready }

-- the whole check
module _ (letters : ℕ) (l w h : List ℕ) (used : ℕ) (ix : List ℕ) where
  no_table : false ≡ held_sound letters l w h used → Judged letters l w h used ix false
  no_table e = record { is = e; holds = λ z. absurd (true≢false (sym z)) }

  judged_few : used < 3 → Judged letters l w h used ix false
  unfolding held_sound
  judged_few e = no_table (rw (lt-leb 3 used e))

  judged_many : 3 ≤ used → length l < used → Judged letters l w h used ix false
  unfolding held_sound
  judged_many d e = no_table (rw (le-leb 3 used d, lt-leb used (length l) e))

  pub judged_outside : (3 ≤ used → used ≤ length l → ⊥) → Judged letters l w h used ix false
  judged_outside e =
      ⊎_elim
      judged_few
      (λ (three : 3 ≤ used). ⊎_elim (judged_many three) (λ (fits : used ≤ length l). absurd (e three fits)) (lt_or_ge (length l) used))
      (lt_or_ge used 3)

  module _ (before : List ℕ) (s : Sized l w h before) (three : 3 ≤ used) (fits : used ≤ length l) where
    terminals_are : fixed_terminals (held l w h used) ≡ three_terminals (entries l w h)
    unfolding fixed_terminals
    terminals_are =
        let lg : length (held l w h used) ≡ used = long letters l w h used s.low_long s.high_long fits in
        let there : (i : ℕ) → i < used → entry_at (held l w h used) i ≡ entry_at (entries l w h) i = at letters l w h used s.low_long s.high_long fits in
        rw (le-leb 3 (length (held l w h used)) (omega arith), there 0 (omega arith), there 1 (omega arith), there 2 (omega arith))

    pub judged_terminals : three_terminals (entries l w h) ≡ false → Judged letters l w h used ix false
    unfolding held_sound sound
    judged_terminals e = no_table (rw (le-leb 3 used three, le-leb used (length l) fits, terminals_are, e))

    module _ (e : three_terminals (entries l w h) ≡ true) where
      sound_is : held_sound letters l w h used ≡ (entries_legal letters (held l w h used) && all_blank (drop used (entries l w h)))
      unfolding held_sound sound
      sound_is = rw (le-leb 3 used three, le-leb used (length l) fits, terminals_are, e)

      pub judged_entries : (r : Bool) → Filled letters l w h used ix r → r ≡ false → Judged letters l w h used ix false
      judged_entries r f z = no_table (rw (sound_is, ← f.is, z))

      pub judged_blank : (r b : Bool) → Filled letters l w h used ix r → r ≡ true → b ≡ all_blank (drop used (entries l w h)) → Judged letters l w h used ix b
      judged_blank r b f z y = record {
        is = rw (sound_is, ← f.is, z) y;
        holds = λ pass.
            let legal : entries_legal letters (held l w h used) ≡ true = sym f.is ∙ z in
            let c : HeldSound letters l w h used = held_record letters l w h used (rw (sound_is, legal) (sym y ∙ pass)) in
            record {
              ready = f.ready z;
              is = held_whole letters l w h used s.low_long s.high_long c;
              long = sym (long letters l w h used s.low_long s.high_long fits);
              apart = apart_distinct (held l w h used) c.table.apart;
            };
      }
