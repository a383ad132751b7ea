-- Laws of functions stored one after the other.
use mathlib.Core.Path.{◌≡◌, refl, sym, ◌∙◌, ap}
use mathlib.Core.List.{List, [], ◌∷◌, map}
use Prim.Native.Nat.{ℕ, zero, suc, ◌<◌, ◌≤◌}
use native.Mathlib.Omega.{arith}
use lib.ListN.{length, get_or, length-map}
use Rattle.lists.proofs.Map.{map_at}
use Rattle.diagram.specs.Pattern.{most_letters, patterns}
use Rattle.diagram.specs.Table.{Table, never, number_at}
use Rattle.diagram.specs.Store.{Stored, store}
use Rattle.diagram.proofs.Sound.{Sound}
use Rattle.diagram.specs.Extends.{Extends}
use Rattle.diagram.proofs.Add.{extends_refl, extends_trans}
use Rattle.diagram.proofs.Number.{number_at_extends, number_second}
use Rattle.diagram.proofs.Store.{IsStored, store_stored, store_ext}
use Rattle.diagram.proofs.Canonical.{canonical}
use Rattle.rules.specs.Run.{StoredAll, store_all, never_entry}

-- what stands in a place where there is no function
abbrev pub no_function : ℕ → ℕ
no_function p = 0

-- functions of K letters are stored, in order, in an extension of a table
pub record AreStored (letters : ℕ) (fs : List (ℕ → ℕ)) (t : Table) (s : StoredAll) : Type 0 where
  pub sound : Sound letters s.table
  pub extends : Extends t s.table
  pub count : length s.entries ≡ length fs
  pub within : (i : ℕ) → i < length fs → get_or s.entries i 0 < length s.table
  pub number : (i : ℕ) → i < length fs → (p : ℕ) → p < patterns letters → number_at letters s.table (get_or s.entries i 0) p ≡ get_or fs i no_function p

-- a first function and the others after it
abbrev pub and_then : Stored → StoredAll → StoredAll
and_then s rest = record { table = rest.table; entries = s.entry ∷ rest.entries }

-- no function: nothing is stored
pub store_none : (letters : ℕ) (t : Table) → store_all letters [] t ≡ record { table = t; entries = [] }
unfolding store_all
store_none letters t = refl

-- a function, and the rest in the table that it left
pub store_next : (letters : ℕ) (f : ℕ → ℕ) (fs : List (ℕ → ℕ)) (t : Table)
    → store_all letters (f ∷ fs) t ≡ and_then (store letters 0 f t) (store_all letters fs (store letters 0 f t).table)
unfolding store_all
store_next letters f fs t = refl

-- a stored function and the stored rest
next_stored : {letters : ℕ} (f : ℕ → ℕ) (fs : List (ℕ → ℕ)) (t : Table) (s : Stored) (rest : StoredAll) → letters ≤ most_letters
    → IsStored letters letters 0 f t s → AreStored letters fs s.table rest → AreStored letters (f ∷ fs) t (and_then s rest)
next_stored {letters} f fs t s rest few a b = record {
  sound = b.sound;
  extends = extends_trans a.extends b.extends;
  count = ap suc b.count;
  within = within;
  number = number;
}
  where
    within : (i : ℕ) → i < suc (length fs) → get_or (s.entry ∷ rest.entries) i 0 < length rest.table
    within zero h = omega (arith, a.within, b.extends.longer)
    within (suc i) h = b.within i (omega arith)

    number : (i : ℕ) → i < suc (length fs) → (p : ℕ) → p < patterns letters → number_at letters rest.table (get_or (s.entry ∷ rest.entries) i 0) p ≡ get_or (f ∷ fs) i no_function p
    number zero h p l = number_at_extends s.entry p few a.sound b.extends a.within ∙ a.number p l
    number (suc i) h p l = b.number i (omega arith) p l

-- storing one after the other stores
pub all_stored : {letters : ℕ} (fs : List (ℕ → ℕ)) (t : Table) → letters ≤ most_letters → Sound letters t → AreStored letters fs t (store_all letters fs t)
all_stored {letters} [] t few s =
    rw (store_none letters t) record {
      sound = s;
      extends = extends_refl t;
      count = refl;
      within = λ i h. absurd (omega arith);
      number = λ i h. absurd (omega arith);
    }
all_stored {letters} (f ∷ fs) t few s =
    let a : IsStored letters letters 0 f t (store letters 0 f t) = store_stored letters 0 f t few s (omega arith) in
    rw (store_next letters f fs t)
    (next_stored f fs t (store letters 0 f t) (store_all letters fs (store letters 0 f t).table) few a (all_stored fs (store letters 0 f t).table few a.sound))

-- functions that agree below 2^K are stored alike
pub store_all_ext : (letters : ℕ) (fs gs : List (ℕ → ℕ)) (t : Table) → length fs ≡ length gs
    → ((i : ℕ) → i < length fs → (p : ℕ) → p < patterns letters → get_or fs i no_function p ≡ get_or gs i no_function p)
    → store_all letters fs t ≡ store_all letters gs t
store_all_ext letters [] [] t e h = refl
store_all_ext letters [] (g ∷ gs) t e h = absurd (omega arith)
store_all_ext letters (f ∷ fs) [] t e h = absurd (omega arith)
store_all_ext letters (f ∷ fs) (g ∷ gs) t e h =
    let first : store letters 0 f t ≡ store letters 0 g t = store_ext letters 0 f g t (h 0 (omega arith)) in
    store_next letters f fs t
    ∙ ap (λ (s : Stored). and_then s (store_all letters fs s.table)) first
    ∙ ap (and_then (store letters 0 g t)) (store_all_ext letters fs gs (store letters 0 g t).table (omega arith) (λ i l. h (suc i) (omega arith)))
    ∙ sym (store_next letters g gs t)

-- the same for a function of each number of a list
pub store_all_each : (letters : ℕ) (f g : ℕ → ℕ → ℕ) (ns : List ℕ) (t : Table) → ((n p : ℕ) → p < patterns letters → f n p ≡ g n p)
    → store_all letters (map f ns) t ≡ store_all letters (map g ns) t
store_all_each letters f g ns t h =
    store_all_ext letters (map f ns) (map g ns) t (length-map ns f ∙ sym (length-map ns g))
    (λ i l p k.
    let j : i < length ns = omega (arith, length-map ns f) in
    ap (λ (u : ℕ → ℕ). u p) (map_at f ns 0 no_function i j) ∙ h (get_or ns i 0) p k ∙ ap (λ (u : ℕ → ℕ). u p) (sym (map_at g ns 0 no_function i j)))

-- storing takes no entry away
pub store_all_longer : {letters : ℕ} (fs : List (ℕ → ℕ)) (t : Table) → letters ≤ most_letters → Sound letters t → length t ≤ length (store_all letters fs t).table
store_all_longer fs t few s = (all_stored fs t few s).extends.longer

-- a function that is never at every pattern gets the entry of never
pub never_stored : {letters : ℕ} {fs : List (ℕ → ℕ)} {t : Table} {s : StoredAll} → letters ≤ most_letters → AreStored letters fs t s → (i : ℕ) → i < length fs
    → ((p : ℕ) → p < patterns letters → get_or fs i no_function p ≡ never) → get_or s.entries i 0 ≡ never_entry
never_stored {letters} {fs} {t} {s} few a i h all =
    (canonical s.table (get_or s.entries i 0) 2 few a.sound (a.within i h) (omega (arith, a.sound.three))).0
    (λ p l. a.number i h p l ∙ all p l ∙ sym (number_second s.table p few a.sound))
