-- Extension of a table, and adding an entry.
use mathlib.Core.Path.{◌≡◌, refl, sym, ◌∙◌, ap}
use mathlib.Core.Logic.{◌⊎◌, inl, inr, ⊎_elim}
use mathlib.Core.List.{[], ◌∷◌, ◌++◌}
use mathlib.Core.Bool.{true, false}
use Prim.Native.Nat.{ℕ, zero, suc, ◌<◌, ◌≤◌}
use native.Mathlib.Omega.{arith}
use lib.ListN.{length, take, length-append, get_or-append}
use lib.Seq.{get_or-append_seam, get_or-take, ext_get_or, length-take-le}
use borrow.Author.Tests.{lt-ltb, le-ltb}
use Rattle.lists.proofs.Cases.{bool_cases, lt_or_ge}
use Rattle.diagram.specs.Table.{Entry, Table, blank, entry_at, same}
use Rattle.diagram.specs.Extends.{Extends}
use Rattle.diagram.specs.Store.{Stored, stored, find, add}
use Rattle.diagram.proofs.Sound.{Branch, Legal, Sound, same_equal, equal_same}

-- a table extends itself
pub extends_refl : (t : Table) → Extends t t
extends_refl t = record { longer = omega arith; kept = λ i h. refl }

-- an extension's extension is one
pub extends_trans : {t u v : Table} → Extends t u → Extends u v → Extends t v
extends_trans {t} {u} {v} p q = record { longer = omega arith; kept = λ i h. q.kept i (omega arith) ∙ p.kept i h }

-- entries written past the end extend
pub extends_append : (t rest : Table) → Extends t (t ++ rest)
extends_append t rest = record { longer = simp length-append (omega arith); kept = λ i h. get_or-append t rest blank i h }

-- the first part of an extension
pub extends_take : (t u : Table) → Extends t u → take (length t) u ≡ t
extends_take t u e =
    let long : length (take (length t) u) ≡ length t = length-take-le (length t) u e.longer in
    ext_get_or blank (take (length t) u) t long (λ i h. let l : i < length t = omega arith in get_or-take (length t) u i blank l ∙ e.kept i l)

-- find answers a place or the length
pub find_le : (x : Entry) (t : Table) → find x t ≤ length t
unfolding find
find_le x [] = omega arith
find_le x (y ∷ ys) =
    ⊎_elim
    (λ (e : same y x ≡ true). rw e (omega arith))
    (λ (e : same y x ≡ false). rw e (omega (arith, find_le x ys)))
    (bool_cases (same y x))

-- the place found holds the entry
pub find_holds : (x : Entry) (t : Table) → find x t < length t → entry_at t (find x t) ≡ x
unfolding find
find_holds x [] h = absurd (omega arith)
find_holds x (y ∷ ys) h =
    ⊎_elim
    (λ (e : same y x ≡ true). rw e (same_equal y x e))
    (λ (e : same y x ≡ false). let g : suc (find x ys) < suc (length ys) = rw e at h in rw e (find_holds x ys (omega arith)))
    (bool_cases (same y x))

-- no earlier place holds it
pub find_earliest : (x : Entry) (t : Table) (i : ℕ) → i < length t → entry_at t i ≡ x → find x t ≤ i
unfolding find
find_earliest x [] i h e = absurd (omega arith)
find_earliest x (y ∷ ys) zero h e = rw (equal_same y x e) (omega arith)
find_earliest x (y ∷ ys) (suc i) h e =
    ⊎_elim
    (λ (s : same y x ≡ true). rw s (omega arith))
    (λ (s : same y x ≡ false). rw s (omega (arith, find_earliest x ys i (omega arith) e)))
    (bool_cases (same y x))

-- the first place that holds the entry is found
pub find_is : (x : Entry) (t : Table) (i : ℕ) → i < length t → entry_at t i ≡ x → ((j : ℕ) → j < i → entry_at t j ≡ x → ⊥) → find x t ≡ i
find_is x t i h e least =
    let le : find x t ≤ i = find_earliest x t i h e in
    ⊎_elim
    (λ (g : find x t < i). absurd (least (find x t) g (find_holds x t (omega arith))))
    (λ (g : i ≤ find x t). omega arith)
    (lt_or_ge (find x t) i)

-- an entry that is nowhere is found at the length
pub find_missing : (x : Entry) (t : Table) → ((i : ℕ) → i < length t → entry_at t i ≡ x → ⊥) → find x t ≡ length t
find_missing x t none =
    ⊎_elim
    (λ (g : find x t < length t). absurd (none (find x t) g (find_holds x t g)))
    (λ (g : length t ≤ find x t). omega (arith, find_le x t))
    (lt_or_ge (find x t) (length t))

-- an entry is in the table, at the place found, or nowhere
pub find_cases : (x : Entry) (t : Table) → (find x t < length t) ⊎ ((i : ℕ) → i < length t → entry_at t i ≡ x → ⊥)
find_cases x t =
    ⊎_elim
    (λ (g : find x t < length t). inl g)
    (λ (g : length t ≤ find x t). inr (λ i h e. let le : find x t ≤ i = find_earliest x t i h e in omega arith))
    (lt_or_ge (find x t) (length t))

-- what is found is not added
pub add_found : (x : Entry) (t : Table) → find x t < length t → add x t ≡ stored t (find x t)
unfolding add
add_found x t h = rw (lt-ltb (find x t) (length t) h)

-- what is nowhere is added at the end
pub add_missing : (x : Entry) (t : Table) → ((i : ℕ) → i < length t → entry_at t i ≡ x → ⊥) → add x t ≡ stored (t ++ x ∷ []) (length t)
unfolding add
add_missing x t none =
    let e : find x t ≡ length t = find_missing x t none in
    rw (le-ltb (find x t) (length t) (omega arith))

-- the first place that holds the entry is the answer
pub add_first : (x : Entry) (t : Table) (i : ℕ) → i < length t → entry_at t i ≡ x → ((j : ℕ) → j < i → entry_at t j ≡ x → ⊥) → add x t ≡ stored t i
add_first x t i h e least =
    let f : find x t ≡ i = find_is x t i h e least in
    add_found x t (omega arith) ∙ ap (stored t) f

-- adding what is there changes nothing
pub add_present : {letters : ℕ} (t : Table) (x : Entry) (i : ℕ) → Sound letters t → i < length t → entry_at t i ≡ x → add x t ≡ stored t i
add_present t x i s h e = add_first x t i h e (λ j g q. let z : i ≡ j = s.apart i j h (omega arith) (e ∙ sym q) in omega arith)

-- what adding gives
pub record Added (x : Entry) (t : Table) (s : Stored) : Type 0 where
  pub extends : Extends t s.table
  pub within : s.entry < length s.table
  pub holds : entry_at s.table s.entry ≡ x
  pub longest : length s.table ≤ suc (length t)

appended : (x : Entry) (t : Table) → Added x t (stored (t ++ x ∷ []) (length t))
appended x t = record {
  extends = extends_append t (x ∷ []);
  within = simp length-append (omega arith);
  holds = get_or-append_seam t x [] blank;
  longest = simp length-append (omega arith);
}

-- adding gives that
pub added : (x : Entry) (t : Table) → Added x t (add x t)
added x t =
    ⊎_elim
    (λ (h : find x t < length t). rw (add_found x t h) record { extends = extends_refl t; within = h; holds = find_holds x t h; longest = omega arith })
    (λ (none : (i : ℕ) → i < length t → entry_at t i ≡ x → ⊥). rw (add_missing x t none) (appended x t))
    (find_cases x t)

-- adding a second time changes nothing
pub add_again : (x : Entry) (t : Table) → add x (add x t).table ≡ add x t
add_again x t =
    ⊎_elim
    (λ (h : find x t < length t). rw (add_found x t h) (add_found x t h))
    (λ (none : (i : ℕ) → i < length t → entry_at t i ≡ x → ⊥).
    let a : Added x t (stored (t ++ x ∷ []) (length t)) = appended x t in
    rw (add_missing x t none) (add_first x (t ++ x ∷ []) (length t) a.within a.holds (λ j g e. none j g (sym (a.extends.kept j g) ∙ e))))
    (find_cases x t)

-- an entry that is legal in a table is legal in its extensions
pub legal_extends : {letters : ℕ} {t u : Table} (i : ℕ) (x : Entry) → i ≤ length t → Extends t u → Legal letters t i x → Legal letters u i x
legal_extends {letters} {t} {u} i x le e h = record {
  leaf = h.leaf;
  node = λ n.
      let b : Branch letters t i x = h.node n in
      record {
        letter_in = b.letter_in;
        low_earlier = b.low_earlier;
        low_later = rw (e.kept x.low (omega arith)) b.low_later;
        high_earlier = b.high_earlier;
        high_later = rw (e.kept x.high (omega arith)) b.high_later;
        differ = b.differ;
      };
}

-- a new legal entry at the end keeps a table sound
pub sound_append : {letters : ℕ} (t : Table) (x : Entry) → Sound letters t → Legal letters t (length t) x → ((i : ℕ) → i < length t → entry_at t i ≡ x → ⊥)
    → Sound letters (t ++ x ∷ [])
sound_append {letters} t x s h none =
    let a : Added x t (stored (t ++ x ∷ []) (length t)) = appended x t in
    let e : Extends t (t ++ x ∷ []) = a.extends in
    let three : 3 ≤ length t = s.three in
    record {
      three = omega (arith, e.longer);
      zeroth = e.kept 0 (omega arith) ∙ s.zeroth;
      first = e.kept 1 (omega arith) ∙ s.first;
      second = e.kept 2 (omega arith) ∙ s.second;
      legal = λ i l.
          ⊎_elim
          (λ (g : i < length t). rw (e.kept i g) (legal_extends i (entry_at t i) (omega arith) e (s.legal i g)))
          (λ (g : length t ≤ i).
          let q : i ≡ length t = omega (arith, a.longest) in
          rw (q, a.holds) (legal_extends (length t) x (omega arith) e h))
          (lt_or_ge i (length t));
      apart = λ i j hi hj q.
          ⊎_elim
          (λ (gi : i < length t).
          ⊎_elim
          (λ (gj : j < length t). s.apart i j gi gj (sym (e.kept i gi) ∙ q ∙ e.kept j gj))
          (λ (gj : length t ≤ j).
          let z : j ≡ length t = omega (arith, a.longest) in
          absurd (none i gi (sym (e.kept i gi) ∙ q ∙ ap (entry_at (t ++ x ∷ [])) z ∙ a.holds)))
          (lt_or_ge j (length t)))
          (λ (gi : length t ≤ i).
          let z : i ≡ length t = omega (arith, a.longest) in
          ⊎_elim
          (λ (gj : j < length t). absurd (none j gj (sym (e.kept j gj) ∙ sym q ∙ ap (entry_at (t ++ x ∷ [])) z ∙ a.holds)))
          (λ (gj : length t ≤ j). omega (arith, a.longest))
          (lt_or_ge j (length t)))
          (lt_or_ge i (length t));
    }

-- adding a legal entry keeps a table sound
pub add_sound : {letters : ℕ} (x : Entry) (t : Table) → Sound letters t → Legal letters t (length t) x → Sound letters (add x t).table
add_sound x t s h =
    ⊎_elim
    (λ (f : find x t < length t). rw (add_found x t f) s)
    (λ (none : (i : ℕ) → i < length t → entry_at t i ≡ x → ⊥). rw (add_missing x t none) (sound_append t x s h none))
    (find_cases x t)
