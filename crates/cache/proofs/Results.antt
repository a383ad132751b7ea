-- What a cache knows: nothing at first, less about less, what was found, and what was kept.
use mathlib.Core.Path.{◌≡◌, refl, sym, ◌∙◌, ap}
use mathlib.Core.Logic.{⊎_elim}
use mathlib.Core.List.{List}
use Prim.Native.Nat.{ℕ, suc, ◌+◌, ◌<◌, ◌≤◌}
use native.Mathlib.Omega.{arith}
use lib.ListN.{length, get_or, set, replicate, length-set, length-replicate, get_or-replicate, get_or-eq_default}
use lib.Seq.{get_or-set_same, get_or-set_other}
use Rattle.lists.proofs.Cases.{eq_or_ne, lt_or_ge}
use Rattle.cache.specs.Cache.{slot_place, Slot, Cache, Looked, put, Kept}

-- nothing was found
pub looked_none : {cache : List ℕ} {a b c : ℕ} → Looked cache a b c 0
looked_none = record { slot = 0; first = λ n. absurd (n refl); second = λ n. absurd (n refl); third = λ n. absurd (n refl); result = λ n. absurd (n refl) }

-- the last word of a slot that has the operands
pub looked_all : {cache : List ℕ} {a b c at : ℕ} → Slot cache at → get_or cache at 0 ≡ a → get_or cache (at + 1) 0 ≡ b → get_or cache (at + 2) 0 ≡ c → Looked cache a b c (get_or cache (at + 3) 0)
looked_all {cache} s x y z = record {
  slot = s.slot;
  first = λ _. ap (λ (n : ℕ). get_or cache n 0) (sym s.first) ∙ x;
  second = λ _. ap (λ (n : ℕ). get_or cache (n + 1) 0) (sym s.first) ∙ y;
  third = λ _. ap (λ (n : ℕ). get_or cache (n + 2) 0) (sym s.first) ∙ z;
  result = λ _. ap (λ (n : ℕ). get_or cache (n + 3) 0) (sym s.first);
}

-- a slot that was written
pub kept_all : {cache : List ℕ} {a b c e at : ℕ} → Slot cache at → Kept cache a b c e (put cache at a b c e)
kept_all {cache} {a} {b} {c} {e} s = record { slot = s.slot; within = omega (arith, s.within, s.first); is = ap (λ (n : ℕ). put cache n a b c e) s.first }

-- a column of zeros is 0 everywhere
zeros : (n i : ℕ) → get_or {A = ℕ} (replicate {A = ℕ} n 0) i 0 ≡ 0
zeros n i =
    ⊎_elim
    (λ (q : i < n). get_or-replicate {A = ℕ} n i 0 0 q)
    (λ (q : n ≤ i). get_or-eq_default (replicate {A = ℕ} n 0) 0 (omega (arith, q, length-replicate {A = ℕ} n 0)))
    (lt_or_ge i n)

-- a cleared cache knows nothing
pub cache_none : {K : ℕ → ℕ → ℕ → ℕ → Type 0} (n : ℕ) → Cache K (replicate n 0)
cache_none n = record { is = λ s e h. absurd (omega (arith, h, zeros n (slot_place s + 3))) }

-- what it knows may say less
pub cache_map : {K L : ℕ → ℕ → ℕ → ℕ → Type 0} {cache : List ℕ} → ((a b c e : ℕ) → K a b c e → L a b c e) → Cache K cache → Cache L cache
cache_map weaker h = record { is = λ s e w. weaker _ _ _ e (h.is s e w) }

-- what was found is a result
pub cache_found : {K : ℕ → ℕ → ℕ → ℕ → Type 0} {cache : List ℕ} {a b c r : ℕ} (e : ℕ) → Cache K cache → Looked cache a b c r → r ≡ suc e → K a b c e
cache_found {K} {cache} {a} {b} {c} {r} e h l is =
    let some : r ≡ 0 → ⊥ = λ z. absurd (omega (arith, is, z)) in
    rw (sym (l.first some), sym (l.second some), sym (l.third some)) (h.is l.slot e (l.result some ∙ is))

-- the words of a slot that was written
module _ (cache : List ℕ) (slot a b c e : ℕ) (within : slot_place slot + 3 < length cache) where
  abbrev at : ℕ
  at = slot_place slot

  abbrev one : List ℕ
  one = set cache at a

  abbrev two : List ℕ
  two = set one (at + 1) b

  abbrev three : List ℕ
  three = set two (at + 2) c

  long_one : length one ≡ length cache
  long_one = length-set cache at a

  long_two : length two ≡ length cache
  long_two = length-set one (at + 1) b ∙ long_one

  long_three : length three ≡ length cache
  long_three = length-set two (at + 2) c ∙ long_two

  put_first : get_or (put cache at a b c e) at 0 ≡ a
  put_first =
      get_or-set_other three (at + 3) at (e + 1) 0 (λ (q : at ≡ at + 3). absurd (omega arith))
      ∙ get_or-set_other two (at + 2) at c 0 (λ (q : at ≡ at + 2). absurd (omega arith))
      ∙ get_or-set_other one (at + 1) at b 0 (λ (q : at ≡ at + 1). absurd (omega arith))
      ∙ get_or-set_same cache at a 0 (omega (arith, within))

  put_second : get_or (put cache at a b c e) (at + 1) 0 ≡ b
  put_second =
      get_or-set_other three (at + 3) (at + 1) (e + 1) 0 (λ (q : at + 1 ≡ at + 3). absurd (omega arith))
      ∙ get_or-set_other two (at + 2) (at + 1) c 0 (λ (q : at + 1 ≡ at + 2). absurd (omega arith))
      ∙ get_or-set_same one (at + 1) b 0 (omega (arith, within, long_one))

  put_third : get_or (put cache at a b c e) (at + 2) 0 ≡ c
  put_third =
      get_or-set_other three (at + 3) (at + 2) (e + 1) 0 (λ (q : at + 2 ≡ at + 3). absurd (omega arith))
      ∙ get_or-set_same two (at + 2) c 0 (omega (arith, within, long_two))

  put_result : get_or (put cache at a b c e) (at + 3) 0 ≡ e + 1
  put_result = get_or-set_same three (at + 3) (e + 1) 0 (omega (arith, within, long_three))

  -- and of the others
  put_other : (n : ℕ) → (n ≡ at → ⊥) → (n ≡ at + 1 → ⊥) → (n ≡ at + 2 → ⊥) → (n ≡ at + 3 → ⊥) → get_or (put cache at a b c e) n 0 ≡ get_or cache n 0
  put_other n n0 n1 n2 n3 =
      get_or-set_other three (at + 3) n (e + 1) 0 n3 ∙ get_or-set_other two (at + 2) n c 0 n2 ∙ get_or-set_other one (at + 1) n b 0 n1 ∙ get_or-set_other cache at n a 0 n0

  put_apart : (s j : ℕ) → (s ≡ slot → ⊥) → j < 4 → get_or (put cache at a b c e) (slot_place s + j) 0 ≡ get_or cache (slot_place s + j) 0
  put_apart s j n few =
      put_other (slot_place s + j)
      (λ (q : slot_place s + j ≡ at). n (omega (arith, q, few)))
      (λ (q : slot_place s + j ≡ at + 1). n (omega (arith, q, few)))
      (λ (q : slot_place s + j ≡ at + 2). n (omega (arith, q, few)))
      (λ (q : slot_place s + j ≡ at + 3). n (omega (arith, q, few)))

  put_known : {K : ℕ → ℕ → ℕ → ℕ → Type 0} → Cache K cache → K a b c e → Cache K (put cache at a b c e)
  put_known {K} h k = record {
    is = λ s x w.
        ⊎_elim
        (λ (q : s ≡ slot).
        let same : x ≡ e = omega (arith, w, put_result, ap (λ (n : ℕ). get_or (put cache at a b c e) (slot_place n + 3) 0) q) in
        rw (q, put_first, put_second, put_third, same) k)
        (λ (q : s ≡ slot → ⊥).
        let p0 : get_or (put cache at a b c e) (slot_place s) 0 ≡ get_or cache (slot_place s) 0 =
        put_other (slot_place s)
        (λ (z : slot_place s ≡ at). q (omega (arith, z)))
        (λ (z : slot_place s ≡ at + 1). absurd (omega (arith, z)))
        (λ (z : slot_place s ≡ at + 2). absurd (omega (arith, z)))
        (λ (z : slot_place s ≡ at + 3). absurd (omega (arith, z))) in
        rw (p0, put_apart s 1 q (omega arith), put_apart s 2 q (omega arith)) (h.is s x (sym (put_apart s 3 q (omega arith)) ∙ w)))
        (eq_or_ne s slot);
  }

-- what was kept is known, and what was known besides
pub cache_kept : {K : ℕ → ℕ → ℕ → ℕ → Type 0} {cache out : List ℕ} {a b c e : ℕ} → Cache K cache → Kept cache a b c e out → K a b c e → Cache K out
cache_kept {K} {cache} {out} {a} {b} {c} {e} h kept k = rw kept.is (put_known cache kept.slot a b c e kept.within h k)
