-- A loop that writes the records of a chain: the bytes that remain to be written make up the whole with those that were.
use mathlib.Core.Path.{◌≡◌, refl, sym, ◌∙◌, ap}
use mathlib.Core.List.{List, [], ◌∷◌, ◌++◌}
use Prim.Native.Nat.{ℕ, ◌+◌, ◌*◌, ◌-◌, ◌<◌, ◌≤◌}
use native.Mathlib.Nat.{add-zero, add_assoc}
use native.Mathlib.Numerals.{add-one}
use native.Mathlib.Omega.{arith}
use lib.ListN.{length, get_or, drop, length-drop, drop_of_length-le}
use lib.Seq.{drop-cons, paste-zero}
use Rattle.format.specs.Saved.{first_from, chain_bytes}
use Rattle.text.specs.Written.{Wrote}
use Rattle.text.proofs.Written.{wrote_length, wrote_then}

-- records of 16 bytes, the i first of which are written
pub record Remains {A : Type 0} (bytes : ℕ → A → List ℕ) (r : ℕ) (xs : List A) (before after : List ℕ) (at i end : ℕ) : Type 0 where
  pub counted : i ≤ length xs
  pub end_is : end ≡ at + 16 * i
  pub same : length after ≡ length before
  pub rest : (out : List ℕ) (e : ℕ) → Wrote after out end (chain_bytes bytes (r + i) (drop i xs)) e → Wrote before out at (chain_bytes bytes r xs) e

module _ {A : Type 0} (bytes : ℕ → A → List ℕ) (long : (next : ℕ) (x : A) → length (bytes next x) ≡ 16) (r : ℕ) (xs : List A) where
  -- at first all remain
  pub remain_all : (out : List ℕ) (at : ℕ) → Remains bytes r xs out out at 0 at
  remain_all out at = record {
    counted = omega arith;
    end_is = omega arith;
    same = refl;
    rest = λ out' e w. rw add-zero at w;
  }

  -- what remains is the next record and what remains after it
  next_remains : (d : A) (i : ℕ) → i < length xs
      → chain_bytes bytes (r + i) (drop i xs) ≡ bytes (first_from (r + i + 1) (length xs - i - 1)) (get_or xs i d) ++ chain_bytes bytes (r + (i + 1)) (drop (i + 1) xs)
  unfolding chain_bytes
  next_remains d i h =
      let n : length (drop (i + 1) xs) ≡ length xs - i - 1 = omega (arith, length-drop (i + 1) xs) in
      let split : drop i xs ≡ get_or xs i d ∷ drop (i + 1) xs = rw (add-one i) (drop-cons xs i d h) in
      rw (split, n, add_assoc r i 1)

  -- there is room for it
  pub remain_room : {a b : List ℕ} {at i e : ℕ} → Remains bytes r xs a b at i e → i < length xs → at + 16 * length xs ≤ length a → e + 16 ≤ length b
  remain_room k h room = omega (arith, k.end_is, k.same)

  -- it is written
  pub remain_fewer : (d : A) {a b c : List ℕ} {at i e m : ℕ} {written : List ℕ} → Remains bytes r xs a b at i e → i < length xs → at + 16 * length xs ≤ length a
      → written ≡ bytes (first_from (r + i + 1) (length xs - i - 1)) (get_or xs i d) → Wrote b c e written m → Remains bytes r xs a c at (i + 1) m
  remain_fewer d {a} {b} {c} {at} {i} {e} {m} {written} k h room is w =
      let n : length written ≡ 16 = ap length is ∙ long (first_from (r + i + 1) (length xs - i - 1)) (get_or xs i d) in
      let fits : e + 16 ≤ length b = remain_room k h room in
      record {
        counted = omega arith;
        end_is = omega (arith, w.end_is, k.end_is);
        same = wrote_length w (omega arith) ∙ k.same;
        rest = λ out f v. k.rest out f (rw (next_remains d i h, sym is) (wrote_then w v (omega arith)));
      }

  -- and at last none remains
  pub remain_none : {a b : List ℕ} {at i e : ℕ} → Remains bytes r xs a b at i e → length xs ≤ i → Wrote a b at (chain_bytes bytes r xs) e
  unfolding chain_bytes
  remain_none {a} {b} {at} {i} {e} k h =
      k.rest b e (rw (drop_of_length-le xs h) (record { end_is = omega arith; is = paste-zero b e [] }))
