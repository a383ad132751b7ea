-- A loop that writes a line for each element of a list.
use mathlib.Core.Path.{◌≡◌, refl, sym, ◌∙◌, ap}
use mathlib.Core.List.{List, [], ◌∷◌, ◌++◌, append-nil, append_assoc}
use Prim.Native.Nat.{ℕ, ◌+◌, ◌*◌, ◌<◌, ◌≤◌}
use native.Mathlib.Nat.{add-zero}
use native.Mathlib.Numerals.{add-one}
use native.Mathlib.Omega.{arith}
use lib.ListN.{length, get_or, take, length-append}
use lib.Seq.{take-suc, take_all, length-take-le, paste-zero}
use Rattle.text.specs.Written.{Wrote}
use Rattle.text.proofs.Written.{wrote_length, wrote_then}
use Rattle.fields.specs.Line.{line_room, LineWrote}
use Rattle.fields.specs.Shown.{numbered, LinesWrote}

-- a line behind others
numbered_last : {A : Type 0} (line : ℕ → A → List ℕ) (s : ℕ) (xs : List A) (x : A) → numbered line s (xs ++ x ∷ []) ≡ numbered line s xs ++ line (s + length xs) x
unfolding numbered
numbered_last line s [] x = append-nil (line s x) ∙ ap (λ (n : ℕ). line n x) (sym (add-zero s))
numbered_last line s (y ∷ ys) x =
    let e : s + 1 + length ys ≡ s + length (y ∷ ys) = omega arith in
    rw (numbered_last line (s + 1) ys x, e) (sym (append_assoc (line s y) (numbered line (s + 1) ys) (line (s + length (y ∷ ys)) x)))

-- the lines of the first i elements are written, numbered from s on
pub record Rows {A : Type 0} (line : ℕ → A → List ℕ) (s : ℕ) (l : List A) (before after : List ℕ) (at i end : ℕ) : Type 0 where
  pub counted : i ≤ length l
  pub wrote : Wrote before after at (numbered line s (take i l)) end
  pub short : length (numbered line s (take i l)) ≤ line_room * i
  pub same : length after ≡ length before

module _ {A : Type 0} (line : ℕ → A → List ℕ) (s : ℕ) (l : List A) where
  pub rows_none : (out : List ℕ) (at : ℕ) → Rows line s l out out at 0 at
  unfolding numbered
  rows_none out at = record { counted = omega arith; wrote = record { end_is = omega arith; is = paste-zero out at [] }; short = omega arith; same = refl }

  -- there is room for the next line
  pub rows_room : (most : ℕ) {a b : List ℕ} {at i e : ℕ} → Rows line s l a b at i e → i < length l → length l ≤ most → at + line_room * most ≤ length a → e + line_room ≤ length b
  rows_room most r h g room = omega (arith, r.wrote.end_is)

  rows_next : (d : A) (i : ℕ) → i < length l → numbered line s (take (i + 1) l) ≡ numbered line s (take i l) ++ line (s + i) (get_or l i d)
  rows_next d i h =
      let n : length (take i l) ≡ i = length-take-le i l (omega arith) in
      rw (add-one, take-suc l i d h) (numbered_last line s (take i l) (get_or l i d) ∙ ap (λ (k : ℕ). numbered line s (take i l) ++ line (s + k) (get_or l i d)) n)

  pub rows_more : (d : A) {a b c : List ℕ} {at i e m k : ℕ} {x : A} → Rows line s l a b at i e → i < length l → at ≤ length a → k ≡ s + i → x ≡ get_or l i d
      → e + line_room ≤ length b → LineWrote b c e (line k x) m → Rows line s l a c at (i + 1) m
  rows_more d {a} {b} {c} {at} {i} {e} {m} {k} {x} r h g n v room w =
      let next : numbered line s (take (i + 1) l) ≡ numbered line s (take i l) ++ line k x = rows_next d i h ∙ ap₂ n v in
      record {
        counted = omega arith;
        wrote = rw next (wrote_then r.wrote w.wrote g);
        short = rw next (simp length-append (omega (arith, r.short, w.short)));
        same = wrote_length w.wrote (omega (arith, w.short)) ∙ r.same;
      }
    where
      ap₂ : k ≡ s + i → x ≡ get_or l i d → numbered line s (take i l) ++ line (s + i) (get_or l i d) ≡ numbered line s (take i l) ++ line k x
      ap₂ p q = rw (p, q)

  pub rows_done : (most : ℕ) {a b : List ℕ} {at i e : ℕ} → Rows line s l a b at i e → length l ≤ i → length l ≤ most → LinesWrote most a b at (numbered line s l) e
  rows_done most {a} {b} {at} {i} {e} r h g =
      let all : take i l ≡ l = take_all i l h in
      record { wrote = rw all at r.wrote; short = omega (arith, rw all at r.short, r.counted) }
