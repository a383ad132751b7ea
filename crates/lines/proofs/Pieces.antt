-- Laws of lines written one behind the other.
use mathlib.Core.Path.{◌≡◌, sym}
use mathlib.Core.List.{List, [], ◌∷◌, ◌++◌, append-nil}
use mathlib.Core.Bool.{Bool, true, false, cond}
use Prim.Native.Nat.{ℕ, suc, ◌+◌, ◌*◌, ◌^◌, ◌<◌, ◌≤◌}
use native.Mathlib.Nat.{add-zero}
use native.Mathlib.Numerals.{add-one}
use native.Mathlib.Omega.{arith}
use lib.ListN.{length, take, length-append, take-append-drop}
use Rattle.format.specs.Legal.{most_nodes}
use Rattle.text.specs.Decimal.{decimal}
use Rattle.text.specs.Written.{Wrote}
use Rattle.text.proofs.Decimal.{decimal_short}
use Rattle.text.proofs.Written.{wrote_then}
use Rattle.fields.specs.Line.{LineWrote}
use Rattle.lines.specs.Listing.{lines_of}
use Rattle.lines.specs.Lines.{line_room, call_room, Put}

-- a number of 32 bits and a byte behind it
pub number_short : (n byte : ℕ) → n < 2 ^ 32 → length (decimal n ++ byte ∷ []) ≤ 11
number_short n byte h = omega (arith, length-append (decimal n) (byte ∷ []), decimal_short n h)

-- nothing written
pub put_none : (out : List ℕ) (at most : ℕ) → Put out out at [] most at
put_none out at most = record {
  wrote = record { end_is = omega arith; is = rw (append-nil (take at out), add-zero at) (sym (take-append-drop at out)) };
  within = omega arith;
}

-- one piece behind another
pub put_then : {a b c x y : List ℕ} {at m e : ℕ} (most rest : ℕ) → Put a b at x most m → Put b c m y rest e → at ≤ length a → Put a c at (x ++ y) (most + rest) e
put_then most rest p q h = record { wrote = wrote_then p.wrote q.wrote h; within = omega (arith, p.within, q.within) }

-- bytes of a known length
pub put_wrote : {a b x : List ℕ} {at e : ℕ} (most : ℕ) → Wrote a b at x e → length x ≤ most → Put a b at x most e
put_wrote most w h = record { wrote = w; within = omega (arith, w.end_is) }

-- less than was allowed
pub put_weaken : {a b x : List ℕ} {at e less : ℕ} (most : ℕ) → Put a b at x less e → less ≤ most → Put a b at x most e
put_weaken most p h = record { wrote = p.wrote; within = omega (arith, p.within) }

-- three pieces
pub put_three : {a b c d x y z : List ℕ} {at m n e : ℕ} (most : ℕ) → Wrote a b at x m → Wrote b c m y n → Wrote c d n z e → at ≤ length a
    → length x + length y + length z ≤ most → Put a d at (x ++ y ++ z) most e
put_three {x = x} {y = y} {z = z} most u v w h l = record {
  wrote = wrote_then (wrote_then u v h) w h;
  within = omega (arith, u.end_is, v.end_is, w.end_is);
}

-- where a test passes
pub put_yes : {a b x : List ℕ} (y : List ℕ) {at most e : ℕ} {test : Bool} → test ≡ true → Put a b at x most e → Put a b at (cond test x y) most e
put_yes y t p = rw t p

-- and where it fails
pub put_no : {a b : List ℕ} (x : List ℕ) {y : List ℕ} {at most e : ℕ} {test : Bool} → test ≡ false → Put a b at y most e → Put a b at (cond test x y) most e
put_no x t p = rw t p

-- no lines yet
pub lines_none : (out : List ℕ) (at : ℕ) (line : ℕ → List ℕ) → Put out out at (lines_of 0 line) (line_room * 0) at
unfolding lines_of
lines_none out at line = put_none out at (line_room * 0)

-- and one more
pub lines_more : {a b c : List ℕ} {at m e : ℕ} (i : ℕ) (line : ℕ → List ℕ) → Put a b at (lines_of i line) (line_room * i) m → Put b c m (line i) line_room e → at ≤ length a
    → Put a c at (lines_of (i + 1) line) (line_room * (i + 1)) e
unfolding lines_of
lines_more i line p q h = rw (add-one i) (put_weaken (line_room * suc i) (put_then (line_room * i) line_room p q h) (omega arith))

-- all lines
pub lines_all : {a b : List ℕ} {at e : ℕ} {i n : ℕ} (line : ℕ → List ℕ) → Put a b at (lines_of i line) (line_room * i) e → i ≤ n → n ≤ i → n ≤ most_nodes → Put a b at (lines_of n line) call_room e
lines_all {i = i} {n = n} line p most least few =
    let same : n ≡ i = omega arith in
    rw same (put_weaken call_room p (omega arith))
