-- Laws of bytes written into a buffer.
use mathlib.Core.Path.{◌≡◌, refl, sym, ◌∙◌, ap}
use mathlib.Core.List.{List, [], ◌∷◌, ◌++◌, append_assoc}
use Prim.Native.Nat.{ℕ, ◌+◌, ◌<◌, ◌≤◌}
use native.Mathlib.Nat.{add_assoc}
use native.Mathlib.Omega.{arith}
use lib.ListN.{length, take, drop, set, length-append, length-drop}
use lib.Seq.{length-take-le, take_at, drop_at, drop-drop, sets-eq}
use Rattle.text.specs.Written.{written, Wrote}

-- what stands before the end of the bytes
written_front : (at : ℕ) (bytes out : List ℕ) → at ≤ length out → length (take at out ++ bytes) ≡ at + length bytes
written_front at bytes out h = simp (length-append, length-take-le at out h)

-- the buffer keeps its length
pub written_length : (at : ℕ) (bytes out : List ℕ) → at + length bytes ≤ length out → length (written at bytes out) ≡ length out
written_length at bytes out h =
    let g : at ≤ length out = omega arith in
    length-append (take at out ++ bytes) (drop (at + length bytes) out)
    ∙ omega (arith, written_front at bytes out g, length-drop (at + length bytes) out)

pub wrote_length : {a b x : List ℕ} {at e : ℕ} → Wrote a b at x e → at + length x ≤ length a → length b ≡ length a
wrote_length {a} {b} {x} {at} w h = ap length w.is ∙ written_length at x a h

-- one after the other
pub wrote_then : {a b c x y : List ℕ} {at m e : ℕ} → Wrote a b at x m → Wrote b c m y e → at ≤ length a → Wrote a c at (x ++ y) e
wrote_then {a} {b} {c} {x} {y} {at} {m} {e} w v h = record {
  end_is = v.end_is ∙ ap (λ (n : ℕ). n + length y) w.end_is ∙ add_assoc at (length x) (length y) ∙ ap (λ (n : ℕ). at + n) (sym (length-append x y));
  is = v.is ∙ ap (λ (n : ℕ). written n y b) w.end_is ∙ ap (written (at + length x) y) w.is ∙ joined;
}
  where
    front : length (take at a ++ x) ≡ at + length x
    front = written_front at x a h

    rest : drop (at + length x + length y) (written at x a) ≡ drop (at + length (x ++ y)) a
    rest =
        sym (drop-drop (length y) (at + length x) (written at x a))
        ∙ ap (drop (length y)) (drop_at (take at a ++ x) (drop (at + length x) a) (at + length x) front)
        ∙ drop-drop (length y) (at + length x) a
        ∙ ap (λ (n : ℕ). drop n a) (add_assoc at (length x) (length y) ∙ ap (λ (n : ℕ). at + n) (sym (length-append x y)))

    joined : written (at + length x) y (written at x a) ≡ written at (x ++ y) a
    joined =
        ap (λ (l : List ℕ). l ++ y ++ drop (at + length x + length y) (written at x a)) (take_at (take at a ++ x) (drop (at + length x) a) (at + length x) front)
        ∙ ap (λ (l : List ℕ). take at a ++ x ++ y ++ l) rest
        ∙ ap (λ (l : List ℕ). l ++ drop (at + length (x ++ y)) a) (append_assoc (take at a) x y)

-- room for what follows
pub wrote_room : {a b x : List ℕ} {at m : ℕ} (y : List ℕ) → Wrote a b at x m → at + length x + length y ≤ length a → m + length y ≤ length b
wrote_room {a} {b} {x} {at} {m} y w h =
    let k : at + length x ≤ length a = omega arith in
    omega (arith, wrote_length w k, w.end_is)

-- a store of one byte
pub wrote_byte : (out : List ℕ) (at byte : ℕ) → at < length out → Wrote out (set out at byte) at (byte ∷ []) (at + 1)
wrote_byte out at byte h = record { end_is = refl; is = sets-eq (byte ∷ []) out at (omega arith) }
