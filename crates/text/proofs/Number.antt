-- Laws of a number read from a text; what decimal writes is read back.
use mathlib.Core.Path.{◌≡◌, refl, sym, ◌∙◌, ap}
use mathlib.Core.Logic.{⊎_elim}
use mathlib.Core.Bool.{true, false, cond}
use mathlib.Core.List.{List, [], ◌∷◌, ◌++◌}
use Prim.Native.Nat.{ℕ, zero, suc, ◌+◌, ◌-◌, ◌*◌, ◌/◌, ◌%◌, ◌^◌, ◌<◌, ◌≤◌}
use native.Mathlib.Nat.{le_refl, le_trans}
use native.Mathlib.Numerals.{add-one}
use native.Mathlib.Omega.{arith}
use lib.ListN.{length, get_or, drop, drop_of_length-le}
use lib.Seq.{drop-cons}
use borrow.Author.Tests.{lt-ltb, le-ltb, le-leb}
use Rattle.lists.proofs.Cases.{lt_or_ge, and_left, and_right, and_both}
use Rattle.std.specs.Prelude.{Result, Ok, Err, OkIff}
use Rattle.std.specs.Result.{result_or}
use Rattle.std.specs.declared.num.TryFromIntError.{TryFromIntError}
use Rattle.text.specs.declared.ParseError.TheVariants.{Large, Other}
use Rattle.text.specs.Decimal.{decimal}
use Rattle.text.specs.Number.{is_digit, all_digits, value_from, sized, parsed_from, parsed, with_digit}
use Rattle.text.proofs.Decimal.{decimal_digit, decimal_more, decimal_count}

-- more digits make no smaller value
value_grows : (v : ℕ) (bs : List ℕ) → v ≤ value_from v bs
unfolding value_from
value_grows v [] = le_refl v
value_grows v (b ∷ bs) = le_trans (omega arith) (value_grows (v * 10 + (b - 48)) bs)

-- a digit behind others
value_last : (v : ℕ) (bs : List ℕ) (d : ℕ) → value_from v (bs ++ d ∷ []) ≡ value_from v bs * 10 + (d - 48)
unfolding value_from
value_last v [] d = refl
value_last v (b ∷ bs) d = value_last (v * 10 + (b - 48)) bs d

digits_last : (bs : List ℕ) (d : ℕ) → all_digits bs ≡ true → is_digit d ≡ true → all_digits (bs ++ d ∷ []) ≡ true
unfolding all_digits
digits_last [] d p q = rw q
digits_last (b ∷ bs) d p q =
    and_both (is_digit b) (all_digits (bs ++ d ∷ [])) (and_left (is_digit b) (all_digits bs) p) (digits_last bs d (and_right (is_digit b) (all_digits bs) p) q)

is_digit_lem : (d : ℕ) → d < 10 → is_digit (48 + d) ≡ true
is_digit_lem d h = rw (le-leb 48 (48 + d) (omega arith), le-leb (48 + d) 57 (omega arith))

no_digits : all_digits [] ≡ true
unfolding all_digits
no_digits = refl

no_value : value_from 0 [] ≡ 0
unfolding value_from
no_value = refl

-- the digits of a number are digits, and their value is the number
digits_within_lem : (k n : ℕ) → n < k → all_digits (decimal n) ≡ true
digits_within_lem zero n h = absurd (omega arith)
digits_within_lem (suc k) n h =
    ⊎_elim
    (λ (s : n < 10). rw (decimal_digit n s) (digits_last [] (48 + n) no_digits (is_digit_lem n s)))
    (λ (s : 10 ≤ n). rw (decimal_more n s) (digits_last (decimal (n / 10)) (48 + n % 10) (digits_within_lem k (n / 10) (omega arith)) (is_digit_lem (n % 10) (omega arith))))
    (lt_or_ge n 10)

value_within : (k n : ℕ) → n < k → value_from 0 (decimal n) ≡ n
value_within zero n h = absurd (omega arith)
value_within (suc k) n h =
    ⊎_elim
    (λ (s : n < 10). rw (decimal_digit n s) (value_last 0 [] (48 + n) ∙ omega (arith, no_value)))
    (λ (s : 10 ≤ n). rw (decimal_more n s) (value_last 0 (decimal (n / 10)) (48 + n % 10) ∙ omega (arith, value_within k (n / 10) (omega arith))))
    (lt_or_ge n 10)

pub decimal_digits : (n : ℕ) → all_digits (decimal n) ≡ true
decimal_digits n = digits_within_lem (suc n) n (omega arith)

pub decimal_value : (n : ℕ) → value_from 0 (decimal n) ≡ n
decimal_value n = value_within (suc n) n (omega arith)

-- so different numbers have different digits
pub decimal_one : (m n : ℕ) → decimal m ≡ decimal n → m ≡ n
decimal_one m n e = sym (decimal_value m) ∙ ap (value_from 0) e ∙ decimal_value n

-- no text is a number
pub parsed_none : (text : List ℕ) → length text ≡ 0 → Err Other ≡ parsed text
unfolding parsed
parsed_none [] h = refl
parsed_none (b ∷ bs) h = absurd (omega arith)

pub parsed_some : (text : List ℕ) → (length text ≡ 0 → ⊥) → parsed_from 0 text ≡ parsed text
unfolding parsed
parsed_some [] h = absurd (h refl)
parsed_some (b ∷ bs) h = refl

-- a turn of the loop that reads: a byte that is no digit, a digit, the end
from_bad : (v b : ℕ) (bs : List ℕ) → is_digit b ≡ false → Err Other ≡ parsed_from v (b ∷ bs)
unfolding parsed_from all_digits
from_bad v b bs e = rw e

pub from_other : (text : List ℕ) (v i : ℕ) → i < length text → is_digit (get_or text i 0) ≡ false → Err Other ≡ parsed_from v (drop i text)
from_other text v i h g = rw (drop-cons text i 0 h) (from_bad v (get_or text i 0) (drop (suc i) text) g)

-- a value by its size
sized_large : (v : ℕ) → 2 ^ 32 ≤ v → Err Large ≡ sized v
sized_large v h = rw (le-ltb v (2 ^ 32) h)

sized_number : (v : ℕ) → v < 2 ^ 32 → Ok v ≡ sized v
sized_number v h = rw (lt-ltb v (2 ^ 32) h)

-- a value that is beyond 32 bits decides, whatever digits follow
from_digit : (v b : ℕ) (bs : List ℕ) → is_digit b ≡ true → parsed_from v (b ∷ bs) ≡ parsed_from (with_digit v b) bs
unfolding parsed_from all_digits value_from
from_digit v b bs e =
    ⊎_elim
    (λ (s : v < 2 ^ 32). rw (e, lt-ltb v (2 ^ 32) s))
    (λ (s : 2 ^ 32 ≤ v).
    let more = value_grows (v * 10 + (b - 48)) bs in
    let same = sym (sized_large (value_from (v * 10 + (b - 48)) bs) (omega arith)) ∙ sized_large (value_from v bs) (omega (arith, value_grows v bs)) in
    rw (e, le-ltb v (2 ^ 32) s) (ap (λ x. cond (all_digits bs) x (Err Other)) same))
    (lt_or_ge v (2 ^ 32))

pub from_more : (text : List ℕ) (v i : ℕ) → i < length text → is_digit (get_or text i 0) ≡ true
    → parsed_from v (drop i text) ≡ parsed_from (with_digit v (get_or text i 0)) (drop (i + 1) text)
from_more text v i h g = rw (add-one, drop-cons text i 0 h) (from_digit v (get_or text i 0) (drop (suc i) text) g)

pub with_digit_kept : (v b : ℕ) → 2 ^ 32 ≤ v → v ≡ with_digit v b
with_digit_kept v b h = rw (le-ltb v (2 ^ 32) h)

pub with_digit_more : (v b : ℕ) → v < 2 ^ 32 → v * 10 + (b - 48) ≡ with_digit v b
with_digit_more v b h = rw (lt-ltb v (2 ^ 32) h)

-- so the value stays small
pub with_digit_small : (v b : ℕ) → b ≤ 57 → v < 10 * 2 ^ 32 → with_digit v b < 10 * 2 ^ 32
with_digit_small v b h g =
    ⊎_elim
    (λ (s : v < 2 ^ 32). omega (arith, with_digit_more v b s))
    (λ (s : 2 ^ 32 ≤ v). omega (arith, with_digit_kept v b s))
    (lt_or_ge v (2 ^ 32))

from_end : (v : ℕ) → sized v ≡ parsed_from v []
unfolding parsed_from all_digits value_from
from_end v = refl

from_done : (text : List ℕ) (v i : ℕ) → length text ≤ i → sized v ≡ parsed_from v (drop i text)
from_done text v i h = rw (drop_of_length-le text {i = i} h) (from_end v)

from_number : (text : List ℕ) (v i : ℕ) → length text ≤ i → v < 2 ^ 32 → Ok v ≡ parsed_from v (drop i text)
from_number text v i h g = sized_number v g ∙ from_done text v i h

from_large : (text : List ℕ) (v i : ℕ) → length text ≤ i → 2 ^ 32 ≤ v → Err Large ≡ parsed_from v (drop i text)
from_large text v i h g = sized_large v g ∙ from_done text v i h

-- the value at the end, as 32 bits or not
pub from_whole : (text : List ℕ) (v i : ℕ) → length text ≤ i → (whole : Result ℕ TryFromIntError) → OkIff whole (v < 2 ^ 32) v
    → result_or whole (Err Large) ≡ parsed_from v (drop i text)
from_whole text v i h (Ok n) e = ap Ok e.1 ∙ from_number text v i h e.0
from_whole text v i h (Err e) n = from_large text v i h (omega arith)

-- what decimal writes is read back
decimal_some : (n : ℕ) → length (decimal n) ≡ 0 → ⊥
decimal_some n e =
    ⊎_elim
    (λ (s : n < 10). omega (arith, ap length (decimal_digit n s)))
    (λ (s : 10 ≤ n). omega (arith, decimal_count n s))
    (lt_or_ge n 10)

pub decimal_parsed : (n : ℕ) → n < 2 ^ 32 → parsed (decimal n) ≡ Ok n
unfolding parsed_from
decimal_parsed n h = sym (parsed_some (decimal n) (decimal_some n)) ∙ rw (decimal_digits n, decimal_value n, lt-ltb n (2 ^ 32) h)

pub decimal_large : (n : ℕ) → 2 ^ 32 ≤ n → parsed (decimal n) ≡ Err Large
unfolding parsed_from
decimal_large n h = sym (parsed_some (decimal n) (decimal_some n)) ∙ rw (decimal_digits n, decimal_value n, le-ltb n (2 ^ 32) h)
