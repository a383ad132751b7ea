-- A decimal number read from a text: one digit at least and nothing but digits; whether it is within 32 bits. Zeros may stand before it.
use Rattle.std.specs.Prelude.{ℕ, ◌+◌, ◌-◌, ◌*◌, ◌^◌, List, [], ◌∷◌, Bool, true, ◌&&◌, cond, leb, ltb, Result, Ok, Err}
use Rattle.text.specs.declared.ParseError.{ParseError}
use Rattle.text.specs.declared.ParseError.TheVariants.{Large, Other}

abbrev pub is_digit : ℕ → Bool
is_digit byte = leb 48 byte && leb byte 57

unfoldable pub all_digits : List ℕ → Bool
all_digits [] = true
all_digits (b ∷ bs) = is_digit b && all_digits bs

-- the value of digits that stand behind a value
unfoldable pub value_from : ℕ → List ℕ → ℕ
value_from value [] = value
value_from value (b ∷ bs) = value_from (value * 10 + (b - 48)) bs

-- a number within 32 bits, or a larger one
abbrev pub sized : ℕ → Result ℕ ParseError
sized value = cond (ltb value (2 ^ 32)) (Ok value) (Err Large)

-- the text behind a value
unfoldable pub parsed_from : ℕ → List ℕ → Result ℕ ParseError
parsed_from value text = cond (all_digits text) (sized (value_from value text)) (Err Other)

unfoldable pub parsed : List ℕ → Result ℕ ParseError
parsed [] = Err Other
parsed (b ∷ bs) = parsed_from 0 (b ∷ bs)

-- a value with a digit behind it; a value beyond 32 bits stays as it is
abbrev pub with_digit : ℕ → ℕ → ℕ
with_digit value byte = cond (ltb value (2 ^ 32)) (value * 10 + (byte - 48)) value
