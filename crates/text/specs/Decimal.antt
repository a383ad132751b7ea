-- A number's decimal digits, as bytes: '0' is 48.
use Rattle.std.specs.Prelude.{ℕ, zero, suc, ◌+◌, ◌/◌, ◌%◌, List, [], ◌∷◌, ◌++◌, cond, ltb}

-- the digits, the most significant first and no zero before them; one more than the number is allowance enough
unfoldable pub digits_within : ℕ → ℕ → List ℕ
digits_within zero n = []
digits_within (suc k) n = cond (ltb n 10) ((48 + n) ∷ []) (digits_within k (n / 10) ++ (48 + n % 10) ∷ [])

unfoldable pub decimal : ℕ → List ℕ
decimal n = digits_within (suc n) n

-- a number and a space, and a number and the end of its line
abbrev pub spaced : ℕ → List ℕ
spaced n = decimal n ++ 32 ∷ []

abbrev pub ended : ℕ → List ℕ
ended n = decimal n ++ 10 ∷ []
