-- A list written into a longer column: the places past it hold a default.
use Rattle.std.specs.Prelude.{ℕ, ◌-◌, List, ◌++◌, length, replicate}

abbrev pub padded : {A : Type 0} → ℕ → A → List A → List A
padded m d xs = xs ++ replicate (m - length xs) d
