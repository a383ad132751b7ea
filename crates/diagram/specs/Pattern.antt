-- A pattern is a number below 2^K; bit k of it is letter k.
use Rattle.std.specs.Prelude.{ℕ, ◌+◌, ◌-◌, ◌*◌, ◌/◌, ◌%◌, ◌^◌}

abbrev pub most_letters : ℕ
most_letters = 12

abbrev pub patterns : ℕ → ℕ
patterns letters = 2 ^ letters

abbrev pub letter_at : ℕ → ℕ → ℕ
letter_at k p = p / 2 ^ k % 2

-- the pattern with letter k at a bit
abbrev pub with_letter : ℕ → ℕ → ℕ → ℕ
with_letter k bit p = p - letter_at k p * 2 ^ k + bit * 2 ^ k
