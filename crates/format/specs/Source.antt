-- A source byte: 0 low, 1 high, 2 + 2k letter k, 3 + 2k its complement.
use Rattle.std.specs.Prelude.{ℕ, ◌+◌, ◌-◌, ◌*◌, ◌/◌, Bool, ltb}

-- a source of a cell with K letters names no other letter
abbrev pub source_legal : ℕ → ℕ → Bool
source_legal letters source = ltb source (2 + 2 * letters)

-- the source names no letter
abbrev pub constant : ℕ → Bool
constant source = ltb source 2

-- the letter that a source names
abbrev pub letter_of : ℕ → ℕ
letter_of source = (source - 2) / 2
