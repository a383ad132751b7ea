-- The highest byte of a number of four.
use Rattle.std.proofs.Common.{◌≡◌, ℕ, ◌/◌, arith}

pub top_byte : (n : ℕ) → n / 16777216 ≡ n / 65536 / 256
top_byte n = omega arith
