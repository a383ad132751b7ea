-- A run of zero bytes, as a test of each of them.
use Rattle.std.proofs.Common.{◌≡◌, ℕ, zero, suc, ◌+◌, ◌≤◌, List, length, take, drop, eqb, refl, add-one, drop-cons, arith}
use Rattle.format.specs.Circuit.{every}
use Rattle.format.specs.File.{zero_bytes}

pub zeros_every : (file : List ℕ) (n i : ℕ) → i + n ≤ length file → every (λ (b : ℕ). eqb b 0) (take n (drop i file)) ≡ zero_bytes file n i
unfolding every zero_bytes
zeros_every file zero i h = refl
zeros_every file (suc n) i h =
    let rest : every (λ (b : ℕ). eqb b 0) (take n (drop (suc i) file)) ≡ zero_bytes file n (i + 1) = rw (← add-one) (zeros_every file n (i + 1) (omega arith)) in
    rw (drop-cons file i 0 (omega arith), rest)
