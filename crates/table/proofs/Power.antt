-- The least power of two that is not below a number of at most 65,536 is at most 65,536 too.
use mathlib.Core.Path.{◌≡◌}
use mathlib.Core.Logic.{⊎_elim}
use Prim.Native.Nat.{ℕ, ◌/◌, ◌^◌, ◌<◌, ◌≤◌}
use native.Mathlib.Omega.{arith}
use lib.Pow.{pow_mono}
use Rattle.std.specs.Prelude.{max}
use Rattle.lists.proofs.Cases.{lt_or_ge}

pub power_most : {p size : ℕ} (k : ℕ) → p ≡ 2 ^ k → p / 2 < max 1 size → size ≤ 65536 → p ≤ 65536
power_most k is least few =
    ⊎_elim
    (λ (g : k < 17). let h : k ≤ 16 = omega arith in omega (arith, is, pow_mono h))
    (λ (g : 17 ≤ k). absurd (omega (arith, is, pow_mono g)))
    (lt_or_ge k 17)
