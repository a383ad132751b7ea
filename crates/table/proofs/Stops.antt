-- What a stop for want of room says.
use mathlib.Core.Path.{◌≡◌, refl, sym, ◌∙◌, ap}
use mathlib.Core.Bool.{Bool, true, false}
use Prim.Native.Nat.{ℕ, ◌<◌, ◌≤◌}
use native.Mathlib.Omega.{arith}
use lib.Dec.{ltb}
use borrow.Author.Tests.{lt-ltb, le-ltb, ltb-true, ltb-false}
use Rattle.table.specs.declared.Stop.{Stop}
use Rattle.table.specs.declared.Stop.TheVariants.{Going, Full}
use Rattle.table.specs.Stop.{stopped, full_if}

stopped_full : (b : Bool) → stopped (full_if b) ≡ b
stopped_full true = refl
stopped_full false = refl

-- m rows for n entries
module _ {stop : Stop} (m n : ℕ) (e : stop ≡ full_if (ltb m n)) where
  stopped_is : stopped stop ≡ ltb m n
  stopped_is = ap stopped e ∙ stopped_full (ltb m n)

  pub stop_over : stopped stop ≡ true → m < n
  stop_over s = ltb-true m n (sym stopped_is ∙ s)

  pub stop_fits : stopped stop ≡ false → n ≤ m
  stop_fits s = ltb-false m n (sym stopped_is ∙ s)

  -- where there are too few for n, there are for more
  pub stop_more : stopped stop ≡ true → (k : ℕ) → n ≤ k → stop ≡ full_if (ltb m k)
  stop_more s k more = e ∙ ap full_if (lt-ltb m n (stop_over s) ∙ sym (lt-ltb m k (omega (arith, stop_over s))))

-- what fits goes on
pub going_fits : (m n : ℕ) → n ≤ m → Going ≡ full_if (ltb m n)
going_fits m n fits = ap full_if (sym (le-ltb m n fits))

-- what does not is full
pub full_over : (m n : ℕ) → m < n → Full ≡ full_if (ltb m n)
full_over m n over = ap full_if (sym (lt-ltb m n over))
