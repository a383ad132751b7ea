-- `first_from` meets its contract: zero where there is no record.
use mathlib.Core.Path.{◌≡◌, refl}
use Prim.Native.Nat.{ℕ, zero, suc}
use Rattle.format.specs.Saved.{first_from}
use Rattle.writer.proofs.layout.first_from.Goals as goal

some-records : (r n : ℕ) → (n ≡ 0 → ⊥) → r ≡ first_from r n
some-records r zero h = absurd (h refl)
some-records r (suc n) h = refl

pub returns-else-count-eq0 : goal.returns-else-count-eq0
returns-else-count-eq0 c = some-records c.args.r c.args.count c.if-count-eq0.false
