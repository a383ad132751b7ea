use mathlib.Core.Path.{refl}
use mathlib.Core.Bool.{true}
use Prim.Native.Nat.{◌-◌}
use lib.ListN.{get_or}
use Rattle.lists.proofs.Cases.{true_false}
use Rattle.descent.proofs.Seeds.{seed_found}
use Rattle.descent.proofs.live.some_seed.Goals as goal

pub returns-then-at-roots : goal.returns-then-at-roots
returns-then-at-roots c =
    ((λ e. true_false true refl e), λ _ none. seed_found c.args.roots.now (get_or c.args.live.now (c.loop-k.k - 1) 0) c.if-at-roots.true none)
