-- What a walk passes up by `?`: that it exceeds the ceiling.
use mathlib.Core.Path.{◌≡◌}
use mathlib.Core.Bool.{true, false}
use Rattle.std.specs.Prelude.{Result, Ok, Err, IsErr}
use Rattle.units.specs.declared.AboveCeiling.{AboveCeiling}
use Rattle.rules.specs.Sum as rules
use Rattle.plain.specs.declared.Sum.{Sum}
use Rattle.plain.specs.Leaf.{Gives}

-- a walk that ends by `?` says that its sum exceeds
pub gives_err : (r : Result Sum AboveCeiling) → IsErr r → (v : rules.Sum) → v.exceeds ≡ true → Gives r v
gives_err (Ok s) h v e = let z : false ≡ true = h in cc
gives_err (Err x) h v e = e
