-- The charges that the walks ask for: the kept transistors of a legal cell have them.
use native.Mathlib.Omega.{arith}
use Rattle.format.specs.Circuit.{Circuit}
use Rattle.format.proofs.Legal.{LegalCell}
use Rattle.rules.specs.State.{State}
use Rattle.rules.specs.Kept.{kept}
use Rattle.rules.proofs.Range.{kept_sum_charge, kept_load_charge}
use Rattle.plain.specs.Ready.{Ranged}

-- in every state
pub kept_ranged : (c : Circuit) → LegalCell c → (s : State) → Ranged c s (kept c s)
kept_ranged c legal s = record {
  sums = λ a n l. omega (arith, kept_sum_charge c legal s a n l);
  loads = λ a sharing new n l. omega (arith, kept_load_charge c legal s a n l sharing new);
}
