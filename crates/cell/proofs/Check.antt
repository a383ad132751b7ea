-- The check of a cell by its three tests.
use mathlib.Core.Path.{◌≡◌}
use mathlib.Core.Bool.{Bool}
use Rattle.refusal.specs.declared.Refusal.TheVariants.{Header, Record, Order}
use Rattle.refusal.specs.Answer.{answered, check}
use Rattle.format.specs.Circuit.{header_of, no_node, no_transistor, no_entry}
use Rattle.format.specs.Legal.{limits_kept, fields_legal, rising, check_circuit}
use Rattle.cell.specs.declared.Cell.{Cell}
use Rattle.cell.specs.Value.{circuit_of}
use Rattle.cell.proofs.Firsts.{length_firsts}

-- the lists have the header's counts
pub header_kept : (c : Cell) → header_of (circuit_of c) ≡ c.header
unfolding circuit_of
header_kept c = λ i. record {
  nodes = length_firsts no_node c.header.nodes c.nodes i;
  transistors = length_firsts no_transistor c.header.transistors c.transistors i;
  entries = length_firsts no_entry c.header.entries c.schedule i;
  letters = c.header.letters;
  horizon = c.header.horizon;
}

pub check_by : (c : Cell) {a b d : Bool} → limits_kept c.header ≡ a → fields_legal (circuit_of c) ≡ b → rising (circuit_of c).schedule ≡ d
    → check_circuit (circuit_of c) ≡ check a Header (check b Record (check d Order (answered (circuit_of c))))
unfolding check_circuit
check_by c e f g = rw (header_kept c, e, f, g)
