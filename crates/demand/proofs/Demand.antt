-- The demands on runs, proved for the calls from C and the calls by value.
use mathlib.Core.Path.{◌∙◌, ap}
use Rattle.format.specs.Legal.{check_circuit}
use Rattle.format.specs.Fixing.{fixed}
use Rattle.format.proofs.Fixing.{fixed_legal}
use Rattle.format.proofs.FixedFile.{fixed_file_lem}
use Rattle.cell.proofs.Read.{circuit_of_cell}
use Rattle.commute.specs.Interface.{Interface}
use Rattle.commute.proofs.Lawful.{Lawful}
use Rattle.commute.proofs.Order.{order_makes_no_difference}
use Rattle.commute.proofs.Rules.{questions_tell, starts_by_the_rules, each_pattern_by_the_rules, without_letters_by_the_rules, no_letters_by_the_rules, fully_fixed_by_the_rules}
use Rattle.demand.specs.Demand.{Demands, DemandsFromC, DemandsByValue, FixedFileIsRead, FixedValueIsChecked}
use Rattle.demand.proofs.FromC.{from_c_lawful}
use Rattle.demand.proofs.ByValue.{by_value_lawful}

demands : {Source R : Type 0} {K : Interface Source R} → Lawful K → Demands K
demands L = record {
  order = order_makes_no_difference L;
  starts = starts_by_the_rules L;
  each_pattern = each_pattern_by_the_rules L;
  without_letters_lem = without_letters_by_the_rules L;
  no_letters = no_letters_by_the_rules L;
  fully_fixed = fully_fixed_by_the_rules L;
  questions = questions_tell L;
}

-- demand 3 and demand 2 over the calls from C
pub demands_from_c : DemandsFromC
demands_from_c = demands from_c_lawful

-- and over the calls by value
pub demands_by_value : DemandsByValue
demands_by_value = demands by_value_lawful

pub fixed_file_is_read : FixedFileIsRead
unfolding FixedFileIsRead
fixed_file_is_read file c read φ = fixed_file_lem φ file c read

pub fixed_value_is_checked : FixedValueIsChecked
unfolding FixedValueIsChecked
fixed_value_is_checked c legal φ = ap check_circuit (circuit_of_cell (fixed φ c)) ∙ fixed_legal φ c legal
