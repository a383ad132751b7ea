-- Cases (a) to (j): the one statement about the one table.
use mathlib.Core.Path.{refl}
use Rattle.rules.specs.Cases.{Agree, new_values, after, times_and_used, node_records, file_of, cases}
use Rattle.rules.proofs.Opened.{opened}

pub cases_agree : Agree cases
unfolding opened new_values after times_and_used node_records file_of cases
cases_agree = refl
