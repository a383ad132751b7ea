use native.Mathlib.Omega.{arith}
use Rattle.table.proofs.Power.{power_most}
use Rattle.table.proofs.index_len.Goals as goal

pub returns : goal.returns
returns c =
    let p = c.next_power_of_two.ensures in
    let most = power_most p.power.0 p.power.1 p.upper_bound c.requires in
    record { even = omega arith; room = omega (arith, p.lower_bound); most = omega (arith, most) }
