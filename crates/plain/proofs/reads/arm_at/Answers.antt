-- `arm_at` reads the arm's number at its place.
use mathlib.Core.Path.{sym, ◌∙◌}
use Prim.Native.Nat.{◌<◌}
use native.Mathlib.Omega.{arith}
use Rattle.net.proofs.NodeArms.{arms_length, arms_at, arms_within}
use Rattle.plain.proofs.reads.arm_at.Goals as goal

pub overflow_add-n-2 : goal.overflow_add-n-2
overflow_add-n-2 c =
    let few : c.args.k < 64 = (omega (arith, arms_length c.args.net.now c.requires.net c.args.n c.requires.n_bound, c.requires.k_in_bounds, c.requires.net.degree c.args.n c.requires.n_bound)) in
    omega (arith, few)

pub read-requires : goal.read-requires
read-requires c =
    let few : c.args.k < 64 = (omega (arith, arms_length c.args.net.now c.requires.net c.args.n c.requires.n_bound, c.requires.k_in_bounds, c.requires.net.degree c.args.n c.requires.n_bound)) in
    omega (arith, few, c.requires.net.long, c.requires.net.within.nodes, c.requires.n_bound)

pub returns : goal.returns
returns c =
    let net = c.args.net.now in
    let e = c.read.ensures ∙ sym (arms_at net c.requires.net c.args.n c.requires.n_bound c.args.k c.requires.k_in_bounds) in
    (e, omega (arith, e, arms_within net c.requires.net c.args.n c.requires.n_bound c.args.k c.requires.k_in_bounds))
