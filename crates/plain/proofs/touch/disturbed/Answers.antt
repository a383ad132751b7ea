-- `touch::disturbed` meets its contract. Assumes nothing.
use mathlib.Core.Path.{ap₂}
use mathlib.Core.Bool.{◌||◌}
use native.Mathlib.Omega.{arith}
use Rattle.plain.proofs.touch.disturbed.Goals as goal

pub changed-requires : goal.changed-requires
changed-requires c =
    let t = c.requires.laid.within.transistor c.args.i c.requires.before_len.2 in
    let few = c.requires.laid.within.nodes in
    (c.requires.before_len.0, c.requires.before_len.1, omega (arith, t.gate))

pub input_changed-requires : goal.input_changed-requires
input_changed-requires c =
    let t = c.requires.laid.within.transistor c.args.i c.requires.before_len.2 in
    let few = c.requires.laid.within.nodes in
    record { laid = c.requires.laid; before_len = (c.requires.before_len.0, c.requires.before_len.1, t.first) }

pub input_changed-requires-2 : goal.input_changed-requires-2
input_changed-requires-2 c =
    let t = c.requires.laid.within.transistor c.args.i c.requires.before_len.2 in
    let few = c.requires.laid.within.nodes in
    record { laid = c.requires.laid; before_len = (c.requires.before_len.0, c.requires.before_len.1, t.second) }

pub returns : goal.returns
returns c = ap₂ ◌||◌ (ap₂ ◌||◌ c.changed.ensures c.input_changed.ensures) c.input_changed-2.ensures
