-- `touch::input_changed` meets its contract. Assumes nothing.
use mathlib.Core.Path.{ap₂}
use mathlib.Core.Bool.{◌&&◌}
use Rattle.plain.proofs.touch.input_changed.Goals as goal

pub returns : goal.returns
returns c = ap₂ ◌&&◌ c.is_input.ensures c.changed.ensures
