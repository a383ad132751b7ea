-- Whether storing stopped.
use Rattle.std.specs.Prelude.{Bool, true, false}
use Rattle.table.specs.declared.Stop.{Stop}
use Rattle.table.specs.declared.Stop.TheVariants.{Going, Full}

-- whatever the reason
abbrev pub stopped : Stop → Bool
stopped Going = false
stopped Full = true

-- for want of room
abbrev pub full_if : Bool → Stop
full_if true = Full
full_if false = Going
