-- A number of ohms, of femtofarads, of picoseconds, and that an operation exceeds the ceiling: the values of the structs.
use Rattle.std.specs.Prelude.{ℕ}
use Rattle.units.specs.declared.Ohms.{Ohms}
use Rattle.units.specs.declared.Femtofarads.{Femtofarads}
use Rattle.units.specs.declared.Picoseconds.{Picoseconds}
use Rattle.units.specs.declared.AboveCeiling.{AboveCeiling}

abbrev pub ohms : ℕ → Ohms
ohms n = record { 0 = n }

abbrev pub femtofarads : ℕ → Femtofarads
femtofarads n = record { 0 = n }

abbrev pub picoseconds : ℕ → Picoseconds
picoseconds n = record { 0 = n }

abbrev pub above_ceiling : AboveCeiling
above_ceiling = record {}
