-- What is held, made of lent columns and a record.
use Rattle.std.specs.Prelude.{List, ℕ}
use Rattle.diagram.specs.Call.{columns}
use Rattle.commute.specs.Interface.{Held}

abbrev pub held : {R : Type 0} → List ℕ → List ℕ → List ℕ → R → Held R
held letter low high run = record { table = columns letter low high; run = run }
