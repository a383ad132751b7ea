-- The dump and the calls on a run: wherever a run of the cell stands, the run question is answered with the value that the dump shows there.
use Rattle.std.specs.Prelude.{ℕ, ◌+◌, ◌≤◌, ◌<◌, ◌≡◌, List, length}
use Rattle.refusal.specs.Answer.{answered}
use Rattle.format.specs.Circuit.{Circuit, first_node_number}
use Rattle.format.specs.Fixing.{Fixing, fixed}
use Rattle.diagram.specs.Pattern.{patterns}
use Rattle.commute.specs.Interface.{Held, Interface}
use Rattle.commute.specs.Lists.{Reached}
use Rattle.commute.specs.Demand.{fixed_pattern, Stands}
use Rattle.vcd.specs.Dump.{dump_answer}
use Rattle.vcd.specs.Viewer.{shown_at}

-- The dump of a cell at pattern p, and a run of the cell with any letters fixed, some, all or none, any list of calls after its start: at each
-- picosecond at which the run stands, the question at a pattern that the fixing makes p tells of each node record what the dump shows.
unfoldable pub DumpShowsTheRun : {Source R : Type 0} → Interface Source R → Type 0
DumpShowsTheRun {Source} {R} K =
    (s fixed-one : Source) (c : Circuit) (φ : Fixing) → K.cell s ≡ answered c → K.cell fixed-one ≡ answered (fixed φ c)
    → (q : ℕ) → q < patterns c.letters → (bytes : List ℕ) → dump_answer (K.cell s) (fixed_pattern φ c.letters q) ≡ answered bytes
    → (size : ℕ) (h : Held R) → Reached K fixed-one size h → (at : ℕ) → Stands K fixed-one (fixed φ c) h at
    → (n : ℕ) → first_node_number ≤ n → n < first_node_number + length c.nodes
    → (number value change : ℕ) → K.Ask fixed-one h n q number value change
    → (number ≡ 0) × (value ≡ shown_at bytes n at)
