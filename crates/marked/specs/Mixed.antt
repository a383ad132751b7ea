-- The next changes of all nodes where some are stirred: these by the roots of a step, the others at rest.
use Rattle.std.specs.Prelude.{List, map, cond, ℕ, get_or, eqb}
use Rattle.format.specs.Circuit.{Circuit}
use Rattle.diagram.specs.Table.{Table}
use Rattle.diagram.specs.Held.{held}
use Rattle.rules.specs.State.{node_numbers}
use Rattle.rules.specs.Run.{store_all}
use Rattle.net.specs.Net.{letters_place, at, net_circuit}
use Rattle.values.specs.declared.Many.{Many}
use Rattle.values.specs.All.{OutcomeAll}
use Rattle.stir.specs.Rest.{rest_with}
use Rattle.marked.specs.ByRoots.{settled_for}

-- the next change of node n at a pattern, by its mark and its pending change e
abbrev pub mixed_with : Circuit → ℕ → ℕ → Table → Table → List ℕ → ℕ → ℕ → ℕ → ℕ → ℕ
mixed_with c time letters t w roots mark e n p = cond (eqb mark 0) (rest_with c time letters t e n p) (settled_for c time letters w roots n p)

-- and by its own
abbrev pub mixed_of : Circuit → ℕ → ℕ → Table → Table → List ℕ → List ℕ → List ℕ → ℕ → ℕ → ℕ
mixed_of c time letters t w roots marks pending n p = mixed_with c time letters t w roots (get_or marks n 0) (get_or pending n 0) n p

-- those of all nodes are stored in node order, in a table of `used` entries; u is the table that the roots are entries of
abbrev pub MixedAll : (net : List ℕ) (time : ℕ) (u : Table) (roots marks pending : List ℕ) (used : ℕ) (l w h l1 w1 h1 ix1 : List ℕ) → Many → Type 0
MixedAll net time u roots marks pending used l w h l1 w1 h1 ix1 r =
    OutcomeAll (held l w h used)
    (store_all (at net letters_place) (map (mixed_of (net_circuit net) time (at net letters_place) (held l w h used) u roots marks pending) (node_numbers (net_circuit net))) (held l w h used))
    l1 w1 h1 ix1 r.stop r.used r.entries
