-- `by_mark` meets its contract: at rest, or by the roots. Assumes nothing.
use borrow.Author.Tests.{eq-eqb, ne_eqb}
use lib.Dec.{eqb}
use Rattle.net.specs.Net.{at, net_circuit}
use Rattle.stir.specs.Rest.{rest_with}
use Rattle.stir.proofs.Single.{first_put, second_put}
use Rattle.marked.specs.ByRoots.{settled_for}
use Rattle.diagram.specs.Held.{held}
use Rattle.marked.proofs.nodes.by_mark.Goals as goal

pub at_rest-requires : goal.at_rest-requires
at_rest-requires c = (c.requires.0.cell, c.requires.1, c.requires.2, c.requires.3, c.requires.4)

pub returns-then-mark-eq0 : goal.returns-then-mark-eq0
returns-then-mark-eq0 c = first_put (at c.args.net.now 3) (eqb c.args.mark 0) (rest_with (net_circuit c.args.net.now) c.args.time (at c.args.net.now 3) (held c.args.letter.now c.args.low.now c.args.high.now c.args.used) c.args.e c.args.n) (settled_for (net_circuit c.args.net.now) c.args.time (at c.args.net.now 3) (held c.args.wletter.now c.args.wlow.now c.args.whigh.now c.args.wused) c.args.roots c.args.n) (eq-eqb c.args.mark 0 c.if-mark-eq0.true) c.at_rest.ensures

pub by_roots-requires : goal.by_roots-requires
by_roots-requires c = (c.requires.0, c.requires.1, c.requires.2)

pub returns : goal.returns
returns c = second_put (at c.args.net.now 3) (eqb c.args.mark 0) (rest_with (net_circuit c.args.net.now) c.args.time (at c.args.net.now 3) (held c.args.letter.now c.args.low.now c.args.high.now c.args.used) c.args.e c.args.n) (settled_for (net_circuit c.args.net.now) c.args.time (at c.args.net.now 3) (held c.args.wletter.now c.args.wlow.now c.args.whigh.now c.args.wused) c.args.roots c.args.n) (ne_eqb c.args.mark 0 c.if-mark-eq0.false) c.by_roots.ensures
