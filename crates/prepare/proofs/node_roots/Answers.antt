-- `node_roots` meets its contract: the first entries are copied into zeros. Assumes nothing.
use Rattle.std.proofs.Common.{rules, arith}
use Rattle.prepare.proofs.Placing.{nodes_placed, pending_room}
use Rattle.prepare.proofs.node_roots.Goals as goal

pub slice_bounds-out-end-3 : goal.slice_bounds-out-end-3
slice_bounds-out-end-3 c = pending_room _ _ _ _ (search rules) (search rules) (omega arith) (omega (arith, c.requires.within.nodes))

pub returns : goal.returns
returns c = nodes_placed _ _ _ _ _ _ _ _ _ (search rules) (search rules) (search rules) (omega (arith, c.requires.within.nodes)) (omega arith) (omega arith) c.copy_from_slice.ensures.after c.copy_from_slice-2.ensures.after c.copy_from_slice-3.ensures.after (omega arith)
