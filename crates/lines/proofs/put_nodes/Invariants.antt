-- `put_nodes` meets its contract. The loop's invariant: the lines of the node records passed are written. Assumes nothing.
use Prim.Native.Nat.{◌*◌}
use Rattle.lines.specs.Lines.{line_room, Put, node_lines}
use Rattle.diagram.specs.Held.{held}
use Rattle.lines.proofs.put_nodes.Given as goal

abbrev pub invariant-loop-i : goal.invariant-loop-i
invariant-loop-i l =
    Put l.initial.out l.out l.at (node_lines l.k l.i (held l.letter l.low l.high l.used) l.time l.all l.values l.before) (line_room * l.i) l.end
