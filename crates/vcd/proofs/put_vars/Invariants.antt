-- `put_vars` meets its contract. The loop has written the lines of the first i node records.
use Prim.Native.Nat.{◌+◌}
use Rattle.text.proofs.Lines.{Lined}
use Rattle.vcd.specs.Lines.{var_line}
use Rattle.vcd.proofs.put_vars.Given as goal

abbrev pub invariant-loop-i : goal.invariant-loop-i
invariant-loop-i l = Lined (λ k. var_line (2 + k)) l.nodes l.initial.out l.out l.at l.i l.end
