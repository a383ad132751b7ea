-- `put_values` meets its contract. The loop has written the values of the first i node records.
use Prim.Native.Nat.{ℕ, ◌+◌}
use Rattle.text.proofs.Lines.{Lined}
use Rattle.vcd.specs.Lines.{value_line}
use Rattle.vcd.specs.Column.{in_column}
use Rattle.vcd.proofs.put_values.Given as goal

abbrev pub invariant-loop-i : goal.invariant-loop-i
invariant-loop-i l = Lined (λ (k : ℕ). value_line (2 + k) (in_column l.values (2 + k))) l.nodes l.initial.out l.out l.at l.i l.end
