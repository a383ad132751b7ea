-- `put_changes` meets its contract. The loop has written the changes of the first i node records.
use mathlib.Core.List.{[]}
use mathlib.Core.Bool.{cond}
use lib.Dec.{eqb}
use Prim.Native.Nat.{ℕ, ◌+◌}
use Rattle.text.proofs.Lines.{Lined}
use Rattle.vcd.specs.Lines.{value_line}
use Rattle.vcd.specs.Column.{in_column}
use Rattle.vcd.proofs.put_changes.Given as goal

abbrev pub invariant-loop-i : goal.invariant-loop-i
invariant-loop-i l =
    Lined (λ (k : ℕ). cond (eqb (in_column l.before (2 + k)) (in_column l.after (2 + k))) [] (value_line (2 + k) (in_column l.after (2 + k)))) l.nodes l.initial.out l.out l.at l.i l.end
