-- What arrives at a node at T, read off the schedule and off the entries of its value and its next change.
use Rattle.std.specs.Prelude.{cond, ℕ}
use Rattle.format.specs.Circuit.{Circuit}
use Rattle.format.specs.Legal.{is_input}
use Rattle.diagram.specs.Table.{Table, number_at}
use Rattle.diagram.specs.Operation.{flip}
use Rattle.rules.specs.Arrive.{scheduled}

-- the value of input n after T, whose entry was `value`
abbrev pub input_after : ℕ → Circuit → Table → (time n value : ℕ) → ℕ → ℕ
input_after letters c t time n value p = scheduled c.schedule time n p (number_at letters t value p)

-- the value of node n after T, whose entries were `value` and `change`
abbrev pub value_after : ℕ → Circuit → Table → (time n value change : ℕ) → ℕ → ℕ
value_after letters c t time n value change p =
    cond (is_input c n) (input_after letters c t time n value p) (flip time (number_at letters t value p) (number_at letters t change p))
