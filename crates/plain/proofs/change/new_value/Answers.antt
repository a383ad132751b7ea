-- `new_value` goes by the charges where both sides are infinite, else by the resistances.
use mathlib.Core.Path.{sym, ◌∙◌, ap₂}
use mathlib.Core.Bool.{Bool}
use Rattle.rules.specs.Sum.{decided, new_value}
use Rattle.plain.proofs.change.new_value.Goals as goal

pub returns-then-undriven : goal.returns-then-undriven
unfolding new_value
returns-then-undriven c = rw (sym c.undriven.ensures ∙ c.if-undriven.true) c.decided.ensures

pub returns : goal.returns
unfolding new_value
returns c =
    let present = c.args.present in
    rw (sym c.undriven.ensures ∙ c.if-undriven.false)
    (c.decided-2.ensures ∙ ap₂ (λ (up down : Bool). decided up down present) c.less.ensures c.less-2.ensures)
