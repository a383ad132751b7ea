-- `join_kept`: the entry is one of the table's, so one more fits a word.
use mathlib.Core.Path.{sym, ◌∙◌}
use native.Mathlib.Omega.{arith}
use Rattle.lists.proofs.Cases.{true_false}
use Rattle.functions.proofs.Carry.{join_within}
use Rattle.functions.proofs.step.join_kept.Goals as goal

pub returns-then-stopped : goal.returns-then-stopped
returns-then-stopped c = record { outcome = c.join-r.ensures; kept = λ z. true_false _ (sym c.stopped.ensures ∙ c.if-stopped.true) z }

pub keep-requires : goal.keep-requires
keep-requires c = (c.requires.in_bounds, omega (arith, join_within c.args.m c.args.a c.args.b c.requires.holds.0 c.requires.holds.1 c.join-r.ensures (sym c.stopped.ensures ∙ c.if-stopped.false)))

pub returns : goal.returns
returns c = record { outcome = c.join-r.ensures; kept = λ _. c.keep.ensures }
