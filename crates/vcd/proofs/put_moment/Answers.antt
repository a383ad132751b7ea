-- `put_moment` meets its contract. Nothing, or the time and its changes.
use native.Mathlib.Omega.{arith}
use lib.ListN.{length-append}
use mathlib.Core.Path.{sym, ◌∙◌}
use mathlib.Core.List.{◌++◌}
use Rattle.text.proofs.Written.{wrote_then, wrote_room}
use Rattle.vcd.specs.Lines.{time_line, change_lines, moment_lines}
use Rattle.vcd.specs.Column.{in_column}
use Rattle.vcd.proofs.Writing.{unless_room, unless_none, unless_wrote}
use Rattle.vcd.proofs.put_moment.Goals as goal

pub is_unchanged-requires : goal.is_unchanged-requires
is_unchanged-requires c = (c.requires.0, c.requires.1)

pub returns-then-is_unchanged : goal.returns-then-is_unchanged
unfolding moment_lines
returns-then-is_unchanged c =
    unless_none (time_line c.args.time ++ change_lines c.args.nodes (in_column c.args.before.now) (in_column c.args.after.now)) _ _
    (sym c.is_unchanged.ensures ∙ c.if-is_unchanged.true)

pub put_time-changes-requires : goal.put_time-changes-requires
unfolding moment_lines
put_time-changes-requires c =
    let x = time_line c.args.time ++ change_lines c.args.nodes (in_column c.args.before.now) (in_column c.args.after.now) in
    let room = unless_room x _ _ (sym c.is_unchanged.ensures ∙ c.if-is_unchanged.false) c.requires.2 in
    omega (arith, length-append (time_line c.args.time) (change_lines c.args.nodes (in_column c.args.before.now) (in_column c.args.after.now)))

pub put_changes-requires : goal.put_changes-requires
unfolding moment_lines
put_changes-requires c =
    let x = change_lines c.args.nodes (in_column c.args.before.now) (in_column c.args.after.now) in
    let room = unless_room (time_line c.args.time ++ x) _ _ (sym c.is_unchanged.ensures ∙ c.if-is_unchanged.false) c.requires.2 in
    (c.requires.0, c.requires.1, wrote_room x c.put_time-changes.ensures (omega (arith, length-append (time_line c.args.time) x)))

pub returns : goal.returns
unfolding moment_lines
returns c =
    let x = time_line c.args.time ++ change_lines c.args.nodes (in_column c.args.before.now) (in_column c.args.after.now) in
    let not_same = sym c.is_unchanged.ensures ∙ c.if-is_unchanged.false in
    let room = unless_room x _ _ not_same c.requires.2 in
    unless_wrote not_same (wrote_then c.put_time-changes.ensures c.put_changes.ensures (omega arith))
