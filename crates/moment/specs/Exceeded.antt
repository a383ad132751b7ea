-- The moment after a start and after a step, with 0 in the place of a next change where a walk exceeds the ceiling (plain's Exceeded).
use Rattle.format.specs.Circuit.{Circuit}
use Rattle.diagram.specs.Table.{Table}
use Rattle.rules.specs.Run.{Moment, state_of, moment_of, time_after}
use Rattle.plain.specs.Settle.{started_or_exceeded, stepped_or_exceeded}

unfoldable pub start_or_exceeded : Circuit → Table → Moment
start_or_exceeded c t = moment_of c 0 (started_or_exceeded c) t

unfoldable pub step_or_exceeded : Circuit → Moment → Moment
step_or_exceeded c m =
    let time = time_after c m in
    moment_of c time (λ p. stepped_or_exceeded c time p (state_of c m.table m.run p)) m.table
