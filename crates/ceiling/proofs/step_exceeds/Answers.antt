-- `step_exceeds`: the step of the state that the run holds.
use mathlib.Core.Path.{◌∙◌, ap}
use Rattle.rules.specs.Step.{step_exceeds}
use Rattle.net.specs.Net.{net_circuit}
use Rattle.ceiling.proofs.Trying.{goes_err}
use Rattle.ceiling.proofs.step_exceeds.Goals as goal

pub returns : goal.returns
returns c =
    c.is_err.ensures.value ∙ goes_err _ _ _ c.step.result c.step.ensures ∙ ap (step_exceeds (net_circuit c.args.net.now) c.args.time c.args.p) c.state_at-state.ensures.0
