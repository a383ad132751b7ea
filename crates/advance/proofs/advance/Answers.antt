-- `advance` meets its contract: each task is its own function's. Assumes nothing.
use Rattle.advance.proofs.advance.Goals as goal

pub start_task-requires : goal.start_task-requires
start_task-requires c = record { laid = c.requires.laid; sized = c.requires.sized }

pub step_task-requires : goal.step_task-requires
step_task-requires c = record { laid = c.requires.laid; sized = c.requires.sized }

pub run_task-requires : goal.run_task-requires
run_task-requires c = record { laid = c.requires.laid; sized = c.requires.sized }

pub shape_of-letter-in-Start : goal.shape_of-letter-in-Start
shape_of-letter-in-Start c = c.start_task.auto.letter

pub shape_of-low-in-Start : goal.shape_of-low-in-Start
shape_of-low-in-Start c = c.start_task.auto.low

pub shape_of-high-in-Start : goal.shape_of-high-in-Start
shape_of-high-in-Start c = c.start_task.auto.high

pub shape_of-index-in-Start : goal.shape_of-index-in-Start
shape_of-index-in-Start c = c.start_task.auto.index

pub shape_of-wletter-in-Start : goal.shape_of-wletter-in-Start
shape_of-wletter-in-Start c = c.start_task.auto.wletter

pub shape_of-wlow-in-Start : goal.shape_of-wlow-in-Start
shape_of-wlow-in-Start c = c.start_task.auto.wlow

pub shape_of-whigh-in-Start : goal.shape_of-whigh-in-Start
shape_of-whigh-in-Start c = c.start_task.auto.whigh

pub shape_of-windex-in-Start : goal.shape_of-windex-in-Start
shape_of-windex-in-Start c = c.start_task.auto.windex

pub returns-in-Start : goal.returns-in-Start
returns-in-Start c = rw c.in-Start.is c.start_task.ensures

pub shape_of-letter-in-Step : goal.shape_of-letter-in-Step
shape_of-letter-in-Step c = c.step_task.auto.letter

pub shape_of-low-in-Step : goal.shape_of-low-in-Step
shape_of-low-in-Step c = c.step_task.auto.low

pub shape_of-high-in-Step : goal.shape_of-high-in-Step
shape_of-high-in-Step c = c.step_task.auto.high

pub shape_of-index-in-Step : goal.shape_of-index-in-Step
shape_of-index-in-Step c = c.step_task.auto.index

pub shape_of-wletter-in-Step : goal.shape_of-wletter-in-Step
shape_of-wletter-in-Step c = c.step_task.auto.wletter

pub shape_of-wlow-in-Step : goal.shape_of-wlow-in-Step
shape_of-wlow-in-Step c = c.step_task.auto.wlow

pub shape_of-whigh-in-Step : goal.shape_of-whigh-in-Step
shape_of-whigh-in-Step c = c.step_task.auto.whigh

pub shape_of-windex-in-Step : goal.shape_of-windex-in-Step
shape_of-windex-in-Step c = c.step_task.auto.windex

pub returns-in-Step : goal.returns-in-Step
returns-in-Step c = rw c.in-Step.is c.step_task.ensures

pub shape_of-letter-in-Until : goal.shape_of-letter-in-Until
shape_of-letter-in-Until c = c.run_task.auto.letter

pub shape_of-low-in-Until : goal.shape_of-low-in-Until
shape_of-low-in-Until c = c.run_task.auto.low

pub shape_of-high-in-Until : goal.shape_of-high-in-Until
shape_of-high-in-Until c = c.run_task.auto.high

pub shape_of-index-in-Until : goal.shape_of-index-in-Until
shape_of-index-in-Until c = c.run_task.auto.index

pub shape_of-wletter-in-Until : goal.shape_of-wletter-in-Until
shape_of-wletter-in-Until c = c.run_task.auto.wletter

pub shape_of-wlow-in-Until : goal.shape_of-wlow-in-Until
shape_of-wlow-in-Until c = c.run_task.auto.wlow

pub shape_of-whigh-in-Until : goal.shape_of-whigh-in-Until
shape_of-whigh-in-Until c = c.run_task.auto.whigh

pub shape_of-windex-in-Until : goal.shape_of-windex-in-Until
shape_of-windex-in-Until c = c.run_task.auto.windex

pub returns-in-Until : goal.returns-in-Until
returns-in-Until c = rw c.in-Until.is c.run_task.ensures
