-- `following::over_weight` meets its contract: Stopped alone has lost ticks. Assumes nothing.
use Rattle.following.specs.Run.{over_weight}
use Rattle.following.proofs.over_weight.Goals as goal

pub returns-in-Done : goal.returns-in-Done
unfolding over_weight
returns-in-Done c = λ run w p. rw c.in-Done.is

pub returns-in-Passed : goal.returns-in-Passed
unfolding over_weight
returns-in-Passed c = λ run w p. rw c.in-Passed.is

pub returns-in-Failed : goal.returns-in-Failed
unfolding over_weight
returns-in-Failed c = λ run w p. rw c.in-Failed.is

pub returns-in-Stopped : goal.returns-in-Stopped
unfolding over_weight
returns-in-Stopped c =
    let weight-at = c.weight_at in
    let event = c.in-Stopped in
    λ run w p. rw (event.is, w, p, weight-at.ensures.value, c.from.ensures)
