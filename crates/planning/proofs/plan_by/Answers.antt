-- `planning::plan_by` meets its contract. The table holds the job's chain in energy, so the plan of the one is that of the other. Assumes nothing.
use Rattle.answers.proofs.Promises.{plans_same}
use Rattle.planning.proofs.plan_by.Goals as goal

pub returns : goal.returns
returns c =
    let fill = c.fill in
    let pre = c.requires in
    let plan-chain = c.plan_chain in
    plans_same _ _ _ fill.ensures.same pre.ready.ready.sound.some_task _ _ _ plan-chain.ensures
