-- `filling::fill` meets its contract: the stretches, then the costs, then the firsts. Assumes nothing.
use native.Mathlib.Omega.{arith}
use Rattle.table.proofs.Table.{firsts_put}
use Rattle.filling.proofs.Fills.{table_firsts, table_of}
use Rattle.filling.proofs.fill.Goals as goal

pub returns : goal.returns
returns c =
    let pre = c.requires in
    let fill-costs = c.fill_costs in
    let put-firsts = c.put_firsts in
    table_of _ _ pre.sound pre.products _
    (table_firsts _ _ _ _ _ (omega (arith, pre.sound.few_tasks)) (omega (arith, pre.sound.few_tasks)) fill-costs.ensures put-firsts.ensures)
    (firsts_put _ _ _ put-firsts.ensures _ (omega arith) (omega (arith, pre.sound.few_tasks)))
