-- `verifications::arrival` meets its contract. A pair whose G(y_s + y_f) is 0 is no allowed stretch. Assumes nothing.
use mathlib.Core.Path.{sym}
use Rattle.table.proofs.Table.{arrival_none, arrival_some}
use Rattle.verifications.proofs.arrival.Goals as goal

pub returns-then-f-eq0 : goal.returns-then-f-eq0
returns-then-f-eq0 c =
    let entry = c.entry-f in
    let if1 = c.if-f-eq0 in
    sym (arrival_none _ _ _ _ _ _ entry.ensures if1.true)

pub returns : goal.returns
returns c =
    let entry = c.entry-f in
    let if1 = c.if-f-eq0 in
    let stretch-time = c.stretch_time in
    arrival_some _ _ _ _ _ _ entry.ensures if1.false _ stretch-time.ensures.value
