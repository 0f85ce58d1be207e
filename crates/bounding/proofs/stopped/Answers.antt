-- `bounding::stopped` meets its contract. A pair whose G(y_s + y_f) is 0 is no allowed stretch. Assumes nothing.
use mathlib.Core.Path.{◌∙◌, ap}
use mathlib.Core.Logic.{◌≢◌}
use native.Mathlib.Omega.{arith}
use Rattle.chain.specs.declared.Factors.{Factors}
use Rattle.table.specs.Working.Table.{entry_of}
use Rattle.bounding.proofs.Bounds.{stopped_none, stopped_some}
use Rattle.bounding.proofs.stopped.Goals as goal

pub returns-then-f-eq0 : goal.returns-then-f-eq0
returns-then-f-eq0 c =
    let entry = c.entry-f in
    let if1 = c.if-f-eq0 in
    stopped_none _ _ _ _ entry.ensures if1.true

pub returns : goal.returns
returns c =
    let args = c.args in
    let if1 = c.if-f-eq0 in
    let entry = c.entry-f in
    let pre = c.requires in
    let some : (entry_of args.t.now args.u args.v).both ≢ 0 = λ z. if1.false (ap (λ (f : Factors). f.both) entry.ensures ∙ z) in
    stopped_some _ _ _ _ entry.ensures (rw entry.ensures (pre.bounded.factored _ _ pre.order (omega arith) some))
