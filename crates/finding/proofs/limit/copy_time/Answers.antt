-- `finding::limit::copy_time` meets its contract. Each part of the sum has a cap. Assumes nothing.
use native.Mathlib.Omega.{arith}
use Rattle.units.specs.Limits.{none}
use Rattle.chain.proofs.Search.{reach_cap}
use Rattle.table.specs.Working.Table.{arrival_at}
use Rattle.finding.proofs.limit.copy_time.Goals as goal

pub overflow_add-result : goal.overflow_add-result
overflow_add-result c =
    let pre = c.requires in
    let verification-row = c.verification_row in
    let args = c.args in
    let recoveries = c.recoveries-r in
    let row = verification-row.ensures.times args.v (omega (arith, pre.order)) (omega arith) in
    let cap = reach_cap none args.u (arrival_at args.t.now recoveries.result) args.v in
    omega (arith, pre.reached, row, cap)

pub overflow_add-result-2 : goal.overflow_add-result-2
overflow_add-result-2 c =
    let pre = c.requires in
    let verification-row = c.verification_row in
    let args = c.args in
    let recoveries = c.recoveries-r in
    let column-at = c.column_at in
    let row = verification-row.ensures.times args.v (omega (arith, pre.order)) (omega arith) in
    let cap = reach_cap none args.u (arrival_at args.t.now recoveries.result) args.v in
    omega (arith, pre.reached, row, cap, column-at.ensures, pre.bounded.cm args.v (omega arith))

pub returns : goal.returns
returns c =
    let pre = c.requires in
    let verification-row = c.verification_row in
    let args = c.args in
    let recoveries = c.recoveries-r in
    let column-at = c.column_at in
    let row = verification-row.ensures.times args.v (omega (arith, pre.order)) (omega arith) in
    let cap = reach_cap none args.u (arrival_at args.t.now recoveries.result) args.v in
    omega (arith, pre.reached, row, cap, column-at.ensures, pre.bounded.cm args.v (omega arith))
