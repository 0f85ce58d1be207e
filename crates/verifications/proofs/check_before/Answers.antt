use mathlib.Core.Path.{◌≡◌, ◌∙◌}
use native.Mathlib.Omega.{arith}
use Rattle.units.specs.Limits.{none}
use Rattle.chain.specs.Working.Search.{back}
use Rattle.chain.proofs.Search.{reach_cap}
use Rattle.table.specs.Working.Table.{arrival_at}
use Rattle.verifications.proofs.Rows.{arrival_ge, earliest_start, earliest_next, row_capped}
use Rattle.verifications.proofs.check_before.Goals as goal

pub loop-u-init : goal.loop-u-init
loop-u-init c =
    let pre = c.requires in
    earliest_start _ _ _ _

pub arrival-requires : goal.arrival-requires
arrival-requires c =
    let pre = c.requires in
    record {
      bounded = pre.bounded;
      recoveries = pre.recoveries;
      order = omega arith;
      reached = row_capped _ _ _ _ _ pre.row _ (omega (arith, pre.order)) (omega (arith, pre.order));
    }

pub loop-u-preserved : goal.loop-u-preserved
loop-u-preserved c =
    let pre = c.requires in
    let loop = c.loop-u in
    let args = c.args in
    let arrival = c.arrival in
    let offer = c.offer in
    let now = pre.row.times loop.u (omega arith) (omega arith) in
    let start = arrival_ge args.t.now args.r loop.u _ args.v (reach_cap none args.m (arrival_at args.t.now args.r) loop.u) in
    earliest_next _ _ _ _ _ _ _ _ _ _ loop.invariant (omega arith) (arrival.ensures ∙ rw now) (rw (arrival.ensures, now) start) offer.ensures

pub returns : goal.returns
unfolding back
returns c =
    let loop = c.loop-u in
    let args = c.args in
    let e : loop.u ≡ args.v = omega arith in rw e at loop.invariant.from_at
