use mathlib.Core.Path.{sym, ◌∙◌}
use native.Mathlib.Omega.{arith}
use Rattle.units.specs.Limits.{none}
use Rattle.chain.proofs.Search.{reach_is, reach_cap}
use Rattle.table.specs.Working.Table.{arrival_at}
use Rattle.table.proofs.Table.{arrival_before}
use Rattle.verifications.proofs.Rows.{arrival_ge, least_first, least_next, least_reached, row_capped}
use Rattle.verifications.proofs.verified.Goals as goal

pub loop-u-init : goal.loop-u-init
loop-u-init c =
    let pre = c.requires in
    let max = c.max-u in
    let first_of = c.first_of in
    let args = c.args in
    let firsts = pre.ready.bounded.firsts in
    rw (max.ensures, first_of.ensures)
    (record {
      from_m = omega arith;
      within = omega (arith, pre.ready.order, firsts.within args.v (omega arith));
      least_is = sym (least_first _ _ _ _ _ (λ j h. arrival_before _ _ _ _ _ (firsts.none_before j _ h (omega arith))));
    })

pub arrival-requires : goal.arrival-requires
arrival-requires c =
    let pre = c.requires in
    record {
      bounded = pre.ready.bounded;
      recoveries = pre.ready.recoveries;
      order = omega (arith, pre.end_before);
      reached = row_capped _ _ _ _ _ pre.ready.row _ (omega (arith, pre.ready.order)) (omega (arith, pre.end_before));
    }

pub loop-u-preserved : goal.loop-u-preserved
loop-u-preserved c =
    let pre = c.requires in
    let loop = c.loop-u in
    let args = c.args in
    let min = c.min-best in
    let arrival = c.arrival in
    let now = pre.ready.row.times loop.u loop.invariant.from_m (omega (arith, pre.end_before)) in
    let start = arrival_ge args.t.now args.r loop.u _ args.v (reach_cap none args.m (arrival_at args.t.now args.r) loop.u) in
    record {
      from_m = omega (arith, loop.invariant.from_m);
      within = omega (arith, pre.end_before);
      least_is = min.ensures ∙ least_next _ _ _ _ _ _ _ loop.invariant.from_m (arrival.ensures ∙ rw now) (rw (arrival.ensures, now) start) loop.invariant.least_is;
    }

pub returns : goal.returns
returns c =
    let loop = c.loop-u in
    let args = c.args in
    let pre = c.requires in
    let past = least_reached none args.m (arrival_at args.t.now args.r) args.v loop.u loop.invariant.within (λ j a l. pre.unreached j (omega arith) l) in
    rw (reach_is none args.m (arrival_at args.t.now args.r) args.v (λ z. omega (arith, pre.ready.order)), past) loop.invariant.least_is
