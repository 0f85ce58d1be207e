use Prim.Native.Nat.{◌+◌}
use mathlib.Core.Path.{◌∙◌, refl}
use native.Mathlib.Omega.{arith}
use lib.ListN.{length-replicate}
use Rattle.units.specs.Limits.{positions}
use Rattle.units.specs.Limits.{none}
use Rattle.table.proofs.Table.{bounded_less}
use Rattle.bounding.proofs.Bounds.{filled_first, filled_step}
use Rattle.bounding.proofs.fill_steps.Goals as goal

pub loop-m-init : goal.loop-m-init
loop-m-init c =
    let pre = c.requires in
    let args = c.args in
    record {
      filled = filled_first args.n args.t.now args.b.now pre.long;
      row_long = length-replicate positions none;
      same_long = refl;
    }

pub put_step-requires : goal.put_step-requires
put_step-requires c =
    let pre = c.requires in
    let loop = c.loop-m in
    let filled = c.fill_part.ensures.filled in
    record {
      bounded = bounded_less _ _ _ (omega arith) pre.bounded;
      within = omega arith;
      long = filled.parts.long;
      parts = λ u h. filled.parts.range u (loop.m + 1) h h (omega arith);
      times = λ u h. filled.steps.time_range u h;
      risks = λ u h. filled.steps.risk_range u h;
    }

pub loop-m-preserved : goal.loop-m-preserved
loop-m-preserved c =
    let loop = c.loop-m in
    let b = c.b-1 in
    let b2 = c.b-in-loop-m-1 in
    let pre = c.requires in
    let fill-part = c.fill_part in
    let put_step = c.put_step in
    record {
      filled = filled_step _ _ _ _ _ pre.bounded.few (omega (arith, pre.bounded.few)) put_step.ensures fill-part.ensures.filled;
      row_long = fill-part.ensures.row_long;
      same_long = b2.given ∙ b.given ∙ loop.invariant.same_long;
    }
