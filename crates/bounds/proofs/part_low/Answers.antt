-- `bounds::part_low` meets its contract. Each part of the sum has a cap. Assumes nothing.
use mathlib.Core.Path.{refl}
use native.Mathlib.Omega.{arith}
use Rattle.chain.specs.Working.Bounds.{part_low}
use Rattle.table.specs.Working.Table.{chain_in}
use Rattle.bounds.specs.Working.Bounds.{bounds_in}
use Rattle.bounds.proofs.Bounds.{slope_product, slope_ticks}
use Rattle.bounds.proofs.part_low.Goals as goal

pub overflow_mul-slope : goal.overflow_mul-slope
overflow_mul-slope c =
    let slope = c.slope in
    let args = c.args in
    let pre = c.requires in
    rw (slope.ensures args.n) (record { fits = omega (arith, slope_product (bounds_in args.n args.b.now) args.u args.v args.x pre.disk) })

pub rounded_up-requires : goal.rounded_up-requires
rounded_up-requires c =
    let slope = c.slope in
    let args = c.args in
    let pre = c.requires in
    rw (slope.ensures args.n) (omega (arith, slope_product (bounds_in args.n args.b.now) args.u args.v args.x pre.disk))

pub overflow_add-result : goal.overflow_add-result
overflow_add-result c =
    let part = c.part in
    let rounded-up = c.rounded_up in
    let slope = c.slope in
    let pre = c.requires in
    let args = c.args in
    rw (part.ensures, rounded-up.ensures, slope.ensures args.n) (omega (arith, pre.part, slope_ticks (bounds_in args.n args.b.now) args.u args.v args.x pre.disk))

pub overflow_add-result-2 : goal.overflow_add-result-2
overflow_add-result-2 c =
    let part = c.part in
    let rounded-up = c.rounded_up in
    let slope = c.slope in
    let column-at = c.column_at in
    let pre = c.requires in
    let args = c.args in
    rw (part.ensures, rounded-up.ensures, slope.ensures args.n, column-at.ensures)
    (omega (arith, pre.part, pre.copy, slope_ticks (bounds_in args.n args.b.now) args.u args.v args.x pre.disk))

pub returns : goal.returns
unfolding part_low chain_in
returns c =
    let part = c.part in
    let rounded-up = c.rounded_up in
    let slope = c.slope in
    let column-at = c.column_at in
    let pre = c.requires in
    let args = c.args in
    rw (part.ensures, rounded-up.ensures, slope.ensures args.n, column-at.ensures)
    (record { value = refl; cap = omega (arith, pre.part, pre.copy, slope_ticks (bounds_in args.n args.b.now) args.u args.v args.x pre.disk) })
