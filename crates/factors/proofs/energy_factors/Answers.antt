-- `factors::energy_factors` meets its contract. The growth sums at the stretch's exponents; their caps keep each product below 2^64. Assumes nothing.
use native.Mathlib.Omega.{arith}
use Rattle.costs.specs.Working.Factors.{energy_factors_of}
use Rattle.costs.proofs.Ranges.{mean_product, work_range, effort_range, work_product}
use Rattle.factors.proofs.energy_factors.Goals as goal

pub overflow_mul-weight : goal.overflow_mul-weight
overflow_mul-weight c =
    let h = c.h in
    let pre = c.requires in
    let exponent-of2 = c.exponent_of-failstop in
    record { fits = rw h.ensures (omega (arith, mean_product pre exponent-of2.result)) }

pub rounded_up-work-requires : goal.rounded_up-work-requires
rounded_up-work-requires c =
    let h = c.h in
    let pre = c.requires in
    let exponent-of2 = c.exponent_of-failstop in
    rw h.ensures (omega (arith, mean_product pre exponent-of2.result))

pub overflow_mul-effort : goal.overflow_mul-effort
overflow_mul-effort c =
    let rounded-up = c.rounded_up-work in
    let h = c.h in
    let pre = c.requires in
    let exponent-of2 = c.exponent_of-failstop in
    record { fits = rw (rounded-up.ensures, h.ensures) (omega (arith, work_range pre exponent-of2.result)) }

pub overflow_mul-effort-2 : goal.overflow_mul-effort-2
overflow_mul-effort-2 c =
    let pre = c.requires in
    record { fits = omega (arith, pre.v_product) }

pub overflow_add-effort : goal.overflow_add-effort
overflow_add-effort c =
    let rounded-up = c.rounded_up-work in
    let h = c.h in
    let pre = c.requires in
    let exponent-of2 = c.exponent_of-failstop in
    record { fits = rw (rounded-up.ensures, h.ensures) (omega (arith, effort_range pre exponent-of2.result)) }

pub overflow_mul-growth : goal.overflow_mul-growth
overflow_mul-growth c =
    let rounded-up = c.rounded_up-work in
    let h = c.h in
    let g = c.g-growth in
    let pre = c.requires in
    let exponent-of = c.exponent_of-silent in
    let exponent-of2 = c.exponent_of-failstop in
    record {
      fits = rw (rounded-up.ensures, h.ensures, g.ensures)
          (omega (arith, work_product pre exponent-of.result exponent-of2.result));
    }

pub rounded_up-requires : goal.rounded_up-requires
rounded_up-requires c =
    let rounded-up = c.rounded_up-work in
    let h = c.h in
    let g = c.g-growth in
    let pre = c.requires in
    let exponent-of = c.exponent_of-silent in
    let exponent-of2 = c.exponent_of-failstop in
    rw (rounded-up.ensures, h.ensures, g.ensures)
    (omega (arith, work_product pre exponent-of.result exponent-of2.result))

pub returns : goal.returns
unfolding energy_factors_of
returns c =
    let rounded-up2 = c.rounded_up in
    let rounded-up = c.rounded_up-work in
    let h = c.h in
    let g = c.g-growth in
    let g2 = c.g in
    let exponent-of = c.exponent_of-silent in
    let exponent-of2 = c.exponent_of-failstop in
    rw (
      rounded-up2.ensures,
      rounded-up.ensures,
      h.ensures,
      g.ensures,
      g2.ensures,
      exponent-of.ensures.value,
      exponent-of2.ensures.value,
    )
