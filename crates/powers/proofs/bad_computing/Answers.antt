-- `powers::bad_computing` meets its contract. The power and its two products in their order: each return rewrites the definition by the tests before it.
-- Assumes nothing.
use Prim.Native.Nat.{◌<◌, ◌^◌}
use Rattle.std.proofs.Common.{rules}
use native.Mathlib.Omega.{arith}
use Rattle.powers.specs.Powers.{bad_computing}
use Rattle.powers.proofs.Powers.{product_ready}
use Rattle.powers.proofs.bad_computing.Goals as goal
use Rattle.powers.proofs.bad_computing.Goals.{then-out_of_range, else-out_of_range}

pub passes-requires : goal.passes-requires
passes-requires c =
    let out_of_range = c.out_of_range in
    let if1 = c.if-out_of_range in
    product_ready out_of_range.ensures if1.false c.weight_to.ensures.range

pub returns-then-passes : goal.returns-then-passes
unfolding bad_computing
returns-then-passes c = search rules

pub passes-requires-else-passes : goal.passes-requires-else-passes
passes-requires-else-passes c =
    let range : c.from.result < 2 ^ 32 = search rules in
    elim c.if-out_of_range.branch [
      | then-out_of_range w ↦ search rules
      | else-out_of_range w ↦ product_ready c.out_of_range.ensures w.if-out_of_range.false (omega (arith, range))
    ]

pub returns-else-passes : goal.returns-else-passes
unfolding bad_computing
returns-else-passes c =
    elim c.if-out_of_range.branch [
      | then-out_of_range w ↦ search rules
      | else-out_of_range w ↦ search rules
    ]
