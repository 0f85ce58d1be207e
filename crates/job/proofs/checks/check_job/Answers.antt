-- `job::checks::check_job` meets its contract. Checks 7 and 8 by the branches, in their order: each return names the first to hold. Assumes nothing.
use mathlib.Core.Path.{◌≡◌, sym, ◌∙◌}
use native.Mathlib.Omega.{arith}
use borrow.Author.Rules.{rules}
use lib.ListN.{length}
use Rattle.units.specs.Limits.{cost_limit}
use Rattle.refusals.specs.Refusals.{first}
use Rattle.units.specs.Limits.{task_limit}
use Rattle.job.specs.Checks.{bad_value}
use Rattle.job.proofs.Ranges.{weight_ranges, value_passes}
use Rattle.job.proofs.Heaviest.{heaviest_range, task_decided}
use Rattle.job.proofs.checks.check_job.Goals as goal

pub returns-then-bad_cost : goal.returns-then-bad_cost
unfolding first bad_value
returns-then-bad_cost c = rw (← c.bad_cost.ensures, c.if-bad_cost.true)

pub bad_weights-requires : goal.bad_weights-requires
bad_weights-requires c =
    let l : length c.args.job.weights ≡ task_limit = search rules in
    record { few_tasks = c.requires; held = omega (arith, c.requires) }

pub returns-then-bad_weights : goal.returns-then-bad_weights
unfolding first bad_value
returns-then-bad_weights c =
    let bad-cost = c.bad_cost in
    let if1 = c.if-bad_cost in
    let bad-weights = c.bad_weights in
    rw (← bad-cost.ensures, if1.false, ← bad-weights.ensures, c.if-bad_weights.true)

pub heaviest-requires : goal.heaviest-requires
heaviest-requires c =
    let l : length c.args.job.weights ≡ task_limit = search rules in
    omega (arith, c.requires)

pub is_allowed-requires : goal.is_allowed-requires
is_allowed-requires c =
    let job = c.args.job in
    let bad-cost = c.bad_cost in
    let if1 = c.if-bad_cost in
    let bad-weights = c.bad_weights in
    let if2 = c.if-bad_weights in
    let value = value_passes job (sym bad-cost.ensures ∙ if1.false) (sym bad-weights.ensures ∙ if2.false) in
    rw c.heaviest.ensures (heaviest_range job.weights cost_limit job.tasks (λ j h. (weight_ranges job value j h).1))

pub returns-then-not-is_allowed : goal.returns-then-not-is_allowed
unfolding first
returns-then-not-is_allowed c =
    let job = c.args.job in
    let bad-cost = c.bad_cost in
    let if1 = c.if-bad_cost in
    let bad-weights = c.bad_weights in
    let if2 = c.if-bad_weights in
    let heaviest = c.heaviest in
    let is-allowed = c.is_allowed in
    rw (
      value_passes job (sym bad-cost.ensures ∙ if1.false) (sym bad-weights.ensures ∙ if2.false),
      task_decided job,
      ← heaviest.ensures,
      ← is-allowed.ensures,
      c.if-not-is_allowed.true,
    )

pub returns : goal.returns
unfolding first
returns c =
    let job = c.args.job in
    let bad-cost = c.bad_cost in
    let if1 = c.if-bad_cost in
    let bad-weights = c.bad_weights in
    let if2 = c.if-bad_weights in
    let heaviest = c.heaviest in
    let is-allowed = c.is_allowed in
    rw (
      value_passes job (sym bad-cost.ensures ∙ if1.false) (sym bad-weights.ensures ∙ if2.false),
      task_decided job,
      ← heaviest.ensures,
      ← is-allowed.ensures,
      c.if-not-is_allowed.false,
    )
