-- What checks 3, 7 and 8 leave of accepted values: the ranges of costs, weights and their total, and each task allowed alone. Assumes nothing.
use Prim.Native.Nat.{ℕ, ◌*◌, ◌^◌, ◌≤◌, ◌<◌}
use mathlib.Core.Path.{◌≡◌, refl}
use mathlib.Core.Bool.{false, ◌||◌}
use mathlib.Core.List.{List}
use native.Mathlib.Nat.{le_trans, le_of_lt, mul-le-mul}
use native.Mathlib.Omega.{arith}
use borrow.Author.Tests.{le-ltb, ltb-false, eqb-false}
use lib.Dec.{lit≤, ltb, eqb}
use lib.ListN.{get_or}
use Rattle.units.specs.Limits.{cost_limit}
use Rattle.lists.specs.Lists.{some}
use Rattle.lists.proofs.Lists.{or_fails, some_fails}
use Rattle.refusals.specs.Refusals.{first, has, distinct}
use Rattle.refusals.proofs.Refusals.{first_clear}
use Rattle.units.specs.Limits.{task_limit}
use Rattle.job.specs.Job.{total, weight_at}
use Rattle.job.specs.Checks.{bad_count, costs_of, bad_cost, bad_weight, bad_value, bad_task, job_conditions}
use Rattle.job.specs.Working.Sound.{CostsBounded, Sound}
use Rattle.job.specs.declared.Job.{Job}
use Rattle.job.specs.declared.Platform.{Platform}

-- what check 3 leaves of a task count
pub record Counted (n : ℕ) : Type 0 where
  pub some_task : 0 < n
  pub few_tasks : n ≤ task_limit

pub count_range : (n : ℕ) → bad_count n ≡ false → Counted n
unfolding bad_count
count_range n e =
    record {
      some_task = omega (arith, eqb-false n 0 (or_fails _ _ e).0);
      few_tasks = ltb-false task_limit n (or_fails (eqb n 0) _ e).1;
    }

pub weight_range : (w : List ℕ) (j : ℕ) → bad_weight w j ≡ false → (0 < weight_at w j) × (weight_at w j ≤ cost_limit)
unfolding bad_weight
weight_range w j e = (omega (arith, eqb-false (weight_at w j) 0 (or_fails _ _ e).0), ltb-false cost_limit (weight_at w j) (or_fails (eqb (weight_at w j) 0) _ e).1)

module _ (job : Job) (value : bad_value job ≡ false) where
  pub weights_right : (some job.tasks (bad_weight job.weights) || ltb cost_limit (total job.weights job.tasks)) ≡ false
  unfolding bad_value
  weights_right = (or_fails (bad_cost job.platform) _ value).1

  pub weight_right : (j : ℕ) → j < job.tasks → bad_weight job.weights j ≡ false
  weight_right = some_fails job.tasks (bad_weight job.weights) (or_fails _ _ weights_right).0

  pub weight_ranges : (j : ℕ) → j < job.tasks → (0 < weight_at job.weights j) × (weight_at job.weights j ≤ cost_limit)
  weight_ranges j h = weight_range job.weights j (weight_right j h)

  total_range : total job.weights job.tasks ≤ cost_limit
  total_range = ltb-false cost_limit _ (or_fails (some job.tasks (bad_weight job.weights)) _ weights_right).1

  pub costs_right : bad_cost job.platform ≡ false
  unfolding bad_value
  costs_right = (or_fails (bad_cost job.platform) _ value).0

-- the costs that check 7 leaves
pub costs_bounded : (p : Platform) → bad_cost p ≡ false → CostsBounded p
unfolding bad_cost
costs_bounded p e =
    let within : (k : ℕ) → k < 5 → get_or (costs_of p) k 0 ≤ cost_limit = λ k h. ltb-false cost_limit (get_or (costs_of p) k 0) (some_fails 5 _ e k h) in
    record {
      cd = within 0 (omega arith);
      cm = within 1 (omega arith);
      v = within 2 (omega arith);
      rd = within 3 (omega arith);
      rm = within 4 (omega arith);
    }

-- and costs in range pass it
pub costs_pass : (p : Platform) → CostsBounded p → bad_cost p ≡ false
unfolding bad_cost some
costs_pass p b =
    rw (
      le-ltb cost_limit p.cd b.cd,
      le-ltb cost_limit p.cm b.cm,
      le-ltb cost_limit p.v b.v,
      le-ltb cost_limit p.rd b.rd,
      le-ltb cost_limit p.rm b.rm,
    )

-- check 7 passes where costs and weights are in range
pub value_passes : (job : Job) → bad_cost job.platform ≡ false
    → (some job.tasks (bad_weight job.weights) || ltb cost_limit (total job.weights job.tasks)) ≡ false → bad_value job ≡ false
unfolding bad_value
value_passes job costs weights = rw costs weights

-- what passing checks 7 and 8 means
pub record ValuesPassed (job : Job) : Type 0 where
  pub value : bad_value job ≡ false
  pub task : bad_task job ≡ false

pub values_passed : (job : Job) → first (job_conditions job) ≡ 0 → ValuesPassed job
unfolding has distinct
values_passed job e = let clear = first_clear (job_conditions job) refl e in record { value = clear 0; task = clear 1 }

pub values_pass : (job : Job) → ValuesPassed job → first (job_conditions job) ≡ 0
unfolding first
values_pass job p = rw (p.value, p.task)

-- what checks 3, 7 and 8 leave
pub job_sound : (job : Job) → bad_count job.tasks ≡ false → first (job_conditions job) ≡ 0 → Sound job
job_sound job count e =
    let counted = count_range job.tasks count in
    let passed = values_passed job e in
    record {
      some_task = counted.some_task;
      few_tasks = counted.few_tasks;
      costs = costs_bounded job.platform (costs_right job passed.value);
      sum = total_range job passed.value;
    }

-- a rate times a weight
pub product_range : {r w : ℕ} → r < 2 ^ 32 → w ≤ cost_limit → r * w ≤ 2 ^ 62
product_range h k = le_trans (mul-le-mul (le_of_lt h) k) (lit≤ tt)
