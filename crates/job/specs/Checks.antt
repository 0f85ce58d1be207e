-- What document 01 asks of the values of a sheet: checks 3, 7 and 8.
use Rattle.std.specs.Prelude.{ℕ, Bool, not, ◌||◌, List, [], ◌∷◌, ltb, eqb, length, get_or}
use Rattle.units.specs.Limits.{cost_limit}
use Rattle.lists.specs.Lists.{some}
use Rattle.refusals.specs.Numbers
use Rattle.refusals.specs.Refusals.{Condition, refusal}
use Rattle.units.specs.Limits.{task_limit}
use Rattle.job.specs.Job.{weight_at, total, is_allowed}
use Rattle.job.specs.declared.Platform.{Platform}
use Rattle.job.specs.declared.Job.{Job}

-- 3: n is 0 or above 64
unfoldable pub bad_count : ℕ → Bool
bad_count n = eqb n 0 || ltb task_limit n

-- the five costs: C_D, C_M, V, R_D and R_M
abbrev pub costs_of : Platform → List ℕ
costs_of p = p.cd ∷ p.cm ∷ p.v ∷ p.rd ∷ p.rm ∷ []

-- a cost outside its range
unfoldable pub bad_cost : Platform → Bool
bad_cost p = some (length (costs_of p)) (λ k. ltb cost_limit (get_or (costs_of p) k 0))

-- a weight outside its range
unfoldable pub bad_weight : List ℕ → ℕ → Bool
bad_weight w j = eqb (weight_at w j) 0 || ltb cost_limit (weight_at w j)

-- 7: a cost, weight or total of weights outside its range
unfoldable pub bad_value : Job → Bool
bad_value job =
    bad_cost job.platform || (some job.tasks (bad_weight job.weights) || ltb cost_limit (total job.weights job.tasks))

-- 8: some task alone is not allowed as a stretch
unfoldable pub bad_task : Job → Bool
bad_task job = some job.tasks (λ j. not (is_allowed job.platform (weight_at job.weights j)))

-- checks 7 and 8
abbrev pub job_conditions : Job → List Condition
job_conditions job = refusal Numbers.bad_value (bad_value job) ∷ refusal Numbers.bad_task (bad_task job) ∷ []
