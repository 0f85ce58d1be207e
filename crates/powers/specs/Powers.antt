-- Request 106: the powers that a plan by energy takes, and 29.
use Rattle.std.specs.Prelude.{ℕ, ◌*◌, ◌≤◌, Bool, ◌||◌, List, [], ◌∷◌, ltb, get_or}
use Rattle.units.specs.Limits.{cost_limit}
use Rattle.lists.specs.Lists.{some}
use Rattle.job.specs.Job.{total}
use Rattle.job.specs.declared.Platform.{Platform}
use Rattle.job.specs.declared.Job.{Job}
use Rattle.costs.specs.Energy.{ProductsFit}
use Rattle.costs.specs.declared.Powers.{Powers}

-- 'two powers, 1 to 16 units'
abbrev pub least_power : ℕ
least_power = 1

abbrev pub most_power : ℕ
most_power = 16

-- 'a power is outside its range'
unfoldable pub out_of_range : ℕ → Bool
out_of_range power = ltb power least_power || ltb most_power power

-- 'a product ... with its power passes 2^30'
unfoldable pub passes : (power amount : ℕ) → Bool
passes power amount = ltb cost_limit (power * amount)

-- the first power: its products are those of the total weight and of V
unfoldable pub bad_computing : ℕ → Job → Bool
bad_computing power job =
    out_of_range power || (passes power (total job.weights job.tasks) || passes power job.platform.v)

-- the costs of saving and recovering: C_D, C_M, R_D and R_M
abbrev pub saving_costs : Platform → List ℕ
saving_costs p = p.cd ∷ p.cm ∷ p.rd ∷ p.rm ∷ []

abbrev pub saving_count : ℕ
saving_count = 4

-- a product of one of them passes 2^30
unfoldable pub saving_passes : ℕ → List ℕ → Bool
saving_passes power costs = some saving_count (λ i. passes power (get_or costs i 0))

-- the second power: its products are theirs
unfoldable pub bad_saving : ℕ → Job → Bool
bad_saving power job = out_of_range power || saving_passes power (saving_costs job.platform)

-- 29
unfoldable pub bad_powers : Powers → Job → Bool
bad_powers powers job = bad_computing powers.computing job || bad_saving powers.saving job

-- 29 does not hold (`powers_fit`)
pub record PowersFit (powers : Powers) (job : Job) : Type 0 where
  pub computing_least : least_power ≤ powers.computing
  pub computing_most : powers.computing ≤ most_power
  pub saving_least : least_power ≤ powers.saving
  pub saving_most : powers.saving ≤ most_power
  pub products : ProductsFit powers job
