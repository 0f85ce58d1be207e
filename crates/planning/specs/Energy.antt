-- Request 106: what a plan by energy gives for every sheet, every two powers and every lent buffer.
use Rattle.std.specs.Prelude.{ℕ, ◌≤◌, ◌<◌, ◌≡◌, ◌⊎◌, List, [], ◌∷◌, ◌++◌}
use Rattle.units.specs.Limits.{time_limit}
use Rattle.refusals.specs.Numbers
use Rattle.refusals.specs.Refusals.{Condition, refusal, first}
use Rattle.refusals.specs.declared.Answer.{Answer}
use Rattle.sheet.specs.Reading.{job_of, sheet_conditions}
use Rattle.chain.specs.Plan.{Wins}
use Rattle.marks.specs.Marks.{marks_of, marks_conditions}
use Rattle.costs.specs.Energy.{energy_chain, energy_of}
use Rattle.costs.specs.declared.Powers.{Powers}
use Rattle.pricing.specs.Price.{price_of}
use Rattle.dearer.specs.Dearer.{dearer_conditions}
use Rattle.answers.specs.Promise.{PlansChecked}
use Rattle.powers.specs.Powers.{most_power, bad_powers}

-- 'after 8 and before 11'
abbrev pub energy_conditions : Powers → List ℕ → List Condition
energy_conditions powers s = sheet_conditions s ++ (refusal Numbers.bad_power (bad_powers powers (job_of s)) ∷ [])

-- the first of checks 1 to 8 and 29 that holds, or 0
unfoldable pub energy_refusal : Powers → List ℕ → ℕ
energy_refusal powers s = first (energy_conditions powers s)

-- the answer to the sheet s: checks 1 to 8, 29, 11 and 13, else the plan by energy, whose energy stands in place of the time
abbrev pub PlansByEnergy : Powers → (s before after : List ℕ) → Answer → Type 0
PlansByEnergy powers s before after r =
    PlansChecked (energy_refusal powers s) (energy_chain powers (job_of s)) (job_of s).tasks before after r

-- request 107 by energy: of the cheaper sheet no more is asked than by time, and of the dearer that none of 1 to 7, 28 and 29 refuses it
abbrev pub energy_dearer_conditions : Powers → List ℕ → List Condition
energy_dearer_conditions powers s = dearer_conditions s ++ (refusal Numbers.bad_power (bad_powers powers (job_of s)) ∷ [])

unfoldable pub energy_dearer_refusal : Powers → List ℕ → ℕ
energy_dearer_refusal powers s = first (energy_dearer_conditions powers s)

-- a result in the words of a user's own marks, those that pass checks 9 and 10
pub record LeastEnergy (powers : Powers) (s marks : List ℕ) (energy : ℕ) : Type 0 where
  -- the plan's marks are such marks
  pub allowed : first (marks_conditions (job_of s) marks) ≡ 0
  -- whose energy is exactly the one given
  pub exact : energy_of powers (job_of s) marks ≡ energy
  pub in_limit : energy ≤ time_limit
  -- no such marks take less
  pub least : (l : List ℕ) → first (marks_conditions (job_of s) l) ≡ 0 → energy ≤ energy_of powers (job_of s) l
  -- and of those that take as much it is the first
  pub first_of_equals : (l : List ℕ) → first (marks_conditions (job_of s) l) ≡ 0 → energy_of powers (job_of s) l ≡ energy
      → Wins (job_of s).tasks (marks_of marks) (marks_of l)

-- the marks of a plan by energy have a price, and it is at most the energy: powers are at least 1
pub record PricedWithin (s marks : List ℕ) (energy : ℕ) : Type 0 where
  pub priced : (price_of s marks).number ≡ Numbers.accepted
  pub at_most : (price_of s marks).time ≤ energy

-- powers that no plan can tell apart: the same, or both above the range
abbrev pub SamePower : ℕ → ℕ → Type 0
SamePower a b = (a ≡ b) ⊎ ((most_power < a) × (most_power < b))
