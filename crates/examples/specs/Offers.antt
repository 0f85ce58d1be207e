-- Request 107: sheets of storage offers, by their values; what the planner answers to each is proved in `Offers` (proofs).
use Rattle.std.specs.Prelude.{ℕ, ◌+◌, ◌*◌, ◌^◌, ◌≤◌, ◌<◌, ◌≡◌, List, [], ◌∷◌, ◌++◌, length}
use Rattle.refusals.specs.declared.Answer.{Answer}
use Rattle.job.specs.Job.{total}
use Rattle.job.specs.declared.Platform.{Platform}
use Rattle.job.specs.declared.Job.{Job}
use Rattle.sheet.specs.Reading.{sheet_refusal}
use Rattle.writing.specs.Form.{platform_section, weights_section, form_of, form_one}
use Rattle.costs.specs.Dearer.{Cost, DiskCopy, MemoryCopy, Verification, DiskRecovery, MemoryRecovery, cost_of}
use Rattle.costs.specs.declared.Powers.{Powers}
use Rattle.planning.specs.Promise.{Plans}
use Rattle.planning.specs.Energy.{energy_refusal, PlansByEnergy}

-- what a planner promises of a lent buffer, before and after, and its answer
abbrev pub Promise : Type 1
Promise = (before after : List ℕ) → Answer → Type 0

-- two calls whose checks refuse nothing, and their answers, whatever buffers of n and of n' bytes or more they are lent
pub record BothGiven (refusal refusal' : ℕ) (P P' : Promise) (n n' : ℕ) (answer answer' : Answer) : Type 0 where
  pub clear : refusal ≡ 0
  pub clear' : refusal' ≡ 0
  pub given : (before after : List ℕ) (r : Answer) → n ≤ length before → P before after r → r ≡ answer
  pub given' : (before after : List ℕ) (r : Answer) → n' ≤ length before → P' before after r → r ≡ answer'

-- the plans of two sheets
abbrev pub BothPlanned : (s s' : List ℕ) (n n' : ℕ) → Answer → Answer → Type 0
BothPlanned s s' n n' answer answer' = BothGiven (sheet_refusal s) (sheet_refusal s') (Plans s) (Plans s') n n' answer answer'

-- and by energy
abbrev pub BothByEnergy : Powers → (s s' : List ℕ) (n n' : ℕ) → Answer → Answer → Type 0
BothByEnergy powers s s' n n' answer answer' =
    BothGiven (energy_refusal powers s) (energy_refusal powers s') (PlansByEnergy powers s) (PlansByEnergy powers s') n n' answer answer'

-- form 1 with the weights before the platform
unfoldable pub weights_before : Platform → (weights : List ℕ) → List ℕ
weights_before p weights = form_of (length weights) (weights_section weights ∷ platform_section p ∷ [])

-- A's rates with these costs, and A's weights
unfoldable pub costs_a : (cd cm v rd rm : ℕ) → Platform
costs_a cd cm v rd rm = record { failstop = 0; silent = 2 ^ 31; cd = cd; cm = cm; v = v; rd = rd; rm = rm }

unfoldable pub two_tasks : List ℕ
two_tasks = 131072 ∷ 131072 ∷ []

-- A's costs with one of them raised
unfoldable pub raised_platform : Cost → Platform
raised_platform DiskCopy = costs_a 6000 1000 928 4000 1000
raised_platform MemoryCopy = costs_a 5000 700000 928 4000 1000
raised_platform Verification = costs_a 5000 1000 1000 4000 1000
raised_platform DiskRecovery = costs_a 5000 1000 928 9000 1000
raised_platform MemoryRecovery = costs_a 5000 1000 928 4000 2000

-- the sheet of that offer, its sections in the other order than A's
unfoldable pub raised_a : Cost → List ℕ
raised_a k = weights_before (raised_platform k) two_tasks

-- and its least time; A's is 726347
unfoldable pub raised_time : Cost → ℕ
raised_time DiskCopy = 727347
raised_time MemoryCopy = 2039172
raised_time Verification = 726737
raised_time DiskRecovery = 726347
raised_time MemoryRecovery = 728065

-- all five raised
unfoldable pub all_raised_a : List ℕ
all_raised_a = weights_before (costs_a 6000 1400 1000 9000 2000) two_tasks

-- A with the fail-stop rate 2^28, so that the plan recovers from disk too, and this R_D
unfoldable pub failing_a : (rd : ℕ) → List ℕ
failing_a rd = form_one (record { failstop = 2 ^ 28; silent = 2 ^ 31; cd = 5000; cm = 1000; v = 928; rd = rd; rm = 1000 }) two_tasks

-- one task of 2^30 with the silent rate 11 × 2^16, whose time is 2^34 - 1 with C_D 383721023; here `more` is added to that
unfoldable pub near_limit : (more : ℕ) → List ℕ
near_limit more =
    form_one (record { failstop = 0; silent = 11 * 2 ^ 16; cd = 383721023 + more; cm = 0; v = 0; rd = 0; rm = 0 }) (2 ^ 30 ∷ [])

-- two tasks of 524288, fail-stop rate 1, silent rate 127 × 2^24 + more, A's costs but for a C_M of 2^30
unfoldable pub rated : (more : ℕ) → List ℕ
rated more =
    form_one (record { failstop = 1; silent = 127 * 2 ^ 24 + more; cd = 5000; cm = 2 ^ 30; v = 928; rd = 4000; rm = 1000 })
    (524288 ∷ 524288 ∷ [])

-- A's two tasks as one
unfoldable pub one_task_a : List ℕ
one_task_a = form_one (costs_a 5000 1000 928 4000 1000) (262144 ∷ [])

-- what is outside the request: the silent rate is higher and nothing else differs
pub record RateRaised (a b : Job) : Type 0 where
  pub tasks : a.tasks ≡ b.tasks
  pub weights : a.weights ≡ b.weights
  pub failstop : a.platform.failstop ≡ b.platform.failstop
  pub silent : a.platform.silent < b.platform.silent
  pub costs : (k : Cost) → cost_of k a.platform ≡ cost_of k b.platform

-- and one task's weight in two tasks, on the same platform
pub record WeightSplit (a b : Job) : Type 0 where
  pub one_task : a.tasks ≡ 1
  pub tasks_are_two : b.tasks ≡ 2
  pub weight : total a.weights 1 ≡ total b.weights 2
  pub platform : a.platform ≡ b.platform
