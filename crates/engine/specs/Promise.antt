-- Request 104: what the equations as printed give for every sheet and every lent buffer.
use Rattle.std.specs.Prelude.{ℕ, ◌<◌, ◌≡◌, Bool, ◌↔◌, List, [], ◌∷◌, ◌++◌, ltb}
use Rattle.refusals.specs.Numbers
use Rattle.refusals.specs.Refusals.{Condition, refusal, first}
use Rattle.refusals.specs.declared.Answer.{Answer}
use Rattle.job.specs.declared.Job.{Job}
use Rattle.sheet.specs.Reading.{job_of, sheet_conditions, sheet_refusal}
use Rattle.costs.specs.Stretch.{chain_of}
use Rattle.answers.specs.Promise.{PlansChecked}

-- 'an engine for up to 8 tasks'
abbrev pub printed_limit : ℕ
printed_limit = 8

-- '27 for more than 8 tasks'
unfoldable pub too_long : Job → Bool
too_long job = ltb printed_limit job.tasks

-- 'after 8 and before 11'
abbrev pub printed_conditions : List ℕ → List Condition
printed_conditions s = sheet_conditions s ++ (refusal Numbers.long_chain (too_long (job_of s)) ∷ [])

-- the first of checks 1 to 8 and 27 that holds, or 0
unfoldable pub printed_refusal : List ℕ → ℕ
printed_refusal s = first (printed_conditions s)

-- the answer to the sheet s: checks 1 to 8, 27, 11 and 13, else the plan
abbrev pub PlansAsPrinted : (s before after : List ℕ) → Answer → Type 0
PlansAsPrinted s before after r = PlansChecked (printed_refusal s) (chain_of (job_of s)) (job_of s).tasks before after r

-- the answer r with its buffer, beside the planner's q with its own: the same, but for 27, which is given just to sheets that pass checks 1 to 8 with more than 8 tasks
pub record SameAsPlan (s a b : List ℕ) (r q : Answer) : Type 0 where
  pub long : (r.number ≡ Numbers.long_chain) ↔ ((sheet_refusal s ≡ 0) × (printed_limit < (job_of s).tasks))
  pub answer : (r.number ≡ Numbers.long_chain → ⊥) → r ≡ q
  pub buffer : (r.number ≡ Numbers.long_chain → ⊥) → a ≡ b
