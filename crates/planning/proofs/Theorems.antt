-- The plan's promise leaves one answer and one buffer; what a result, a refusal and 13 say; the answer from the search's least time; and pricing the plan's marks
-- gives the plan's own answer. Assumes nothing.
use Prim.Native.Nat.{ℕ, ◌≤◌, ◌<◌}
use mathlib.Core.Path.{◌≡◌, refl, sym, ◌∙◌}
use mathlib.Core.List.{List}
use native.Mathlib.Omega.{arith}
use lib.ListN.{length, take}
use Rattle.refusals.specs.Answers.{accepted}
use Rattle.refusals.specs.declared.Answer.{Answer}
use Rattle.refusals.proofs.Answers.{answered_accepted, answer_same}
use Rattle.header.specs.Header.{tasks}
use Rattle.sheet.specs.Reading.{job_of, sheet_refusal}
use Rattle.sheet.proofs.Readings.{sheet_layout, sheet_sound}
use Rattle.layout.proofs.Sections.{layout_tasks}
use Rattle.units.specs.Limits.{task_limit}
use Rattle.costs.specs.Stretch.{chain_of, time_of}
use Rattle.costs.proofs.Settings.{setting_checks}
use Rattle.costs.proofs.Stretches.{S_rises}
use Rattle.pricing.specs.Price.{price_of}
use Rattle.pricing.proofs.Prices.{slow_passes, price_time}
use Rattle.answers.specs.Promise.{Planned, ResultSays, AnswerSays}
use Rattle.planning.specs.Promise.{Plans}
use Rattle.answers.proofs.Answers.{checked_once, checked_result, chain_says, front_length}

-- a sheet that passes checks 1 to 8 has a task
pub some_task : (s : List ℕ) → sheet_refusal s ≡ 0 → 0 < (job_of s).tasks
some_task s z = (sheet_sound s z).some_task

-- a sheet and a lent buffer have one answer and one buffer afterwards, byte for byte
pub plan_once : (s before a b : List ℕ) (r q : Answer) → Plans s before a r → Plans s before b q → (r ≡ q) × (a ≡ b)
plan_once s before a b r q f g =
    checked_once (sheet_refusal s) (chain_of (job_of s)) (S_rises (job_of s)) (job_of s).tasks (some_task s) before a b r q f g

-- 'where the buffer holds the marks, the plan says too slow exactly when every allowed setting takes more than 2^34 - 1 ticks, and otherwise gives a result'
pub plan_says : (s before after : List ℕ) (r : Answer) → Plans s before after r → sheet_refusal s ≡ 0 → (job_of s).tasks ≤ length before
    → AnswerSays (chain_of (job_of s)) (job_of s).tasks before after r
plan_says s before after r p z h =
    chain_says (chain_of (job_of s)) (S_rises (job_of s)) (job_of s).tasks (some_task s z) before after r (p.plans z h)

planned_price : (s before after : List ℕ) (r : Answer) → sheet_refusal s ≡ 0 → (job_of s).tasks ≤ length before
    → Planned (chain_of (job_of s)) (job_of s).tasks before after r → price_of s (take (job_of s).tasks after) ≡ r
unfolding price_of time_of
planned_price s before after r z h p =
    sym (answered_accepted (time_of (job_of s) l)
    (slow_passes (time_of (job_of s) l) (omega (arith, p.plan.time, p.in_time))
    ∙ price_time s l z (setting_checks (job_of s) l (front_length (chain_of (job_of s)) (job_of s).tasks before h after r p) p.plan.allowed))
    (sym p.plan.time))
    ∙ answer_same (accepted r.time) r (sym p.numbered) refl
  where
    l : List ℕ
    l = take (job_of s).tasks after

-- what a result of the plan says
plan_result : (s before after : List ℕ) (r : Answer) → Plans s before after r → r.number ≡ 0
    → ResultSays (sheet_refusal s) (chain_of (job_of s)) (job_of s).tasks before after r
plan_result s = checked_result (sheet_refusal s) (chain_of (job_of s)) (S_rises (job_of s)) (job_of s).tasks (some_task s)

-- where the answer is a plan, the price of its marks on the same sheet is that very answer
pub plan_prices : (s before after : List ℕ) (r : Answer) → Plans s before after r → r.number ≡ 0 → price_of s (take (job_of s).tasks after) ≡ r
plan_prices s before after r p e =
    let result = plan_result s before after r p e in
    planned_price s before after r result.free.clear result.free.room result.planned

-- a result is given only to a sheet that passes checks 1 to 8, so its task count is in range
pub plan_tasks : (s before after : List ℕ) (r : Answer) → Plans s before after r → r.number ≡ 0 → tasks s ≤ task_limit
plan_tasks s before after r p e = (layout_tasks s (sheet_layout s (plan_result s before after r p e).free.clear)).few_tasks
