-- The price of a setting that a user supplies: D(n), or the first of checks 1 to 10 and 13 that holds.
use Rattle.std.specs.Prelude.{ℕ, List, [], ◌∷◌, ◌++◌, ltb}
use Rattle.units.specs.Limits.{time_limit}
use Rattle.refusals.specs.Numbers
use Rattle.refusals.specs.Refusals.{Condition, refusal, first}
use Rattle.refusals.specs.Answers.{answered}
use Rattle.refusals.specs.declared.Answer.{Answer}
use Rattle.sheet.specs.Reading.{job_of, sheet_conditions}
use Rattle.marks.specs.Marks.{marks_conditions}
use Rattle.costs.specs.Stretch.{time_of}

-- 13: too slow
abbrev pub too_slow : ℕ → List Condition
too_slow time = refusal Numbers.too_slow (ltb time_limit time) ∷ []

-- checks 1 to 10 and 13
abbrev pub price_conditions : List ℕ → List ℕ → List Condition
price_conditions s l = sheet_conditions s ++ (marks_conditions (job_of s) l ++ too_slow (time_of (job_of s) l))

unfoldable pub price_refusal : List ℕ → List ℕ → ℕ
price_refusal s l = first (price_conditions s l)

-- what pricing gives for a sheet and a list of marks
unfoldable pub price_of : List ℕ → List ℕ → Answer
price_of s l = answered (price_refusal s l) (time_of (job_of s) l)
