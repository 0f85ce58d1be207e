-- What planning gives for every sheet and every lent buffer: demand 3, with the refusals of demand 1 in their order.
use Rattle.std.specs.Prelude.{ℕ, List}
use Rattle.refusals.specs.declared.Answer.{Answer}
use Rattle.sheet.specs.Reading.{job_of, sheet_refusal}
use Rattle.costs.specs.Stretch.{chain_of}
use Rattle.answers.specs.Promise.{PlansChecked}

-- the answer to the sheet s: checks 1 to 8, then 11, then 13, else the plan
abbrev pub Plans : (s before after : List ℕ) → Answer → Type 0
Plans s before after r = PlansChecked (sheet_refusal s) (chain_of (job_of s)) (job_of s).tasks before after r
