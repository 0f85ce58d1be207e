-- A plan's task count is in range.
use Rattle.std.proofs.Common.{arith}
use Rattle.sheet.specs.Reading.{job_of}
use Rattle.engine.proofs.Theorems.{printed_tasks}
use Rattle.printed.proofs.text_of.Goals as goal

pub plan_text-requires : goal.plan_text-requires
unfolding job_of
plan_text-requires c = record { short = omega arith; few = λ e. omega (arith, c.task_count.ensures.is, printed_tasks _ _ _ _ c.printed-answer.ensures e) }
