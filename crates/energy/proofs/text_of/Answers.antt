-- A plan's task count is in range.
use Rattle.std.proofs.Common.{arith}
use Rattle.planning.proofs.ByEnergy.{energy_tasks}
use Rattle.energy.proofs.text_of.Goals as goal

pub plan_text-requires : goal.plan_text-requires
plan_text-requires c = record { short = omega arith; few = λ e. omega (arith, c.task_count.ensures.is, energy_tasks _ _ _ _ _ c.plan_energy-answer.ensures e) }
