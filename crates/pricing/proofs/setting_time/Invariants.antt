-- `pricing::setting_time` meets its contract. The loop's invariant: what is carried to the next position is the definition's, unless the limit was passed, and
-- then D(n) passes it too. Assumes nothing.
use Rattle.progress.specs.declared.Progress.{Progress}
use Rattle.job.specs.declared.Job.{Job}
use mathlib.Core.List.{List}
use Prim.Native.Nat.{ℕ, ◌+◌, ◌<◌}
use Rattle.units.specs.Limits.{none}
use Rattle.pricing.proofs.Progresses.{Progresses}
use Rattle.pricing.proofs.setting_time.Given as goal

pub record Carried (job : Job) (marks : List ℕ) (s : Progress) (j : ℕ) : Type 0 where
  pub progress : Progresses job marks j s
  pub in_time : s.dt + s.mt + s.q < none

abbrev pub invariant-loop-j : goal.invariant-loop-j
invariant-loop-j l = Carried l.job l.marks l.s l.j
