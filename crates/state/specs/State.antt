-- The state of a run: the fresh one, and the one with every field 0.
use Rattle.std.specs.Prelude.{ℕ, ◌≤◌, ◌≡◌, cond, List, ltb, get_or, replicate}
use Rattle.lists.specs.Lists.{tabulate}
use Rattle.units.specs.Limits.{task_limit}
use Rattle.job.specs.Job.{zero_job}
use Rattle.job.specs.declared.Job.{Job}
use Rattle.state.specs.declared.Place.{Place}
use Rattle.state.specs.declared.Run.{Run}

-- before task 1, with all five sums at 0
abbrev pub beginning : Place
beginning = record { position = 0; awaiting = 0; sums = record { kept = 0; redone = 0; verify = 0; saves = 0; recovery = 0 } }

-- the entries of a state: the first n of a list, as far as there is room, and 0 past them
unfoldable pub cleared : ℕ → List ℕ → List ℕ
cleared n l = tabulate task_limit (λ j. cond (ltb j n) (get_or l j 0) 0)

-- a fresh run stands before task 1 with all five sums at 0; entries past task n are 0
unfoldable pub fresh : Job → List ℕ → Run
fresh job marks =
    record {
      job = record { tasks = job.tasks; platform = job.platform; weights = cleared job.tasks job.weights };
      marks = cleared job.tasks marks;
      place = beginning;
    }

-- entries past task n are 0
pub record ZeroPast (run : Run) : Type 0 where
  pub weights : (j : ℕ) → run.job.tasks ≤ j → get_or run.job.weights j 0 ≡ 0
  pub marks : (j : ℕ) → run.job.tasks ≤ j → get_or run.marks j 0 ≡ 0

-- the state with every field 0
unfoldable pub zero_run : Run
zero_run = record { job = zero_job; marks = replicate task_limit 0; place = beginning }
