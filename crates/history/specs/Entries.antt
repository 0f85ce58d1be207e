-- A state with other entries of weights and marks: what the theorems on unread entries compare.
use Rattle.std.specs.Prelude.{◌≡◌, List, ℕ, take}
use Rattle.state.specs.declared.Run.{Run}
use Rattle.following.specs.declared.Stepped.{Stepped}

-- the same state with other entries of weights and marks
abbrev pub with_entries : Run → List ℕ → List ℕ → Run
with_entries run weights marks =
    record { job = record { tasks = run.job.tasks; platform = run.job.platform; weights = weights }; marks = marks; place = run.place }

-- the same answer with other entries in its state
abbrev pub answer_with : Stepped → List ℕ → List ℕ → Stepped
answer_with s weights marks = record { number = s.number; run = with_entries s.run weights marks }

-- these entries agree with those of a state up to its task count
pub record Agree (run : Run) (weights marks : List ℕ) : Type 0 where
  pub same_weights : take run.job.tasks weights ≡ take run.job.tasks run.job.weights
  pub same_marks : take run.job.tasks marks ≡ take run.job.tasks run.marks
