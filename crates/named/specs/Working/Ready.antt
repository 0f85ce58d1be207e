-- What the test of held places needs.
use Rattle.std.specs.Prelude.{◌≤◌}
use Rattle.units.specs.Limits.{task_limit}
use Rattle.names.specs.Names.{name_limit}
use Rattle.state.specs.declared.Run.{Run}
use Rattle.names.specs.declared.Names.{Names}

pub record ReadyForPlaces (run : Run) (names : Names) : Type 0 where
  pub tasks : run.job.tasks ≤ task_limit
  pub few : names.count ≤ name_limit
