-- `header::most_tasks` meets its contract. The code is the definition. Assumes nothing.
use mathlib.Core.Path.{refl}
use Rattle.header.specs.Header.{tasks_most}
use Rattle.header.proofs.most_tasks.Goals as goal

pub returns : goal.returns
unfolding tasks_most
returns c = refl
