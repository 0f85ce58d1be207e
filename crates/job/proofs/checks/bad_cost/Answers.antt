-- `job::checks::bad_cost` meets its contract. Some cost is above the limit. Assumes nothing.
use mathlib.Core.Path.{◌∙◌}
use Rattle.std.proofs.Common.{rules}
use Rattle.std.proofs.lemmas.Iterator.Search.{any_from_yields_List}
use Rattle.std.proofs.lemmas.Iterator.{YieldsList-from_slice}
use lib.Dec.{ltb}
use Rattle.units.specs.Limits.{cost_limit}
use Rattle.lists.proofs.Ranges.{any_in}
use Rattle.job.specs.Checks.{costs_of, bad_cost}
use Rattle.job.proofs.checks.bad_cost.Goals as goal

pub returns : goal.returns
unfolding bad_cost
returns c =
    any_from_yields_List (ltb cost_limit) _ _ _ c.any.ensures.ran (YieldsList-from_slice (costs_of c.args.p) cc) (λ x b q e. search rules)
    ∙ any_in (ltb cost_limit) (costs_of c.args.p)
