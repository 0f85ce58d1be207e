-- `kinds::is_one_of_each` meets its contract. Each kind is counted once. Assumes nothing.
use mathlib.Core.Path.{◌≡◌}
use mathlib.Core.Bool.{not}
use Rattle.std.proofs.Common.{rules, eqb, ◌+◌}
use Rattle.lists.specs.Lists.{some}
use Rattle.lists.proofs.Ranges.{all_some}
use Rattle.header.specs.Header.{sections}
use Rattle.kinds.specs.Kinds.{counted, not_one, one_of_each}
use Rattle.kinds.proofs.is_one_of_each.Goals as goal

pub returns : goal.returns
unfolding one_of_each not_one
returns c =
    let s = c.args.s.now in
    let each : c.all.result ≡ not (some c.section_count.result (not_one s)) = all_some (λ j. eqb (counted s (j + 1) (sections s)) 1) _ _ _ _ (λ i b q e. search rules) c.all.ensures.ran in
    rw (← c.section_count.ensures.is) each
