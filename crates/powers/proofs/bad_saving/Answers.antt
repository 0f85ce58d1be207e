-- `powers::bad_saving` meets its contract. A power in range, and no product of the four costs. Assumes nothing.
use Rattle.std.proofs.Common.{rules}
use Rattle.powers.specs.Powers.{bad_saving}
use Rattle.powers.proofs.Powers.{range_most}
use Rattle.powers.proofs.bad_saving.Goals as goal

pub returns-then-out_of_range : goal.returns-then-out_of_range
unfolding bad_saving
returns-then-out_of_range c = search rules

pub saving_passes-requires : goal.saving_passes-requires
saving_passes-requires c =
    let out_of_range = c.out_of_range in
    let if1 = c.if-out_of_range in
    range_most out_of_range.ensures if1.false

pub returns-else-out_of_range : goal.returns-else-out_of_range
unfolding bad_saving
returns-else-out_of_range c = search rules
