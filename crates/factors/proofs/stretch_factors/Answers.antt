-- `factors::stretch_factors` meets its contract. By the powers 1 and 1 energy is time. Assumes nothing.
use Rattle.costs.proofs.Ranges.{plain_factors, plain_ready}
use Rattle.factors.proofs.stretch_factors.Goals as goal

pub energy_factors-requires : goal.energy_factors-requires
energy_factors-requires c =
    let pre = c.requires in
    rw c.plain.ensures (plain_ready pre)

pub returns : goal.returns
returns c =
    let energy_factors = c.energy_factors in
    let plain = c.plain in
    rw (energy_factors.ensures, plain.ensures) (plain_factors _ _ _)
