-- `bounds::least_disk` meets its contract. R_D' and the difference of two times. Assumes nothing.
use mathlib.Core.Path.{refl}
use native.Mathlib.Omega.{arith}
use Rattle.chain.specs.Working.Bounds.{least_disk}
use Rattle.bounds.specs.Working.Bounds.{bounds_in, apart_in}
use Rattle.bounds.specs.Working.Bounds.{disk_in}
use Rattle.bounds.proofs.least_disk.Goals as goal

pub returns : goal.returns
unfolding disk_in least_disk apart_in bounds_in
returns c =
    let column-at = c.column_at in
    let saturating-sub = c.saturating_sub in
    let pre = c.requires in
    rw (column-at.ensures, saturating-sub.ensures) (record { value = λ n. refl; cap = omega (arith, pre.recovery, pre.time) })
