-- `bounds::since` meets its contract. It is not more than the recovery itself. Assumes nothing.
use mathlib.Core.Path.{◌∙◌}
use native.Mathlib.Omega.{arith}
use Rattle.bounds.specs.Working.Bounds.{since}
use Rattle.bounds.proofs.since.Goals as goal

pub returns : goal.returns
unfolding since
returns c =
    let least-disk = c.least_disk in
    let beyond = c.beyond in
    record { value = λ n. beyond.ensures n ∙ rw (least-disk.ensures.value n); cap = omega (arith, beyond.ensures 0, least-disk.ensures.cap) }
