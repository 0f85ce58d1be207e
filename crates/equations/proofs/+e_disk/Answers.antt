use mathlib.Core.Path.{refl}
use Prim.Native.Nat.{◌<◌}
use native.Mathlib.Omega.{arith}
use Rattle.chain.proofs.Search.{least_d_start}
use Rattle.costs.specs.Stretch.{chain_of}
use Rattle.equations.proofs.Minima.{offered_more, level_start, level_found, disk_min}
use Rattle.equations.proofs.+e_disk.Goals as goal

pub returns-then-d2-eq0 : goal.returns-then-d2-eq0
returns-then-d2-eq0 t c = rw c.if-d2-eq0.true (level_start _ _ _ _ _ (least_d_start _ _))

pub loop-d1-preserved : goal.loop-d1-preserved
unfolding chain_of
loop-d1-preserved t c =
    let loop = c.loop-d1 in
    rw (c.offer-least.ensures, c.e_disk.ensures.value, c.e_mem.ensures.value, (c.cd_of.ensures.value c.args.job refl))
    (offered_more _ _ _ _ _ _ loop.invariant (omega arith))

pub returns : goal.returns
returns t c =
    let some : 0 < c.args.d2 = omega (arith, c.if-d2-eq0.false) in
    level_found _ _ _ _ _ _ _ some (disk_min _ _ _ some) c.loop-d1.invariant (omega arith)
