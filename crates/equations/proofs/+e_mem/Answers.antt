use mathlib.Core.Path.{refl}
use Prim.Native.Nat.{◌<◌}
use native.Mathlib.Omega.{arith}
use Rattle.chain.proofs.Search.{least_m_start}
use Rattle.costs.specs.Stretch.{chain_of}
use Rattle.equations.proofs.Minima.{offered_more, level_start, level_found, memory_min}
use Rattle.equations.proofs.+e_mem.Goals as goal

pub returns-then-m2-d1 : goal.returns-then-m2-d1
returns-then-m2-d1 t c = rw c.if-m2-d1.true (level_start _ _ _ _ _ (least_m_start _ _ _))

pub loop-m1-preserved : goal.loop-m1-preserved
unfolding chain_of
loop-m1-preserved t c =
    let loop = c.loop-m1 in
    let e-mem = c.e_mem-mem in
    rw (c.offer-least.ensures, c.e_verif.ensures.value, e-mem.ensures.value, (c.cm_of.ensures.value c.args.job refl))
    (offered_more _ _ _ _ _ _ loop.invariant (omega arith))

pub returns : goal.returns
returns t c =
    let args = c.args in
    let pre = c.requires in
    let some : args.d1 < args.m2 = omega (arith, pre.start, c.if-m2-d1.false) in
    level_found _ _ _ _ _ _ _ some (memory_min _ _ _ _ some) c.loop-m1.invariant (omega arith)
