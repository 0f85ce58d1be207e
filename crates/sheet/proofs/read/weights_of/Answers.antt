use Prim.Native.Nat.{◌-◌}
use mathlib.Core.Path.{◌≡◌, refl}
use native.Mathlib.Omega.{arith}
use Rattle.lists.specs.Lists.{tabulate}
use Rattle.sheet.specs.Reading.{weights_of}
use Rattle.sheet.proofs.Weights.{weights_more}
use Rattle.sheet.proofs.read.weights_of.Goals as goal

pub loop-j-init : goal.loop-j-init
unfolding weights_of tabulate
loop-j-init c = record { within = omega arith; weights_read = refl }

pub section_field-requires : goal.section_field-requires
section_field-requires c = omega arith

pub bounds-weights-j : goal.bounds-weights-j
bounds-weights-j c = omega arith

pub loop-j-preserved : goal.loop-j-preserved
loop-j-preserved c =
    let loop = c.loop-j in
    let section-field = c.section_field in
    record { within = omega arith; weights_read = rw (loop.invariant.weights_read, section-field.ensures) (weights_more _ _ (omega arith)) }

pub returns : goal.returns
returns c =
    let loop = c.loop-j in
    let args = c.args in
    let e : loop.j ≡ args.n = omega arith in rw (← e) loop.invariant.weights_read
