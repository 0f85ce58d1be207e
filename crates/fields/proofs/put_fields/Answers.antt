use Prim.Native.Nat.{◌-◌, ◌≤◌}
use mathlib.Core.Path.{refl, ◌∙◌}
use native.Mathlib.Omega.{arith}
use lib.ListN.{length, take}
use lib.Seq.{length-sets, take_all}
use Rattle.fields.specs.Written.{fields}
use Rattle.fields.proofs.Stores.{fields_more}
use Rattle.fields.proofs.put_fields.Goals as goal

pub loop-j-init : goal.loop-j-init
unfolding fields
loop-j-init c = record { within = omega arith; stored = refl }

pub overflow_mul-j : goal.overflow_mul-j
overflow_mul-j c =
    let pre = c.requires in
    omega (arith, pre)

pub overflow_add-at : goal.overflow_add-at
overflow_add-at c =
    let pre = c.requires in
    omega (arith, pre)

pub put_field-requires : goal.put_field-requires
put_field-requires c =
    let args = c.args in
    let pre = c.requires in
    let loop = c.loop-j in
    rw (loop.invariant.stored, length-sets args.buffer.now args.at (fields (take loop.j args.values.now))) (omega (arith, pre))

pub loop-j-preserved : goal.loop-j-preserved
loop-j-preserved c =
    let args = c.args in
    let loop = c.loop-j in
    let put-field = c.put_field in
    let more = fields_more args.values.now args.buffer.now args.at loop.j (omega arith) in
    record { within = omega arith; stored = put-field.ensures ∙ rw loop.invariant.stored more }

pub shape_of-buffer : goal.shape_of-buffer
shape_of-buffer c =
    let args = c.args in
    let loop = c.loop-j in
    rw loop.invariant.stored (length-sets args.buffer.now args.at (fields (take loop.j args.values.now)))

pub returns : goal.returns
returns c =
    let args = c.args in
    let loop = c.loop-j in
    let e : length args.values.now ≤ loop.j = omega arith in
    rw (take_all loop.j args.values.now e) at loop.invariant.stored
