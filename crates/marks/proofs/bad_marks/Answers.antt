use Prim.Native.Nat.{◌-◌, ◌<◌}
use mathlib.Core.Path.{◌≡◌, refl}
use mathlib.Core.Bool.{false, or-true}
use native.Mathlib.Omega.{arith}
use borrow.Author.Rules.{rules}
use borrow.Author.Tests.{ne_eqb, eq-eqb, lt-ltb, le-ltb}
use lib.Dec.{ltb}
use lib.ListN.{get_or}
use Rattle.lists.specs.Lists.{some}
use Rattle.lists.proofs.Lists.{some_holds, some_more}
use Rattle.chain.specs.Time.{disk}
use Rattle.marks.specs.Marks.{bad_marks}
use Rattle.marks.proofs.Stretches.{mark_at}
use Rattle.marks.proofs.bad_marks.Goals as goal

pub returns-then-marks-n : goal.returns-then-marks-n
unfolding bad_marks
returns-then-marks-n c = rw (ne_eqb _ _ c.if-marks-n.true)

pub loop-j-init : goal.loop-j-init
unfolding some
loop-j-init c = record { to = search rules; clear = refl }

pub bounds-marks-j : goal.bounds-marks-j
bounds-marks-j c = omega arith

pub returns-then-marks-j-gt-DISK : goal.returns-then-marks-j-gt-DISK
unfolding bad_marks
returns-then-marks-j-gt-DISK c =
    let args = c.args in
    let loop = c.loop-j in
    rw (some_holds args.n (λ i. ltb disk (get_or args.marks.now i 0)) loop.j (omega arith) (lt-ltb _ _ c.if-marks-j-gt-DISK.true), or-true)

pub loop-j-preserved : goal.loop-j-preserved
loop-j-preserved c =
    let loop = c.loop-j in
    record { to = omega arith; clear = some_more loop.j _ loop.invariant.clear (le-ltb _ _ c.if-marks-j-gt-DISK.false) }

pub overflow_sub-result : goal.overflow_sub-result
overflow_sub-result c = omega arith

pub bounds-marks-n : goal.bounds-marks-n
bounds-marks-n c = omega arith

pub returns : goal.returns
unfolding bad_marks
returns c =
    let loop = c.loop-j in
    let args = c.args in
    let if1 = c.if-marks-n in
    let pre : 0 < args.n = c.requires in
    let e : loop.j ≡ args.n = omega arith in
    rw (eq-eqb _ _ if1.false, ← e, loop.invariant.clear, e, mark_at args.marks.now args.n pre)
