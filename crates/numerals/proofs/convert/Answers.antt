use Prim.Native.Nat.{◌-◌}
use mathlib.Core.Path.{refl}
use mathlib.Core.Bool.{true≢false}
use native.Mathlib.Omega.{arith}
use lib.ListN.{get_or, length-set}
use Rattle.lists.proofs.Lists.{some_fails}
use Rattle.numerals.specs.Digits.{zero_code}
use Rattle.numerals.proofs.Texts.{filled_more, kept_after, digit_least}
use Rattle.numerals.proofs.convert.Goals as goal

pub loop-j-init : goal.loop-j-init
loop-j-init c = record { within = omega arith; long = refl; marks = λ i h. absurd (omega arith); left = λ i h. refl }

pub overflow_sub-text : goal.overflow_sub-text
overflow_sub-text c =
    let pre = c.requires in
    let loop = c.loop-j in
    rw (loop.invariant.left loop.j (omega arith)) (digit_least _ _ (some_fails _ _ (pre) loop.j (omega arith)))

pub loop-j-preserved : goal.loop-j-preserved
loop-j-preserved c =
    let args = c.args in
    let loop = c.loop-j in
    record {
      within = omega arith;
      long = simp length-set loop.invariant.long;
      marks =
          rw (loop.invariant.left loop.j (omega arith))
          (filled_more loop.text (λ i. get_or args.text.now i 0 - zero_code) loop.j (omega arith) loop.invariant.marks);
      left = kept_after loop.text args.text.now (get_or loop.text loop.j 0 - zero_code) loop.j loop.invariant.left;
    }

pub shape_of-text : goal.shape_of-text
shape_of-text c = c.loop-j.invariant.long

pub returns : goal.returns
returns c =
    let pre = c.requires in
    let loop = c.loop-j in
    record { long = loop.invariant.long; digits = rw (pre); marks = λ _ i h. loop.invariant.marks i (omega arith); untouched = λ e. absurd (true≢false e) }
