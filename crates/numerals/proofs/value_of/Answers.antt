use mathlib.Core.Path.{◌≡◌, refl, ◌∙◌}
use native.Mathlib.Omega.{arith}
use lib.ListN.{length}
use Rattle.lists.proofs.Lists.{some_fails}
use Rattle.numerals.specs.Digits.{number_to, in_word}
use Rattle.numerals.proofs.Texts.{digit_least, digit_most, number_more}
use Rattle.numerals.proofs.value_of.Goals as goal

pub loop-c-init : goal.loop-c-init
unfolding in_word number_to
loop-c-init c = record { within = omega arith; value = refl }

pub overflow_sub-c : goal.overflow_sub-c
overflow_sub-c c =
    let pre = c.requires in
    let loop = c.loop-c in
    digit_least _ _ (some_fails _ _ pre loop.c-index (omega arith))

pub with_digit-n-requires : goal.with_digit-n-requires
with_digit-n-requires c =
    let pre = c.requires in
    let loop = c.loop-c in
    omega (arith, digit_most _ _ (some_fails _ _ pre loop.c-index (omega arith)))

pub loop-c-preserved : goal.loop-c-preserved
loop-c-preserved c =
    let loop = c.loop-c in
    record { within = omega arith; value = c.with_digit-n.ensures ∙ number_more _ _ loop.c-index loop.invariant.value }

pub returns : goal.returns
returns c =
    let e : c.loop-c.c-index ≡ length c.args.text.now = omega arith in
    rw e at c.loop-c.invariant.value
