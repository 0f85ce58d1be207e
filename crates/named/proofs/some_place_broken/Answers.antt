use mathlib.Core.Path.{◌≡◌, sym, ◌∙◌, ap}
use lib.ListN.{length}
use native.Mathlib.Omega.{arith}
use Rattle.rules.specs.Rules.{marks_in, broken_place}
use Rattle.names.specs.Names.{name_limit}
use Rattle.names.proofs.Slots.{long_held, place_held}
use Rattle.named.proofs.Places.{kept_none, kept_breaks, kept_more, kept_all}
use Rattle.named.proofs.some_place_broken.Goals as goal

pub loop-j-init : goal.loop-j-init
loop-j-init c = kept_none _ _ _

pub offset_bounds-entries-j : goal.offset_bounds-entries-j
offset_bounds-entries-j c = omega (arith, c.requires.few)

pub bounds-entries-j : goal.bounds-entries-j
bounds-entries-j c = omega (arith, c.requires.few)

pub breaks-requires : goal.breaks-requires
breaks-requires c = c.requires.tasks

pub returns-then-breaks : goal.returns-then-breaks
returns-then-breaks c =
    let loop = c.loop-j in
    let test = c.loop-j-test in
    let run = c.args.run in
    let names = c.args.names in
    let long : length names.entries ≡ name_limit = omega arith in
    let few = long_held names.count names.entries long c.requires.few in
    let same = ap (broken_place run.job (marks_in run)) (place_held _ names.entries _ test.true) ∙ sym c.breaks.ensures in
    kept_breaks _ _ _ _ loop.invariant (rw few test.true) (same ∙ c.if-breaks.true)

pub loop-j-preserved : goal.loop-j-preserved
loop-j-preserved c =
    let loop = c.loop-j in
    let test = c.loop-j-test in
    let run = c.args.run in
    let names = c.args.names in
    let long : length names.entries ≡ name_limit = omega arith in
    let few = long_held names.count names.entries long c.requires.few in
    let same = ap (broken_place run.job (marks_in run)) (place_held _ names.entries _ test.true) ∙ sym c.breaks.ensures in
    kept_more _ _ _ _ loop.invariant (rw few test.true) (same ∙ c.if-breaks.false)

pub returns : goal.returns
returns c =
    let loop = c.loop-j in
    let names = c.args.names in
    let long : length names.entries ≡ name_limit = omega arith in
    let few = long_held names.count names.entries long c.requires.few in
    kept_all _ _ _ _ loop.invariant (rw few c.loop-j-test.false)
