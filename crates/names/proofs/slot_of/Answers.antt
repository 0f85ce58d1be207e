use mathlib.Core.Path.{sym, ◌∙◌}
use native.Mathlib.Omega.{arith}
use Rattle.names.specs.Names.{name_limit}
use Rattle.names.proofs.Slots.{long_held, name_held, passed_none, passed_here, passed_more, passed_all}
use Rattle.std.proofs.Common.{◌≡◌, length, arith}
use Rattle.names.proofs.slot_of.Goals as goal

pub loop-j-init : goal.loop-j-init
loop-j-init c = passed_none _ _

pub offset_bounds-entries-j : goal.offset_bounds-entries-j
offset_bounds-entries-j c = omega (arith, c.requires)

pub bounds-entries-j : goal.bounds-entries-j
bounds-entries-j c = omega (arith, c.requires)

pub returns-then-held-name : goal.returns-then-held-name
returns-then-held-name c =
    let loop = c.loop-j in
    let test = c.loop-j-test in
    let names = c.args.names in
    let long : length names.entries ≡ name_limit = omega arith in
    let few = long_held names.count names.entries long c.requires in
    passed_here _ _ _ loop.invariant (rw few test.true) (name_held _ names.entries _ test.true ∙ c.if-held-name.true)

pub loop-j-preserved : goal.loop-j-preserved
loop-j-preserved c =
    let loop = c.loop-j in
    let test = c.loop-j-test in
    let names = c.args.names in
    let long : length names.entries ≡ name_limit = omega arith in
    let few = long_held names.count names.entries long c.requires in
    passed_more _ _ _ loop.invariant (rw few test.true) (λ e. c.if-held-name.false (sym (name_held _ names.entries _ test.true) ∙ e))

pub returns : goal.returns
returns c =
    let loop = c.loop-j in
    let names = c.args.names in
    let long : length names.entries ≡ name_limit = omega arith in
    let few = long_held names.count names.entries long c.requires in
    sym few ∙ passed_all _ _ _ loop.invariant (rw few c.loop-j-test.false)
