-- `kinds::bad_kinds` meets its contract. One of each kind, then the lengths. Assumes nothing.
use mathlib.Core.Path.{◌≡◌}
use mathlib.Core.Bool.{or-true}
use Rattle.std.proofs.Common.{rules}
use Rattle.lists.specs.Lists.{some}
use Rattle.lists.proofs.Ranges.{any_some}
use Rattle.kinds.specs.Kinds.{wrong_length, bad_kinds}
use Rattle.kinds.proofs.bad_kinds.Goals as goal

pub returns-then-not-is_one_of_each : goal.returns-then-not-is_one_of_each
unfolding bad_kinds
returns-then-not-is_one_of_each c =
    let is-one-of-each = c.is_one_of_each in
    rw (← is-one-of-each.ensures, c.if-not-is_one_of_each.true)

pub returns : goal.returns
unfolding bad_kinds
returns c =
    let is-one-of-each = c.is_one_of_each in
    let wrong : c.any.result ≡ some c.section_count.result (wrong_length c.args.s.now) = any_some (wrong_length c.args.s.now) _ _ _ _ (λ i b q e. search rules) c.any.ensures.ran in
    rw (← is-one-of-each.ensures, c.if-not-is_one_of_each.false, ← c.section_count.ensures.is) wrong
