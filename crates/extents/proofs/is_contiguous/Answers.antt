-- `extents::is_contiguous` meets its contract. Each section follows on what stands before it. Assumes nothing.
use mathlib.Core.Path.{◌≡◌, refl}
use mathlib.Core.Bool.{not}
use Rattle.std.proofs.Common.{rules, eqb}
use Rattle.lists.specs.Lists.{some}
use Rattle.lists.proofs.Ranges.{all_some}
use Rattle.header.specs.Header.{offset}
use Rattle.extents.specs.Extents.{end_before, apart, contiguous}
use Rattle.extents.proofs.is_contiguous.Goals as goal

pub returns-then-follow : goal.returns-then-follow
unfolding contiguous apart
returns-then-follow c =
    let s = c.args.s.now in
    let follow : c.all-follow.result ≡ not (some c.section_count-m.result (apart s)) = all_some (λ k. eqb (offset s k) (end_before s k)) _ _ _ _ (λ i b q e. search rules) c.all-follow.ensures.ran in
    rw (← c.section_count-m.ensures.is, ← follow, c.if-follow.true, ← c.end_before.ensures) refl

pub returns-else-follow : goal.returns-else-follow
unfolding contiguous apart
returns-else-follow c =
    let s = c.args.s.now in
    let follow : c.all-follow.result ≡ not (some c.section_count-m.result (apart s)) = all_some (λ k. eqb (offset s k) (end_before s k)) _ _ _ _ (λ i b q e. search rules) c.all-follow.ensures.ran in
    rw (← c.section_count-m.ensures.is, ← follow, c.if-follow.false) refl
