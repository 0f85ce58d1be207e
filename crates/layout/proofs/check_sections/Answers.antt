-- `layout::check_sections` meets its contract. Conditions 5, 28 and 6 by the branches, in their order; past 5, a byte is stray just where the sections
-- are not contiguous. Assumes nothing.
use mathlib.Core.Path.{sym, ◌∙◌, ap}
use mathlib.Core.Bool.{not}
use Rattle.refusals.proofs.Refusals.{refused_here, refused_later, refused_none}
use Rattle.extents.proofs.Stray.{stray_contiguous}
use Rattle.layout.proofs.check_sections.Goals as goal

pub returns-then-misplaced : goal.returns-then-misplaced
returns-then-misplaced c =
    let bad-extents = c.bad_extents-misplaced in
    refused_here _ _ bad-extents.ensures c.if-misplaced.true

pub returns-then-stray : goal.returns-then-stray
returns-then-stray c =
    let bad-extents = c.bad_extents-misplaced in
    let is-contiguous = c.is_contiguous-stray in
    let if1 = c.if-misplaced in
    let stray = ap not is-contiguous.ensures ∙ sym (stray_contiguous _ (sym bad-extents.ensures ∙ if1.false)) in
    refused_later _ _ bad-extents.ensures if1.false (refused_here _ _ stray (ap not c.if-stray.true))

pub returns-then-odd : goal.returns-then-odd
returns-then-odd c =
    let bad-extents = c.bad_extents-misplaced in
    let is-contiguous = c.is_contiguous-stray in
    let bad-kinds = c.bad_kinds-odd in
    let if1 = c.if-misplaced in
    let if2 = c.if-stray in
    let stray = ap not is-contiguous.ensures ∙ sym (stray_contiguous _ (sym bad-extents.ensures ∙ if1.false)) in
    refused_later _ _ bad-extents.ensures if1.false
    (refused_later _ _ stray (ap not if2.false) (refused_here _ _ bad-kinds.ensures c.if-odd.true))

pub returns : goal.returns
returns c =
    let bad-extents = c.bad_extents-misplaced in
    let is-contiguous = c.is_contiguous-stray in
    let bad-kinds = c.bad_kinds-odd in
    let if1 = c.if-misplaced in
    let if2 = c.if-stray in
    let stray = ap not is-contiguous.ensures ∙ sym (stray_contiguous _ (sym bad-extents.ensures ∙ if1.false)) in
    refused_later _ _ bad-extents.ensures if1.false
    (refused_later _ _ stray (ap not if2.false) (refused_later _ _ bad-kinds.ensures c.if-odd.false refused_none))
