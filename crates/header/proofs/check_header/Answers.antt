-- `header::check_header` meets its contract. Conditions 1 to 4 by the branches, in their order: each return names the first to hold. Assumes nothing.
use Rattle.refusals.proofs.Refusals.{refused_here, refused_later, refused_none}
use Rattle.header.proofs.check_header.Goals as goal

pub returns-then-bad_length : goal.returns-then-bad_length
returns-then-bad_length c = refused_here _ _ c.bad_length.ensures c.if-bad_length.true

pub returns-then-bad_form : goal.returns-then-bad_form
returns-then-bad_form c =
    refused_later _ _ c.bad_length.ensures c.if-bad_length.false
    (refused_here _ _ c.bad_form.ensures c.if-bad_form.true)

pub returns-then-bad_tasks : goal.returns-then-bad_tasks
returns-then-bad_tasks c =
    refused_later _ _ c.bad_length.ensures c.if-bad_length.false
    (refused_later _ _ c.bad_form.ensures c.if-bad_form.false
    (refused_here _ _ c.bad_tasks.ensures c.if-bad_tasks.true))

pub returns-then-bad_sections : goal.returns-then-bad_sections
returns-then-bad_sections c =
    refused_later _ _ c.bad_length.ensures c.if-bad_length.false
    (refused_later _ _ c.bad_form.ensures c.if-bad_form.false
    (refused_later _ _ c.bad_tasks.ensures c.if-bad_tasks.false
    (refused_here _ _ c.bad_sections.ensures c.if-bad_sections.true)))

pub returns : goal.returns
returns c =
    refused_later _ _ c.bad_length.ensures c.if-bad_length.false
    (refused_later _ _ c.bad_form.ensures c.if-bad_form.false
    (refused_later _ _ c.bad_tasks.ensures c.if-bad_tasks.false
    (refused_later _ _ c.bad_sections.ensures c.if-bad_sections.false refused_none)))
