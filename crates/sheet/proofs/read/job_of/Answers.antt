-- `sheet::read::job_of` meets its contract. The task count and the two sections, each looked up and handed to its reader. Assumes nothing.
use native.Mathlib.Omega.{arith}
use Rattle.kinds.specs.Kinds.{platform_kind, weights_kind}
use Rattle.sheet.specs.Reading.{job_of}
use Rattle.sheet.proofs.Lookups.{lookup_section}
use Rattle.layout.proofs.Sections.{layout_passed, layout_tasks}
use Rattle.kinds.proofs.Lengths.{has_platform, has_weights}
use Rattle.sheet.proofs.read.job_of.Goals as goal

pub weights_of-weights-requires : goal.weights_of-weights-requires
weights_of-weights-requires c =
    let task-count = c.task_count-n in
    let pre = c.requires in
    omega (arith, task-count.ensures.is, (layout_tasks _ (pre)).few_tasks)

pub returns : goal.returns
unfolding job_of
returns c =
    let weights-of = c.weights_of-weights in
    let task-count = c.task_count-n in
    let platform-of = c.platform_of-platform in
    let lookup = c.lookup in
    let lookup2 = c.lookup-2 in
    let pre = c.requires in
    let kinds = (layout_passed _ pre).kinds in
    rw (
      weights-of.ensures,
      task-count.ensures.is,
      platform-of.ensures,
      lookup.ensures.bytes,
      lookup2.ensures.bytes,
      lookup_section _ platform_kind pre (has_platform _ kinds),
      lookup_section _ weights_kind pre (has_weights _ kinds),
    )
