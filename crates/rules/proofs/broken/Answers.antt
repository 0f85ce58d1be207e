-- `rules::broken` meets its contract. The values decide first; where they are right the task count is in range, and the place decides. Assumes nothing.
use mathlib.Core.Path.{refl}
use Rattle.rules.specs.Rules.{marks_read, broken_values, broken}
use Rattle.rules.proofs.Soundness.{values_sound, refused_told}
use Rattle.rules.proofs.broken.Goals as goal

pub returns-then-is_err : goal.returns-then-is_err
unfolding broken broken_values
returns-then-is_err c = rw (← c.check_values.ensures, ← refused_told c.check_values.result, ← c.is_err.ensures.value, c.if-is_err.true) refl

pub broken_place-requires : goal.broken_place-requires
unfolding broken_values
broken_place-requires c =
    let run = c.args.run in
    (values_sound run.job (marks_read run) (rw (← c.check_values.ensures, ← refused_told c.check_values.result, ← c.is_err.ensures.value) c.if-is_err.false)).few_tasks

pub returns-else-is_err : goal.returns-else-is_err
unfolding broken broken_values
returns-else-is_err c = rw (← c.check_values.ensures, ← refused_told c.check_values.result, ← c.is_err.ensures.value, c.if-is_err.false) c.broken_place.ensures
