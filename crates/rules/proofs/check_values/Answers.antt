-- `rules::check_values` meets its contract. Check 3 bounds the task count, so that the first n entries are a part of the array; then 7 and 8, then 9
-- and 10 decide. Assumes nothing.
use mathlib.Core.Path.{◌≡◌, sym, ◌∙◌, ap}
use native.Mathlib.Omega.{arith}
use lib.ListN.{length}
use lib.Seq.{length-take-le}
use Rattle.std.proofs.Common.{Ok, rules}
use Rattle.refusals.specs.Numbers
use Rattle.refusals.specs.Checks.{told}
use Rattle.refusals.proofs.Refusals.{refused_here, refused_later}
use Rattle.refusals.proofs.Checks.{refuses_first, passes_on}
use Rattle.units.specs.Limits.{task_limit}
use Rattle.job.specs.Checks.{job_conditions}
use Rattle.job.proofs.Ranges.{count_range, job_sound}
use Rattle.rules.proofs.Soundness.{job_numbered}
use Rattle.rules.proofs.check_values.Goals as goal

pub returns-then-bad_count : goal.returns-then-bad_count
returns-then-bad_count c = refused_here Numbers.bad_count _ c.bad_count.ensures c.if-bad_count.true

pub check_job-requires : goal.check_job-requires
check_job-requires c = (count_range _ (sym c.bad_count.ensures ∙ c.if-bad_count.false)).few_tasks

pub returns-in_err-check_job : goal.returns-in_err-check_job
returns-in_err-check_job c =
    let failed = c.from_residual.ensures.0 in
    let same : told c.from_residual.result ≡ told c.check_job.result = search rules in
    refused_later Numbers.bad_count _ c.bad_count.ensures c.if-bad_count.false (refuses_first _ (job_conditions c.args.run.job) _ failed (same ∙ c.check_job.ensures))

pub slice_bounds-marks-end : goal.slice_bounds-marks-end
slice_bounds-marks-end c =
    let args = c.args in
    let l : length args.run.marks ≡ task_limit = search rules in
    omega (arith, count_range args.run.job.tasks (sym c.bad_count.ensures ∙ c.if-bad_count.false))

pub slice_bounds-check_marks-end : goal.slice_bounds-check_marks-end
slice_bounds-check_marks-end c =
    let args = c.args in
    let l : length args.run.marks ≡ task_limit = search rules in
    sym (length-take-le args.run.job.tasks args.run.marks (omega (arith, count_range args.run.job.tasks (sym c.bad_count.ensures ∙ c.if-bad_count.false))))

pub check_marks-requires : goal.check_marks-requires
check_marks-requires c =
    let passed : c.check_job.result ≡ Ok tt = search rules in
    job_sound c.args.run.job (sym c.bad_count.ensures ∙ c.if-bad_count.false) (sym c.check_job.ensures ∙ ap told passed)

pub returns : goal.returns
returns c =
    let passed : c.check_job.result ≡ Ok tt = search rules in
    refused_later Numbers.bad_count _ c.bad_count.ensures c.if-bad_count.false
    (passes_on _ tt (job_conditions c.args.run.job) _ (job_numbered c.args.run.job) passed c.check_job.ensures c.check_marks.ensures)
