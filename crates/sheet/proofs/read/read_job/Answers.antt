-- `sheet::read::read_job` meets its contract. The layout's refusal decides, then that of the values; a sheet that passes both gives its job. Assumes nothing.
use mathlib.Core.Path.{◌≡◌, sym, ◌∙◌, ap}
use native.Mathlib.Omega.{arith}
use Rattle.std.proofs.Common.{Ok, rules}
use Rattle.refusals.specs.Refusals.{first}
use Rattle.refusals.specs.Checks.{told}
use Rattle.refusals.proofs.Checks.{told_positive}
use Rattle.job.specs.Checks.{job_conditions}
use Rattle.sheet.specs.Reading.{job_of}
use Rattle.layout.proofs.Sections.{layout_tasks}
use Rattle.sheet.proofs.Readings.{sheet_refused, sheet_goes_on, reading_refused, reading_accepted}
use Rattle.sheet.proofs.read.read_job.Goals as goal

pub returns-in_err-check_layout : goal.returns-in_err-check_layout
returns-in_err-check_layout c =
    let failed = c.from_residual.ensures.0 in
    let same : told c.from_residual.result ≡ told c.check_layout.result = search rules in
    reading_refused _ _ failed (same ∙ (c.check_layout.ensures ∙ sheet_refused _ (omega (arith, told_positive _ failed, same, c.check_layout.ensures))))

pub job_of-job-requires : goal.job_of-job-requires
job_of-job-requires c =
    let passed : c.check_layout.result ≡ Ok tt = search rules in
    sym c.check_layout.ensures ∙ ap told passed

pub check_job-requires : goal.check_job-requires
unfolding job_of
check_job-requires c =
    let passed : c.check_layout.result ≡ Ok tt = search rules in
    rw c.job_of-job.ensures (layout_tasks _ (sym c.check_layout.ensures ∙ ap told passed)).few_tasks

pub returns-in_err-check_job : goal.returns-in_err-check_job
returns-in_err-check_job c =
    let passed : c.check_layout.result ≡ Ok tt = search rules in
    let clear = sym c.check_layout.ensures ∙ ap told passed in
    let same : told c.from_residual-in_err-check_job.result ≡ told c.check_job.result = search rules in
    reading_refused _ _ c.from_residual-in_err-check_job.ensures.0 (same ∙ (c.check_job.ensures ∙ (ap (λ j. first (job_conditions j)) c.job_of-job.ensures ∙ sheet_goes_on _ clear)))

pub returns : goal.returns
returns c =
    let passed : c.check_layout.result ≡ Ok tt = search rules in
    let clear = sym c.check_layout.ensures ∙ ap told passed in
    let sound : c.check_job.result ≡ Ok tt = search rules in
    reading_accepted _ _ (sym (ap told sound) ∙ (c.check_job.ensures ∙ (ap (λ j. first (job_conditions j)) c.job_of-job.ensures ∙ sheet_goes_on _ clear))) c.job_of-job.ensures
