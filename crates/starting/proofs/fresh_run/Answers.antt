-- `starting::fresh_run` meets its contract. The sheet's refusal decides, then that of the marks. Assumes nothing.
use mathlib.Core.Path.{◌≡◌, refl, sym, ◌∙◌, ap}
use native.Mathlib.Omega.{arith}
use Rattle.std.proofs.Common.{Ok, rules}
use Rattle.refusals.specs.Checks.{told}
use Rattle.refusals.proofs.Checks.{told_positive}
use Rattle.sheet.proofs.Readings.{read_told, read_accepted, sheet_sound}
use Rattle.starting.proofs.Starts.{started_refused, start_by_sheet, start_refused, start_accepted}
use Rattle.starting.proofs.fresh_run.Goals as goal

pub returns-in_err-job : goal.returns-in_err-job
returns-in_err-job c =
    let failed = c.from_residual.ensures.0 in
    let same : told c.from_residual.result ≡ told c.read_job.result = search rules in
    let number = same ∙ read_told _ _ c.read_job.ensures in
    started_refused _ failed number ∙ start_by_sheet _ _ (omega (arith, number, told_positive _ failed))

pub check_marks-requires : goal.check_marks-requires
check_marks-requires c =
    let given : c.read_job.result ≡ Ok c.in_ok-job.job = search rules in
    let read = read_accepted _ _ given c.read_job.ensures in
    rw read.1 (sheet_sound _ read.0)

pub returns-in_err-check_marks : goal.returns-in_err-check_marks
returns-in_err-check_marks c =
    let given : c.read_job.result ≡ Ok c.in_ok-job.job = search rules in
    let read = read_accepted _ _ given c.read_job.ensures in
    let failed = c.from_residual-in_err-check_marks.ensures.0 in
    let same : told c.from_residual-in_err-check_marks.result ≡ told c.check_marks.result = search rules in
    let number = same ∙ rw read.1 at c.check_marks.ensures in
    started_refused _ failed refl ∙ start_refused _ _ read.0 _ number (λ z. omega (arith, z, told_positive _ failed))

pub returns : goal.returns
returns c =
    let given : c.read_job.result ≡ Ok c.in_ok-job.job = search rules in
    let read = read_accepted _ _ given c.read_job.ensures in
    let passed : c.check_marks.result ≡ Ok tt = search rules in
    let right = sym (rw read.1 at c.check_marks.ensures) ∙ ap told passed in
    rw (c.fresh.ensures, read.1) (start_accepted _ _ read.0 right)
