-- `logs::place_reached` meets its contract: what is tested before the first event, then the records. Assumes nothing.
use mathlib.Core.Path.{◌≡◌, sym, ◌∙◌, ap}
use Rattle.std.proofs.Common.{Ok, rules}
use Rattle.refusals.specs.Checks.{told}
use Rattle.logs.proofs.Once.{log_refused_told, tested_right, log_tested}
use Rattle.logs.proofs.place_reached.Goals as goal

pub returns-in_err-check_before : goal.returns-in_err-check_before
returns-in_err-check_before c =
    let same : told c.from_residual.result ≡ told c.check_before.result = search rules in
    log_refused_told c.args.run c.args.log.now _ c.from_residual.ensures.0 (same ∙ c.check_before.ensures)

pub followed-requires : goal.followed-requires
followed-requires c =
    let passed : c.check_before.result ≡ Ok tt = search rules in
    tested_right _ c.args.log.now (sym c.check_before.ensures ∙ ap told passed)

pub returns : goal.returns
returns c =
    let passed : c.check_before.result ≡ Ok tt = search rules in
    c.followed.ensures ∙ log_tested c.args.run c.args.log.now (tested_right c.args.run c.args.log.now (sym c.check_before.ensures ∙ ap told passed))
