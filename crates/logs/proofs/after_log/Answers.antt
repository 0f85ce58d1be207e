-- `logs::after_log` meets its contract: the run at the place that the log leads to, or the same refusal. Assumes nothing.
use mathlib.Core.Path.{◌≡◌, ◌∙◌}
use Rattle.std.proofs.Common.{Ok, rules}
use Rattle.refusals.specs.Checks.{told}
use Rattle.logs.proofs.Once.{err_stood}
use Rattle.logs.proofs.after_log.Goals as goal

pub returns-in_err-place : goal.returns-in_err-place
returns-in_err-place c =
    let same : told c.from_residual.result ≡ told c.place_reached.result = search rules in
    err_stood c.args.run _ _ c.from_residual.ensures.0 same ∙ c.place_reached.ensures

pub returns : goal.returns
returns c =
    let is : c.place_reached.result ≡ Ok c.in_ok-place.place = search rules in
    rw is at c.place_reached.ensures
