-- `naming::followed` meets its contract. Assumes nothing.
use mathlib.Core.Path.{◌≡◌, sym, ◌∙◌, ap}
use Rattle.std.proofs.Common.{Ok, rules}
use Rattle.refusals.specs.Checks.{told}
use Rattle.rules.proofs.Soundness.{run_sound}
use Rattle.logs.proofs.Once.{tested_right}
use Rattle.naming.specs.Log.{beside}
use Rattle.naming.proofs.Once.{named_refused_told, named_bad_names, place_beside, log_beside}
use Rattle.naming.proofs.followed.Goals as goal

pub returns-in_err-check_before : goal.returns-in_err-check_before
returns-in_err-check_before c =
    let same : told c.from_residual.result ≡ told c.check_before.result = search rules in
    named_refused_told c.args.state c.args.log.now _ c.from_residual.result c.from_residual.ensures.0 (same ∙ c.check_before.ensures)

pub bad_names-requires : goal.bad_names-requires
bad_names-requires c =
    let passed : c.check_before.result ≡ Ok tt = search rules in
    (run_sound _ (tested_right _ c.args.log.now (sym c.check_before.ensures ∙ ap told passed))).values.few_tasks

pub returns-then-bad_names : goal.returns-then-bad_names
returns-then-bad_names c =
    let passed : c.check_before.result ≡ Ok tt = search rules in
    named_bad_names c.args.state c.args.log.now (sym c.check_before.ensures ∙ ap told passed) (sym c.bad_names.ensures ∙ c.if-bad_names.true)

pub returns : goal.returns
returns c =
    let state = c.args.state in
    let right = sym c.bad_names.ensures ∙ c.if-bad_names.false in
    place_beside state c.place_reached.result
    ∙ ap (beside state.names) c.place_reached.ensures
    ∙ sym (log_beside state.names state.run c.args.log.now right)
