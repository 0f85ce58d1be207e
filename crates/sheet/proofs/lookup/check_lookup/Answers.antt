-- `sheet::lookup::check_lookup` meets its contract. The layout's refusal decides, then whether the sheet has the kind. Assumes nothing.
use mathlib.Core.Path.{◌≡◌, ◌∙◌, sym, ap}
use mathlib.Core.Bool.{true, false}
use native.Mathlib.Omega.{arith}
use Rattle.std.proofs.Common.{Ok, rules}
use Rattle.refusals.specs.Checks.{told}
use Rattle.refusals.proofs.Checks.{told_positive}
use Rattle.sheet.proofs.Lookups.{lookup_refused, lookup_of}
use Rattle.sheet.proofs.lookup.check_lookup.Goals as goal

pub returns-in_err-check_layout : goal.returns-in_err-check_layout
returns-in_err-check_layout c =
    let same : told c.from_residual.result ≡ told c.check_layout.result = search rules in
    let refused = told_positive c.from_residual.result c.from_residual.ensures.0 in
    same ∙ (c.check_layout.ensures ∙ lookup_refused _ _ (omega (arith, same, refused, c.check_layout.ensures)))

pub returns-then-not-has_kind : goal.returns-then-not-has_kind
returns-then-not-has_kind c =
    let passed : c.check_layout.result ≡ Ok tt = search rules in
    lookup_of _ _ (sym c.check_layout.ensures ∙ ap told passed) false (sym c.has_kind.ensures ∙ c.if-not-has_kind.true)

pub returns : goal.returns
returns c =
    let passed : c.check_layout.result ≡ Ok tt = search rules in
    lookup_of _ _ (sym c.check_layout.ensures ∙ ap told passed) true (sym c.has_kind.ensures ∙ c.if-not-has_kind.false)
