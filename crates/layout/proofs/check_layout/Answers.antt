-- `layout::check_layout` meets its contract. The header's refusal decides, then that of the sections. Assumes nothing.
use mathlib.Core.Path.{◌≡◌, ◌∙◌}
use Rattle.std.proofs.Common.{Ok, rules}
use Rattle.refusals.specs.Checks.{told}
use Rattle.refusals.proofs.Checks.{refuses_first, passes_on}
use Rattle.header.specs.Header.{header_conditions}
use Rattle.layout.specs.Layout.{section_conditions}
use Rattle.header.proofs.Header.{header_numbered}
use Rattle.layout.proofs.check_layout.Goals as goal

pub returns-in_err-check_header : goal.returns-in_err-check_header
returns-in_err-check_header c =
    let same : told c.from_residual.result ≡ told c.check_header.result = search rules in
    refuses_first _ (header_conditions _) (section_conditions _) c.from_residual.ensures.0 (same ∙ c.check_header.ensures)

pub returns : goal.returns
returns c =
    let passed : c.check_header.result ≡ Ok tt = search rules in
    passes_on _ _ (header_conditions _) (section_conditions _) (header_numbered _) passed c.check_header.ensures c.check_sections.ensures
