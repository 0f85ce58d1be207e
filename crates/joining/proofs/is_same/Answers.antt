-- `joining::is_same` meets its contract. The seven fields, compared in their order. Assumes nothing.
use mathlib.Core.Path.{refl, ◌∙◌}
use Rattle.lists.proofs.Ranges.{pointwise_in}
use Rattle.writing.specs.Form.{platform_fields}
use Rattle.joining.specs.Join.{same_platform}
use Rattle.joining.proofs.is_same.Goals as goal

pub returns : goal.returns
unfolding same_platform
returns c = rw (c.fields_of-a.ensures, c.fields_of-b.ensures) at c.eq.ensures ∙ pointwise_in (platform_fields c.args.p) (platform_fields c.args.q) refl
