-- `writing::put_section` meets its contract. The kind, then the fields. Assumes nothing.
use mathlib.Core.Path.{refl, ◌∙◌}
use native.Mathlib.Numerals.{add-one}
use lib.ListN.{length-set}
use lib.Seq.{length-sets}
use Rattle.writing.proofs.put_section.Goals as goal

pub shape_of-buffer : goal.shape_of-buffer
shape_of-buffer c = rw (c.put_fields.ensures, length-sets, length-set) refl

pub returns : goal.returns
returns c = c.put_fields.ensures ∙ rw add-one refl
