-- `fields::put_field` meets its contract. The four bytes, lowest first, as one run of stores. Assumes nothing.
use native.Mathlib.Omega.{arith}
use mathlib.Core.Path.{◌∙◌}
use Rattle.fields.proofs.Stores.{field_stored}
use Rattle.fields.proofs.put_field.Goals as goal

pub returns : goal.returns
returns c = field_stored c.args.buffer.now c.args.at c.args.x (omega arith) (omega arith) (c.copy_from_slice.ensures.after ∙ c.to_le_bytes.ensures)
