-- `writing::put_sheet` meets its contract. The header and the two sections, one after the other. Assumes nothing.
use mathlib.Core.Path.{◌∙◌}
use Rattle.kinds.proofs.Lengths.{weights_long}
use Rattle.writing.proofs.Stores.{header_ready, sheet_stored}
use Rattle.writing.proofs.put_sheet.Goals as goal

pub put_header-requires : goal.put_header-requires
put_header-requires c =
    header_ready _ _ c.requires.few (c.length_of.ensures ∙ weights_long _) c.requires.room

pub returns : goal.returns
returns c =
    c.put_fields.ensures
    ∙ rw (
      c.put_section-2.ensures,
      c.put_section.ensures,
      c.put_header.ensures,
      c.fields_of-platform.ensures,
      c.length_of.ensures,
      weights_long,
    )
    (sheet_stored c.args.p c.args.early.now c.args.late.now c.args.buffer.now c.requires.room)
