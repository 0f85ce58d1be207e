-- `header::bad_sections` meets its contract. The code is the definition of condition 4. Assumes nothing.
use Rattle.header.specs.Header.{bad_sections}
use Rattle.header.proofs.bad_sections.Goals as goal

pub returns : goal.returns
unfolding bad_sections
returns c = rw (← c.byte-count.ensures.is, ← c.section_count.ensures.is)
