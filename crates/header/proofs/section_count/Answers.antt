-- `header::section_count` meets its contract. The code is the definition. Assumes nothing.
use mathlib.Core.Path.{refl}
use lib.Dec.{lit<}
use Rattle.header.specs.Header.{sections}
use Rattle.header.proofs.section_count.Goals as goal

pub returns : goal.returns
unfolding sections
returns c = record { is = refl; range = lit< tt }
