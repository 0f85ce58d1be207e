-- `output::refused_text` meets its contract. The line of the word and the number. Assumes nothing.
use Rattle.output.specs.Texts.{refused_text}
use Rattle.output.proofs.refused_text.Goals as goal

pub returns : goal.returns
unfolding refused_text
returns c = c.numbered_text.ensures
