-- `Text::put_number` meets its contract: a cycle of its own, whose measure is the number. The digits of the quotient by ten come first, then the rest. Assumes nothing.
use Rattle.lines.proofs.Text.+put_number.Given as goal

abbrev pub decreases-put_number : goal.decreases-put_number
decreases-put_number l = l.n
