-- `charges::unless_start` meets its contract. Each return rewrites the test by the branch that led there. Assumes nothing.
use borrow.Author.Tests.{eq-eqb, ne_eqb}
use borrow.Author.Rules.{rules}
use Rattle.charges.proofs.unless_start.Goals as goal

pub returns-then-position-eq0 : goal.returns-then-position-eq0
returns-then-position-eq0 c = record { value = rw (eq-eqb _ _ c.if-position-eq0.true); fits = search rules }

pub returns : goal.returns
returns c = record { value = rw (ne_eqb _ _ c.if-position-eq0.false); fits = search rules }
