-- `charges::v_of` meets its contract. Every position has the platform's cost. Assumes nothing.
use Rattle.costs.specs.Costs.{v_at}
use borrow.Author.Rules.{rules}
use Rattle.charges.proofs.v_of.Goals as goal

pub returns : goal.returns
unfolding v_at
returns c = record { value = λ job e. rw e; fits = search rules }
