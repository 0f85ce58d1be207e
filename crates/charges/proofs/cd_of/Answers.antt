-- `charges::cd_of` meets its contract. Every position has the platform's cost. Assumes nothing.
use Rattle.costs.specs.Costs.{cd_at}
use borrow.Author.Rules.{rules}
use Rattle.charges.proofs.cd_of.Goals as goal

pub returns : goal.returns
unfolding cd_at
returns c = record { value = λ job e. rw e; fits = search rules }
