-- `charges::rm_of` meets its contract. It is one cost, or 0 at the start. Assumes nothing.
use Rattle.costs.specs.Costs.{rm_at}
use Rattle.charges.proofs.rm_of.Goals as goal

pub returns : goal.returns
unfolding rm_at
returns c =
    let unless-start = c.unless_start in
    record { value = λ job e. rw e unless-start.ensures.value; fits = unless-start.ensures.fits }
