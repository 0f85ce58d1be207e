-- `charges::verify_paid` meets its contract. The table's row decides. Assumes nothing.
use native.Mathlib.Omega.{arith}
use Rattle.costs.specs.Costs.{verify_paid}
use Rattle.charges.proofs.verify_paid.Goals as goal

pub returns : goal.returns
unfolding verify_paid
returns c =
    let paid = c.paid in
    let v-of = c.v_of in
    let payments = c.payments-pays in
    record {
      value = λ job e. rw (paid.ensures.value, v-of.ensures.value job e, payments.ensures);
      fits = omega (arith, paid.ensures.most, v-of.ensures.fits);
    }
