-- `charges::saves_paid` meets its contract. The table's row decides; two costs of 32 bits cannot wrap. Assumes nothing.
use native.Mathlib.Omega.{arith}
use Rattle.costs.specs.Costs.{saves_paid}
use Rattle.charges.proofs.saves_paid.Goals as goal

pub overflow_add-result : goal.overflow_add-result
overflow_add-result c =
    let paid = c.paid in
    let paid2 = c.paid-2 in
    let cm-of = c.cm_of in
    let cd-of = c.cd_of in
    omega (arith, paid.ensures.most, paid2.ensures.most, cm-of.ensures.fits, cd-of.ensures.fits)

pub returns : goal.returns
unfolding saves_paid
returns c =
    let paid = c.paid in
    let paid2 = c.paid-2 in
    let cm-of = c.cm_of in
    let cd-of = c.cd_of in
    let payments = c.payments-pays in
    record {
      value = λ job e. rw (paid.ensures.value, paid2.ensures.value, cm-of.ensures.value job e, cd-of.ensures.value job e, payments.ensures);
      fits = omega (arith, paid.ensures.most, paid2.ensures.most, cm-of.ensures.fits, cd-of.ensures.fits);
    }
