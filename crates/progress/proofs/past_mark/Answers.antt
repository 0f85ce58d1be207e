-- `progress::past_mark` meets its contract. The mark's payments decide, row by row of the table. Assumes nothing.
use mathlib.Core.Path.{refl, ap, sym, ◌∙◌}
use native.Mathlib.Omega.{arith}
use borrow.Author.Tests.{not-true, not-false}
use Rattle.marks.specs.declared.Pays.{Pays}
use Rattle.progress.proofs.MarksPassed.{pays_marked, past_plain, past_verified, past_copied, past_stored}
use Rattle.progress.proofs.past_mark.Goals as goal

pub returns-then-not-pays : goal.returns-then-not-pays
returns-then-not-pays c =
    let payments = c.payments-pays in
    let if1 = c.if-not-pays in
    let pre = c.requires in
    let v = ap (λ (x : Pays). x.v) (sym payments.ensures) ∙ not-true _ if1.true in
    record { value = past_plain _ _ _ _ v; cap = omega (arith, pre.progress.time) }

pub arrival-q-requires : goal.arrival-q-requires
arrival-q-requires c =
    let payments = c.payments-pays in
    let if1 = c.if-not-pays in
    let pre = c.requires in
    let v = ap (λ (x : Pays). x.v) (sym payments.ensures) ∙ not-false _ if1.false in
    record { costs = pre.costs; carried = pre.carried; progress = pre.progress; allowed = pre.allowed (pays_marked _ v) }

pub returns-then-not-pays-2 : goal.returns-then-not-pays-2
returns-then-not-pays-2 c =
    let payments = c.payments-pays in
    let if1 = c.if-not-pays in
    let if2 = c.if-not-pays-2 in
    let arrival = c.arrival-q in
    let pre = c.requires in
    let v = ap (λ (x : Pays). x.v) (sym payments.ensures) ∙ not-false _ if1.false in
    let cm = ap (λ (x : Pays). x.cm) (sym payments.ensures) ∙ not-true _ if2.true in
    record {
      value = past_verified _ _ _ _ v arrival.ensures.value cm;
      cap = omega (arith, pre.progress.time, arrival.ensures.cap);
    }

pub cm_of-requires : goal.cm_of-requires
cm_of-requires c =
    let pre = c.requires in
    pre.carried.position

pub returns-then-not-pays-3 : goal.returns-then-not-pays-3
returns-then-not-pays-3 c =
    let payments = c.payments-pays in
    let if1 = c.if-not-pays in
    let if2 = c.if-not-pays-2 in
    let if3 = c.if-not-pays-3 in
    let cm-of = c.cm_of in
    let arrival = c.arrival-q in
    let pre = c.requires in
    let v = ap (λ (x : Pays). x.v) (sym payments.ensures) ∙ not-false _ if1.false in
    let cm = ap (λ (x : Pays). x.cm) (sym payments.ensures) ∙ not-false _ if2.false in
    let cd = ap (λ (x : Pays). x.cd) (sym payments.ensures) ∙ not-true _ if3.true in
    record {
      value = rw (cm-of.ensures.value c.args.job refl) (past_copied _ _ _ _ v arrival.ensures.value cm cd);
      cap = omega (arith, pre.progress.time, arrival.ensures.cap, cm-of.ensures.fits);
    }

pub cd_of-requires : goal.cd_of-requires
cd_of-requires c =
    let pre = c.requires in
    pre.carried.position

pub returns : goal.returns
returns c =
    let payments = c.payments-pays in
    let if1 = c.if-not-pays in
    let if2 = c.if-not-pays-2 in
    let if3 = c.if-not-pays-3 in
    let cm-of = c.cm_of in
    let cd-of = c.cd_of in
    let arrival = c.arrival-q in
    let pre = c.requires in
    let v = ap (λ (x : Pays). x.v) (sym payments.ensures) ∙ not-false _ if1.false in
    let cm = ap (λ (x : Pays). x.cm) (sym payments.ensures) ∙ not-false _ if2.false in
    let cd = ap (λ (x : Pays). x.cd) (sym payments.ensures) ∙ not-false _ if3.false in
    record {
      value = rw ((cm-of.ensures.value c.args.job refl), (cd-of.ensures.value c.args.job refl)) (past_stored _ _ _ _ v arrival.ensures.value cm cd);
      cap = omega (arith, pre.progress.time, arrival.ensures.cap, cm-of.ensures.fits, cd-of.ensures.fits);
    }
