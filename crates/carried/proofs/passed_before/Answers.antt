-- `carried::passed_before` meets its contract, by the branch. Assumes nothing.
use native.Mathlib.Numerals.{add-one}
use borrow.Author.Tests.{eq-eqb, ne_eqb}
use Rattle.carried.proofs.passed_before.Goals as goal

pub returns-then-place-eq0 : goal.returns-then-place-eq0
returns-then-place-eq0 c =
    let if1 = c.if-place-eq0 in
    rw (eq-eqb _ _ if1.true, add-one)

pub returns : goal.returns
returns c = rw (ne_eqb _ _ c.if-place-eq0.false)
