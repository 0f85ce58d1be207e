-- `kinds::length_of` meets its contract. Each return rewrites the definition by the tests before it. Assumes nothing.
use borrow.Author.Tests.{eq-eqb, ne_eqb}
use Rattle.kinds.specs.Kinds.{length_of}
use Rattle.kinds.proofs.length_of.Goals as goal

pub returns-then-k-eq-PLATFORM_KIND : goal.returns-then-k-eq-PLATFORM_KIND
unfolding length_of
returns-then-k-eq-PLATFORM_KIND c = rw (eq-eqb _ _ c.if-k-eq-PLATFORM_KIND.true)

pub returns-then-k-eq-WEIGHTS_KIND : goal.returns-then-k-eq-WEIGHTS_KIND
unfolding length_of
returns-then-k-eq-WEIGHTS_KIND c = rw (ne_eqb _ _ c.if-k-eq-PLATFORM_KIND.false, eq-eqb _ _ c.if-k-eq-WEIGHTS_KIND.true)

pub returns : goal.returns
unfolding length_of
returns c = rw (ne_eqb _ _ c.if-k-eq-PLATFORM_KIND.false, ne_eqb _ _ c.if-k-eq-WEIGHTS_KIND.false)
