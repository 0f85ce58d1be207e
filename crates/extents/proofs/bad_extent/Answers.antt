-- `extents::bad_extent` meets its contract. Each return rewrites the definition by the tests before it; the sum of two 32-bit numbers cannot wrap. Assumes nothing.
use borrow.Author.Tests.{eq-eqb, ne_eqb, lt-ltb, le-ltb}
use Rattle.extents.specs.Extents.{bad_extent}
use Rattle.extents.proofs.bad_extent.Goals as goal

pub returns-then-size-eq0 : goal.returns-then-size-eq0
unfolding bad_extent
returns-then-size-eq0 c =
    rw (← c.size_of-size.ensures.is, eq-eqb _ _ c.if-size-eq0.true)

pub returns-then-offset-least : goal.returns-then-offset-least
unfolding bad_extent
returns-then-offset-least c =
    rw (
      ← c.size_of-size.ensures.is,
      ← c.offset_of-offset.ensures.is,
      ← c.least_offset-least.ensures.is,
      ne_eqb _ _ c.if-size-eq0.false,
      lt-ltb _ _ c.if-offset-least.true,
    )

pub returns-then-offset-before : goal.returns-then-offset-before
unfolding bad_extent
returns-then-offset-before c =
    rw (
      ← c.size_of-size.ensures.is,
      ← c.offset_of-offset.ensures.is,
      ← c.least_offset-least.ensures.is,
      ← c.end_before-before.ensures,
      ne_eqb _ _ c.if-size-eq0.false,
      le-ltb _ _ c.if-offset-least.false,
      lt-ltb _ _ c.if-offset-before.true,
    )

pub returns : goal.returns
unfolding bad_extent
returns c =
    rw (
      ← c.size_of-size.ensures.is,
      ← c.offset_of-offset.ensures.is,
      ← c.least_offset-least.ensures.is,
      ← c.end_before-before.ensures,
      ne_eqb _ _ c.if-size-eq0.false,
      le-ltb _ _ c.if-offset-least.false,
      le-ltb _ _ c.if-offset-before.false,
    )
