-- `header::bad_form` meets its contract. The code is the definition of condition 2. Assumes nothing.
use mathlib.Core.Path.{refl}
use borrow.Author.Tests.{eq-eqb, ne_eqb}
use Rattle.header.specs.Header.{bad_form}
use Rattle.header.proofs.bad_form.Goals as goal

pub returns-then-form-ne-FORM : goal.returns-then-form-ne-FORM
unfolding bad_form
returns-then-form-ne-FORM c = rw (← c.byte-form.ensures.is, ne_eqb _ _ c.if-form-ne-FORM.true) refl

pub returns-else-form-ne-FORM : goal.returns-else-form-ne-FORM
unfolding bad_form
returns-else-form-ne-FORM c = rw (← c.byte-form.ensures.is, ← c.byte-zero.ensures.is, eq-eqb _ _ c.if-form-ne-FORM.false) refl
