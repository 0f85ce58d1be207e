-- `named::bad_names` meets its contract. Assumes nothing.
use mathlib.Core.Path.{sym, ◌∙◌}
use borrow.Author.Tests.{lt-ltb, le-ltb}
use Rattle.named.specs.Named.{bad_names}
use Rattle.named.proofs.bad_names.Goals as goal

pub returns-then-names-gt-NAME_LIMIT : goal.returns-then-names-gt-NAME_LIMIT
unfolding bad_names
returns-then-names-gt-NAME_LIMIT c = rw (lt-ltb _ _ c.if-names-gt-NAME_LIMIT.true)

pub returns-then-name_twice : goal.returns-then-name_twice
unfolding bad_names
returns-then-name_twice c = rw (le-ltb _ _ c.if-names-gt-NAME_LIMIT.false, sym c.name_twice.ensures ∙ c.if-name_twice.true)

pub returns : goal.returns
unfolding bad_names
returns c =
    rw (le-ltb _ _ c.if-names-gt-NAME_LIMIT.false, sym c.name_twice.ensures ∙ c.if-name_twice.false) c.some_place_broken.ensures
