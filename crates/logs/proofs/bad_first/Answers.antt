-- `logs::bad_first` meets its contract. A log with a byte has a first record. Assumes nothing.
use mathlib.Core.Path.{◌≡◌, sym, ◌∙◌}
use mathlib.Core.Bool.{true, false}
use native.Mathlib.Omega.{arith}
use borrow.Author.Tests.{eqb-false}
use lib.Dec.{eqb}
use lib.ListN.{length}
use Rattle.logs.specs.Log.{record_count}
use Rattle.logs.specs.Working.Once.{bad_first}
use Rattle.logs.proofs.Once.{none_told}
use Rattle.logs.proofs.bad_first.Goals as goal

pub record_at-requires : goal.record_at-requires
unfolding record_count
record_at-requires c =
    let some : eqb (length c.args.log.now) 0 ≡ false = sym c.is_empty.ensures ∙ c.if-not-is_empty.true in
    omega (arith, eqb-false _ _ some)

pub returns-then-not-is_empty : goal.returns-then-not-is_empty
unfolding bad_first
returns-then-not-is_empty c =
    let some : eqb (length c.args.log.now) 0 ≡ false = sym c.is_empty.ensures ∙ c.if-not-is_empty.true in
    rw (some, ← c.record_at.ensures) (none_told _ _ _ c.event_of.ensures c.is_none.ensures)

pub returns-else-not-is_empty : goal.returns-else-not-is_empty
unfolding bad_first
returns-else-not-is_empty c =
    let empty : eqb (length c.args.log.now) 0 ≡ true = sym c.is_empty.ensures ∙ c.if-not-is_empty.false in
    rw (empty, c.if-not-is_empty.false)
