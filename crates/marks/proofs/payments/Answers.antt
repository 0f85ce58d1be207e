-- `marks::payments` meets its contract. A byte above 3 has the first row; any other has its own. Assumes nothing.
use mathlib.Core.Path.{refl, sym}
use lib.ListN.{get_or-eq_default}
use Rattle.marks.specs.Pays.{row, table, pays_of}
use mathlib.Core.Bool.{false}
use Rattle.marks.proofs.payments.Goals as goal

pub returns-then-mark-gt-DISK : goal.returns-then-mark-gt-DISK
unfolding pays_of table
returns-then-mark-gt-DISK c = sym (get_or-eq_default table (row false false false) c.if-mark-gt-DISK.true)

pub returns : goal.returns
unfolding pays_of table
returns c = refl
