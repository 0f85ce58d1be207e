-- `names::put` meets its contract. Assumes nothing.
use lib.Arith.{lt_of_le-ne}
use Rattle.names.specs.Names.{name_limit}
use Rattle.names.proofs.Entries.{put_same, put_new}
use Rattle.std.proofs.Common.{◌≡◌, length, arith}
use Rattle.names.proofs.put.Goals as goal

pub returns-then-slot-count : goal.returns-then-slot-count
returns-then-slot-count c =
    let names = c.args.names in
    let long : length names.entries ≡ name_limit = omega arith in
    put_new names long c.requires.few _ _ c.if-slot-count.true c.requires.room

pub returns-else-slot-count : goal.returns-else-slot-count
returns-else-slot-count c =
    let names = c.args.names in
    let long : length names.entries ≡ name_limit = omega arith in
    put_same names long c.requires.few _ _ (lt_of_le-ne c.requires.held c.if-slot-count.false)
