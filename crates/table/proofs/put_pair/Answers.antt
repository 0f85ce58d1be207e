-- `table::put_pair` meets its contract. Four stores at the pair's place. Assumes nothing.
use Prim.Native.Nat.{◌+◌}
use mathlib.Core.Path.{◌≡◌}
use native.Mathlib.Omega.{arith}
use lib.ListN.{length-set}
use Rattle.table.specs.Working.Table.{pair_at, put, put_pair}
use Rattle.table.proofs.put_pair.Goals as goal

pub returns : goal.returns
unfolding put_pair put
returns c =
    let args = c.args in
    let pair-index = c.pair_index in
    let two : pair_at args.u args.v + 1 + 1 ≡ pair_at args.u args.v + 2 = omega arith in
    let three : pair_at args.u args.v + 2 + 1 ≡ pair_at args.u args.v + 3 = omega arith in
    rw (pair-index.ensures.value, two, three)
