-- `table::pair_index` meets its contract. The code works out the triangle by its product. Assumes nothing.
use native.Mathlib.Omega.{arith}
use Rattle.table.proofs.Pairs.{pair_within, pair_index_is, far_product}
use Rattle.table.proofs.pair_index.Goals as goal

pub returns : goal.returns
returns c =
    let pre = c.requires in
    record { value = pair_index_is _ _ pre; within = rw (pair_index_is _ _ pre) (pair_within _ _ pre) }
