-- The heaviest task, which decides check 8.
use Rattle.std.specs.Prelude.{ℕ, zero, suc, cond, List, ltb}
use Rattle.job.specs.Job.{weight_at}

-- the weight of the heaviest of the first n tasks
unfoldable pub heaviest : List ℕ → ℕ → ℕ
heaviest w zero = 0
heaviest w (suc n) = cond (ltb (heaviest w n) (weight_at w n)) (weight_at w n) (heaviest w n)
