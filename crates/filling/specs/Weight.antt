-- The weight of a stretch as a sum, which the search's filling runs up.
use Rattle.std.specs.Prelude.{ℕ, zero, suc, ◌+◌, List}
use Rattle.job.specs.Job.{weight_at}

-- the weights of the k tasks after position u, added: those of tasks u + 1 to u + k
unfoldable pub weight_after : List ℕ → (u k : ℕ) → ℕ
weight_after w u zero = 0
weight_after w u (suc k) = weight_after w u k + weight_at w (u + k)
