-- Totals of weights and the weight of a stretch. Assumes nothing.
use Prim.Native.Nat.{ℕ, zero, suc, ◌+◌, ◌≤◌, ◌<◌}
use mathlib.Core.Path.{◌≡◌}
use mathlib.Core.List.{List}
use mathlib.Core.Logic.{◌⊎◌, inl, inr}
use native.Mathlib.Nat.{eq-or-lt_of_le}
use native.Mathlib.Numerals.{add-one}
use native.Mathlib.Omega.{arith}
use Rattle.units.specs.Limits.{cost_limit}
use Rattle.job.specs.Job.{weight_at, total, between}
use Rattle.job.specs.Working.Sound.{Sound}
use Rattle.job.specs.declared.Job.{Job}

-- one weight more
pub total_more : (w : List ℕ) (j : ℕ) → total w (j + 1) ≡ total w j + weight_at w j
unfolding total
total_more w j = rw add-one

pub total_mono : (w : List ℕ) (u v : ℕ) → u ≤ v → total w u ≤ total w v
total_mono w u zero h = let e : u ≡ 0 = omega arith in rw e (omega arith)
total_mono w u (suc v) h = go (eq-or-lt_of_le h) (total_mono w u v)
  where
    go : (u ≡ suc v) ⊎ (u < suc v) → (u ≤ v → total w u ≤ total w v) → total w u ≤ total w (suc v)
    go (inl e) ih = rw e (omega arith)
    go (inr l) ih = rw (← (add-one v), total_more w v) (omega (arith, ih (omega arith)))

-- a stretch within the chain weighs no more than the chain
pub between_total : (job : Job) (u v : ℕ) → v ≤ job.tasks → between job.weights u v ≤ total job.weights job.tasks
unfolding between
between_total job u v h = omega (arith, total_mono job.weights v job.tasks h)

pub between_range : (job : Job) → Sound job → (u v : ℕ) → v ≤ job.tasks → between job.weights u v ≤ cost_limit
between_range job s u v h = omega (arith, between_total job u v h, s.sum)
