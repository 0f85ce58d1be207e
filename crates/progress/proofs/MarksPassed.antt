-- One law for each answer of the step past a mark. Assumes nothing.
use Prim.Native.Nat.{ℕ, zero, suc, ◌+◌, ◌<◌}
use mathlib.Core.Path.{◌≡◌}
use mathlib.Core.Bool.{true, false, false≢true}
use native.Mathlib.Omega.{arith}
use Rattle.job.specs.declared.Job.{Job}
use Rattle.marks.specs.Pays.{pays_of, table}
use Rattle.costs.specs.Costs.{cm_at, cd_at}
use Rattle.progress.specs.Working.Progress.{arrival_of, past_mark}
use Rattle.progress.specs.declared.Progress.{Progress}

-- only a mark pays for a verification
pub pays_marked : (k : ℕ) → (pays_of k).v ≡ true → 0 < k
unfolding pays_of table
pays_marked zero e = absurd (false≢true e)
pays_marked (suc k) e = omega arith

module _ (job : Job) (s : Progress) (v mark : ℕ) where
  pub past_plain : (pays_of mark).v ≡ false → s ≡ past_mark job s v mark
  unfolding past_mark
  past_plain e = rw e

  module _ {q : ℕ} (marked : (pays_of mark).v ≡ true) (arrived : q ≡ arrival_of job s v) where
    pub past_verified : (pays_of mark).cm ≡ false → record { weight = 0; m = s.m; d = s.d; q = q; mt = s.mt; dt = s.dt } ≡ past_mark job s v mark
    unfolding past_mark
    past_verified e = rw (marked, e, arrived)

    pub past_copied : (pays_of mark).cm ≡ true → (pays_of mark).cd ≡ false
        → record { weight = 0; m = v; d = s.d; q = 0; mt = s.mt + q + cm_at job v; dt = s.dt } ≡ past_mark job s v mark
    unfolding past_mark
    past_copied e z = rw (marked, e, z, arrived)

    pub past_stored : (pays_of mark).cm ≡ true → (pays_of mark).cd ≡ true
        → record { weight = 0; m = v; d = v; q = 0; mt = 0; dt = s.dt + (s.mt + q + cm_at job v) + cd_at job v } ≡ past_mark job s v mark
    unfolding past_mark
    past_stored e z = rw (marked, e, z, arrived)
