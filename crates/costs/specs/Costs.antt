-- The costs of a job at each position. Position 0 counts as saved on disk and in memory, with recovery cost 0.
use Rattle.std.specs.Prelude.{ℕ, ◌+◌, cond, eqb}
use Rattle.job.specs.declared.Job.{Job}
use Rattle.marks.specs.Pays.{pays_of}

-- V at v
unfoldable pub v_at : Job → ℕ → ℕ
v_at job v = job.platform.v

-- C_M at v
unfoldable pub cm_at : Job → ℕ → ℕ
cm_at job v = job.platform.cm

-- C_D at v
unfoldable pub cd_at : Job → ℕ → ℕ
cd_at job v = job.platform.cd

-- R_D': R_D + R_M, since a disk recovery refills memory (request 102), or 0 if d = 0
unfoldable pub rd_at : Job → ℕ → ℕ
rd_at job d = cond (eqb d 0) 0 (job.platform.rd + job.platform.rm)

-- R_M': R_M, or 0 if m = 0
unfoldable pub rm_at : Job → ℕ → ℕ
rm_at job m = cond (eqb m 0) 0 job.platform.rm

-- what the mark k, passed at v, pays for its verification and for its copies
unfoldable pub verify_paid : Job → (k v : ℕ) → ℕ
verify_paid job k v = cond (pays_of k).v (v_at job v) 0

unfoldable pub saves_paid : Job → (k v : ℕ) → ℕ
saves_paid job k v = cond (pays_of k).cm (cm_at job v) 0 + cond (pays_of k).cd (cd_at job v) 0
