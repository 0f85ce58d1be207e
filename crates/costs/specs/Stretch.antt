-- Equation (4) for the job of a sheet, the chain that the job gives, and the time of a setting.
use Rattle.std.specs.Prelude.{ℕ, ◌+◌, ◌-◌, ◌*◌, List}
use Rattle.units.specs.Unit.{unit, up}
use Rattle.growth.specs.Growth.{G, H}
use Rattle.chain.specs.Chain.{Chain}
use Rattle.chain.specs.Time.{D}
use Rattle.job.specs.Job.{between, exponent, stretch_allowed}
use Rattle.job.specs.declared.Job.{Job}
use Rattle.marks.specs.Marks.{marks_of}
use Rattle.costs.specs.Costs.{v_at, cm_at, cd_at, rd_at, rm_at}

-- S over the stretch from u to v, whose weight is W, with the last memory copy m, the last disk copy d, and the times Q' and M'.
-- The growth of both exponents is G of their sum, not a product of growths
unfoldable pub S : Job → (u v m d Q' M' : ℕ) → ℕ
S job u v m d Q' M' =
    let W : ℕ = between job.weights u v in
    let ys : ℕ = exponent job.platform.silent W in
    let yf : ℕ = exponent job.platform.failstop W in
    up (G ys * (up (W * H yf) + v_at job v))
    + up ((G (ys + yf) - G ys) * (rd_at job d + M'))
    + up ((G (ys + yf) - unit) * Q')
    + up ((G ys - unit) * rm_at job m)

-- the chain of a job
unfoldable pub chain_of : Job → Chain
chain_of job = record { allowed = stretch_allowed job; S = S job; cm = cm_at job; cd = cd_at job }

-- the time of a setting of n marks: D(n), a whole number without limit
unfoldable pub time_of : Job → List ℕ → ℕ
time_of job l = D (chain_of job) (marks_of l) job.tasks
