-- Request 106: the energy of a setting. It is D(n) of a chain whose work and costs are multiplied by two powers, and its S rises with Q' and M'
-- (`energy_rises`), so what is proved of such chains holds for it.
use Rattle.std.specs.Prelude.{ℕ, ◌+◌, ◌-◌, ◌*◌, ◌≤◌, List}
use Rattle.units.specs.Unit.{unit, up}
use Rattle.units.specs.Limits.{cost_limit}
use Rattle.growth.specs.Growth.{G, H}
use Rattle.chain.specs.Chain.{Chain}
use Rattle.chain.specs.Time.{D}
use Rattle.job.specs.Job.{total, between, exponent, stretch_allowed}
use Rattle.job.specs.declared.Job.{Job}
use Rattle.marks.specs.Marks.{marks_of}
use Rattle.costs.specs.Costs.{v_at, cm_at, cd_at, rd_at, rm_at}
use Rattle.costs.specs.declared.Powers.{Powers}

-- 'In S the rounded W × H(y_f) and V are multiplied by the first, recoveries by the second'; Q' and M' are energies already, and
-- 'Exponents keep the plain weights'
unfoldable pub energy_s : Powers → Job → (u v m d Q' M' : ℕ) → ℕ
energy_s p job u v m d Q' M' =
    let W : ℕ = between job.weights u v in
    let ys : ℕ = exponent job.platform.silent W in
    let yf : ℕ = exponent job.platform.failstop W in
    up (G ys * (p.computing * up (W * H yf) + p.computing * v_at job v))
    + up ((G (ys + yf) - G ys) * (p.saving * rd_at job d + M'))
    + up ((G (ys + yf) - unit) * Q')
    + up ((G ys - unit) * (p.saving * rm_at job m))

-- the chain of a job in energy: 'C_M and C_D by the second', and the same stretches are allowed
unfoldable pub energy_chain : Powers → Job → Chain
energy_chain p job =
    record {
      allowed = stretch_allowed job;
      S = energy_s p job;
      cm = λ v. p.saving * cm_at job v;
      cd = λ v. p.saving * cd_at job v;
    }

-- the energy of a setting of n marks: D(n) of that chain, a whole number without limit
unfoldable pub energy_of : Powers → Job → List ℕ → ℕ
energy_of p job l = D (energy_chain p job) (marks_of l) job.tasks

-- the powers 1 and 1
abbrev pub plain : Powers
plain = record { computing = 1; saving = 1 }

-- no 'product of the total weight or of any cost with its power passes 2^30'
pub record ProductsFit (powers : Powers) (job : Job) : Type 0 where
  pub total : powers.computing * total job.weights job.tasks ≤ cost_limit
  pub v : powers.computing * job.platform.v ≤ cost_limit
  pub cd : powers.saving * job.platform.cd ≤ cost_limit
  pub cm : powers.saving * job.platform.cm ≤ cost_limit
  pub rd : powers.saving * job.platform.rd ≤ cost_limit
  pub rm : powers.saving * job.platform.rm ≤ cost_limit
