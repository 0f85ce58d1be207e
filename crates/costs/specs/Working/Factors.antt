-- The factors of a stretch of a job, worked out once for all its last copies and times.
use Rattle.std.specs.Prelude.{ℕ, ◌+◌, ◌*◌, ◌≤◌, ◌≡◌, ◌≢◌}
use Rattle.units.specs.Unit.{up}
use Rattle.units.specs.Limits.{cost_limit}
use Rattle.growth.specs.Growth.{G, H}
use Rattle.chain.specs.declared.Factors.{Factors}
use Rattle.job.specs.Job.{between, exponent}
use Rattle.job.specs.declared.Job.{Job}
use Rattle.job.specs.declared.Platform.{Platform}
use Rattle.costs.specs.Costs.{v_at}
use Rattle.costs.specs.declared.Powers.{Powers}

-- of a stretch of weight W whose far end costs v to verify
unfoldable pub factors_of : Platform → (W v : ℕ) → Factors
factors_of p W v =
    record {
      work = up (G (exponent p.silent W) * (up (W * H (exponent p.failstop W)) + v));
      silent = G (exponent p.silent W);
      both = G (exponent p.silent W + exponent p.failstop W);
    }

-- of the stretch from u to v
abbrev pub factors_at : Job → ℕ → ℕ → Factors
factors_at job u v = factors_of job.platform (between job.weights u v) (v_at job v)

-- a weight and a cost in range
pub record ReadyForFactors (weight v : ℕ) : Type 0 where
  pub weight_range : weight ≤ cost_limit
  pub v_range : v ≤ cost_limit

-- the same in energy
unfoldable pub energy_factors_of : Powers → Platform → (W v : ℕ) → Factors
energy_factors_of powers p W v =
    record {
      work = up (G (exponent p.silent W) * (powers.computing * up (W * H (exponent p.failstop W)) + powers.computing * v));
      silent = G (exponent p.silent W);
      both = G (exponent p.silent W + exponent p.failstop W);
    }

abbrev pub energy_factors_at : Powers → Job → ℕ → ℕ → Factors
energy_factors_at powers job u v = energy_factors_of powers job.platform (between job.weights u v) (v_at job v)

pub record ReadyForEnergy (powers : Powers) (weight v : ℕ) : Type 0 where
  pub weight_range : weight ≤ cost_limit
  pub weight_product : powers.computing * weight ≤ cost_limit
  pub v_product : powers.computing * v ≤ cost_limit

-- the factors f where G(y_s + y_f) is not 0, so that the stretch is allowed; elsewhere `both` alone counts, and is 0
pub record FactorsIfAllowed (f r : Factors) : Type 0 where
  pub both : r.both ≡ f.both
  pub silent : r.silent ≤ f.silent
  pub all : r.both ≢ 0 → r ≡ f
