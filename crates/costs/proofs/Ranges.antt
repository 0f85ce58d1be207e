-- Costs at each position are in range, and so are the products that make a stretch's factors. Assumes nothing.
use Prim.Native.Nat.{ℕ, ◌+◌, ◌*◌, ◌≤◌, ◌<◌}
use mathlib.Core.Path.{◌≡◌, refl, sym}
use mathlib.Core.Bool.{Bool, true, false, cond}
use native.Mathlib.Nat.{one-mul, mul-le-mul_left}
use native.Mathlib.Omega.{arith}
use borrow.Author.Tests.{leb-true}
use lib.Dec.{eqb}
use Rattle.units.specs.Unit.{unit, up, exponent_limit}
use Rattle.units.specs.Limits.{cost_limit}
use Rattle.units.specs.Working.Caps.{growth_cap, mean_growth_cap}
use Rattle.units.proofs.Laws.{up_cap}
use Rattle.growth.specs.Growth.{G, H}
use Rattle.growth.proofs.Laws.{G_cap, H_cap, G_unit, G_sum, G_none}
use Rattle.chain.specs.Working.Factors.{Factored}
use Rattle.chain.proofs.Products.{capped}
use Rattle.job.specs.Job.{exponent, is_allowed}
use Rattle.job.specs.Working.Sound.{CostsBounded, Sound}
use Rattle.job.specs.declared.Job.{Job}
use Rattle.job.specs.declared.Platform.{Platform}
use Rattle.costs.specs.Costs.{v_at, cm_at, cd_at, rd_at, rm_at}
use Rattle.costs.specs.Energy.{plain, ProductsFit}
use Rattle.costs.specs.Working.Factors.{factors_of, energy_factors_of, ReadyForFactors, ReadyForEnergy, FactorsIfAllowed}
use Rattle.costs.specs.declared.Powers.{Powers}

-- a cost that a test may leave out
skipped_range : (b : Bool) {x most : ℕ} → x ≤ most → cond b 0 x ≤ most
skipped_range true h = omega arith
skipped_range false h = h

skipped_product : (b : Bool) (k x : ℕ) {most : ℕ} → k * x ≤ most → k * cond b 0 x ≤ most
skipped_product true k x h = omega arith
skipped_product false k x h = h

module _ (job : Job) (costs : CostsBounded job.platform) where
  pub v_at_range : (v : ℕ) → v_at job v ≤ cost_limit
  unfolding v_at
  v_at_range v = costs.v

  pub rd_at_range : (d : ℕ) → rd_at job d ≤ 2 * cost_limit
  unfolding rd_at
  rd_at_range d = skipped_range (eqb d 0) (omega (arith, costs.rd, costs.rm))

  pub rm_at_range : (m : ℕ) → rm_at job m ≤ cost_limit
  unfolding rm_at
  rm_at_range m = skipped_range (eqb m 0) costs.rm

-- what is paid in energy at a position, and what its recoveries cost
module _ (powers : Powers) (job : Job) (products : ProductsFit powers job) where
  pub cm_energy : (v : ℕ) → powers.saving * cm_at job v ≤ cost_limit
  unfolding cm_at
  cm_energy v = products.cm

  pub cd_energy : (v : ℕ) → powers.saving * cd_at job v ≤ cost_limit
  unfolding cd_at
  cd_energy v = products.cd

  pub rd_energy : (d : ℕ) → powers.saving * rd_at job d ≤ 2 * cost_limit
  unfolding rd_at
  rd_energy d = skipped_product (eqb d 0) powers.saving _ (omega (arith, products.rd, products.rm))

  pub rm_energy : (m : ℕ) → powers.saving * rm_at job m ≤ cost_limit
  unfolding rm_at
  rm_energy m = skipped_product (eqb m 0) powers.saving _ products.rm

-- the powers 1 and 1 multiply nothing
pub plain_products : (job : Job) → Sound job → ProductsFit plain job
plain_products job sound =
    let costs = sound.costs in
    record {
      total = omega (arith, sound.sum);
      v = omega (arith, costs.v);
      cd = omega (arith, costs.cd);
      cm = omega (arith, costs.cm);
      rd = omega (arith, costs.rd);
      rm = omega (arith, costs.rm);
    }

-- the most that up(W × H(y_f)) + V may be, each times the power
abbrev pub effort_cap : ℕ
effort_cap = (mean_growth_cap + 1) * cost_limit

module _ {powers : Powers} {W v : ℕ} (ready : ReadyForEnergy powers W v) where
  -- W × H(y_f)
  pub mean_product : (y : ℕ) → W * H y ≤ cost_limit * mean_growth_cap * unit
  mean_product y = omega (arith, capped cost_limit (mean_growth_cap * unit) ready.weight_range (H_cap y))

  -- up(W × H(y_f)) times the power
  pub work_range : (y : ℕ) → powers.computing * up (W * H y) ≤ mean_growth_cap * cost_limit
  work_range y = omega (arith, mul-le-mul_left powers.computing mean, ready.weight_product)
    where
      mean : up (W * H y) ≤ W * mean_growth_cap
      mean = up_cap (W * mean_growth_cap) (omega (arith, mul-le-mul_left W (H_cap y)))

  -- and V times it
  pub effort_range : (y : ℕ) → powers.computing * up (W * H y) + powers.computing * v ≤ effort_cap
  effort_range y = omega (arith, work_range y, ready.v_product)

  -- G(y_s) times that
  pub work_product : (x y : ℕ) → G x * (powers.computing * up (W * H y) + powers.computing * v) ≤ growth_cap * effort_cap * unit
  work_product x y = omega (arith, capped (growth_cap * unit) effort_cap (G_cap x) (effort_range y))

  -- the factors of an allowed stretch
  pub energy_bounded : (p : Platform) → is_allowed p W ≡ true → Factored (energy_factors_of powers p W v)
  unfolding energy_factors_of is_allowed
  energy_bounded p e =
      let ys : ℕ = exponent p.silent W in
      let yf : ℕ = exponent p.failstop W in
      let within : ys + yf ≤ exponent_limit = leb-true _ _ e in
      record {
        work = omega (arith, up_cap (growth_cap * effort_cap) (work_product ys yf));
        silent = G_unit ys (omega arith);
        both = G_sum ys yf within;
        cap = G_cap (ys + yf);
      }

-- past the exponent limit G(y_s + y_f) is 0, and the other factors do not count
module _ (powers : Powers) (p : Platform) (W v : ℕ) (h : exponent_limit < exponent p.silent W + exponent p.failstop W) where
  pub both_none : (energy_factors_of powers p W v).both ≡ 0
  unfolding energy_factors_of
  both_none = G_none _ h

  pub none_allowed : FactorsIfAllowed (energy_factors_of powers p W v) (record { work = 0; silent = 0; both = 0 })
  none_allowed = record { both = sym both_none; silent = omega arith; all = λ n. absurd (n refl) }

-- by the powers 1 and 1 the factors are those of the time
pub plain_factors : (p : Platform) (W v : ℕ) → energy_factors_of plain p W v ≡ factors_of p W v
unfolding energy_factors_of factors_of
plain_factors p W v = rw (one-mul (up (W * H (exponent p.failstop W))), one-mul v)

module _ {W v : ℕ} (ready : ReadyForFactors W v) where
  pub plain_ready : ReadyForEnergy plain W v
  plain_ready =
      record {
        weight_range = ready.weight_range;
        weight_product = omega (arith, ready.weight_range);
        v_product = omega (arith, ready.v_range);
      }

  pub factors_bounded : (p : Platform) → is_allowed p W ≡ true → Factored (factors_of p W v)
  factors_bounded p e = rw (plain_factors p W v) at (energy_bounded plain_ready p e)
