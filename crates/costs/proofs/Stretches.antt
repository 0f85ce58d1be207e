-- S of a job, in time and in energy, from the factors of the stretch: the first part does not depend on the last copies and times, so it is worked out once.
-- By the powers 1 and 1 energy is time. Assumes nothing.
use Prim.Native.Nat.{ℕ, ◌+◌, ◌-◌, ◌*◌, ◌≤◌}
use mathlib.Core.Path.{◌≡◌, refl, ap}
use mathlib.Core.Logic.{◌≢◌}
use mathlib.Core.Bool.{Bool, true, false, not}
use native.Mathlib.Nat.{le_trans, one-mul, mul-le-mul_left}
use native.Mathlib.Omega.{arith}
use borrow.Author.Tests.{leb-false, eq-eqb, ne_eqb}
use lib.Dec.{eqb}
use Rattle.units.specs.Unit.{unit}
use Rattle.units.proofs.Laws.{up_mono}
use Rattle.chain.specs.declared.Factors.{Factors}
use Rattle.chain.specs.Working.Factors.{stretch_of, Factored}
use Rattle.chain.specs.Working.Same.{Same}
use Rattle.chain.specs.Working.Search.{Rising}
use Rattle.job.specs.Job.{between, is_allowed, stretch_allowed}
use Rattle.job.specs.Working.Sound.{Sound}
use Rattle.job.proofs.Weights.{between_total, between_range}
use Rattle.job.specs.declared.Job.{Job}
use Rattle.costs.specs.Costs.{v_at, cm_at, cd_at, rd_at, rm_at}
use Rattle.costs.specs.Stretch.{S, chain_of}
use Rattle.costs.specs.Energy.{energy_s, energy_chain, plain, ProductsFit}
use Rattle.costs.specs.Working.Factors.{factors_of, factors_at, energy_factors_of, energy_factors_at, ReadyForFactors, ReadyForEnergy}
use Rattle.costs.specs.declared.Powers.{Powers}
use Rattle.costs.proofs.Ranges.{v_at_range, plain_products, energy_bounded, both_none, plain_factors}

pub S_factors : (job : Job) (u v m d Q' M' : ℕ)
    → S job u v m d Q' M' ≡ stretch_of (factors_at job u v) (record { disk = rd_at job d + M'; memory = rm_at job m }) Q'
unfolding S stretch_of factors_of
S_factors job u v m d Q' M' = refl

-- the same of S in energy
pub energy_factors : (powers : Powers) (job : Job) (u v m d Q' M' : ℕ)
    → energy_s powers job u v m d Q' M'
    ≡ stretch_of (energy_factors_at powers job u v) (record { disk = powers.saving * rd_at job d + M'; memory = powers.saving * rm_at job m }) Q'
unfolding energy_s stretch_of energy_factors_of
energy_factors powers job u v m d Q' M' = refl

-- G(y_s + y_f) is 0 just where the stretch is not allowed, and elsewhere the factors have their caps
module _ (powers : Powers) (job : Job) (sound : Sound job) (products : ProductsFit powers job) (u v : ℕ) (h : v ≤ job.tasks) where
  pub energy_ready : ReadyForEnergy powers (between job.weights u v) (v_at job v)
  unfolding between v_at
  energy_ready =
      record {
        weight_range = between_range job sound u v h;
        weight_product = le_trans (mul-le-mul_left powers.computing (between_total job u v h)) products.total;
        v_product = products.v;
      }

  allowed_factored : stretch_allowed job u v ≡ true → Factored (energy_factors_at powers job u v)
  unfolding stretch_allowed
  allowed_factored e = energy_bounded energy_ready job.platform e

  not_allowed : stretch_allowed job u v ≡ false → (energy_factors_at powers job u v).both ≡ 0
  unfolding stretch_allowed is_allowed
  not_allowed e = both_none _ _ _ _ (leb-false _ _ e)

  pub energy_decides : not (eqb (energy_factors_at powers job u v).both 0) ≡ stretch_allowed job u v
  energy_decides = by (stretch_allowed job u v) refl
    where
      by : (b : Bool) → stretch_allowed job u v ≡ b → not (eqb (energy_factors_at powers job u v).both 0) ≡ b
      by true e =
          let f = allowed_factored e in
          ap not (ne_eqb (energy_factors_at powers job u v).both 0 (λ z. omega (arith, f.silent, f.both)))
      by false e = ap not (eq-eqb (energy_factors_at powers job u v).both 0 (not_allowed e))

  pub energy_factored : (energy_factors_at powers job u v).both ≢ 0 → Factored (energy_factors_at powers job u v)
  energy_factored n = by (stretch_allowed job u v) refl
    where
      by : (b : Bool) → stretch_allowed job u v ≡ b → Factored (energy_factors_at powers job u v)
      by true e = allowed_factored e
      by false e = absurd (n (not_allowed e))

-- and so of the factors in time
module _ (job : Job) (sound : Sound job) (u v : ℕ) (h : v ≤ job.tasks) where
  pub factors_ready : ReadyForFactors (between job.weights u v) (v_at job v)
  factors_ready = record { weight_range = between_range job sound u v h; v_range = v_at_range job sound.costs v }

  same : energy_factors_at plain job u v ≡ factors_at job u v
  same = plain_factors job.platform (between job.weights u v) (v_at job v)

  pub both_decides : not (eqb (factors_at job u v).both 0) ≡ stretch_allowed job u v
  both_decides = rw same at (energy_decides plain job sound (plain_products job sound) u v h)

  pub both_factored : (factors_at job u v).both ≢ 0 → Factored (factors_at job u v)
  both_factored = rw same at (energy_factored plain job sound (plain_products job sound) u v h)

-- S rises with Q' and M'
pub S_rises : (job : Job) → Rising (chain_of job)
unfolding chain_of S factors_of
S_rises job u v m d s t a b h l =
    let disk : rd_at job d + a ≤ rd_at job d + b = omega arith in
    let f : Factors = factors_at job u v in
    omega (arith, up_mono (mul-le-mul_left (f.both - f.silent) disk), up_mono (mul-le-mul_left (f.both - unit) h))

pub energy_rises : (powers : Powers) (job : Job) → Rising (energy_chain powers job)
unfolding energy_chain energy_s energy_factors_of
energy_rises powers job u v m d s t a b h l =
    let disk : powers.saving * rd_at job d + a ≤ powers.saving * rd_at job d + b = omega arith in
    let f : Factors = energy_factors_at powers job u v in
    omega (arith, up_mono (mul-le-mul_left (f.both - f.silent) disk), up_mono (mul-le-mul_left (f.both - unit) h))

-- by the powers 1 and 1 the chain in energy is the chain
pub plain_same : (n : ℕ) (job : Job) → Same n (energy_chain plain job) (chain_of job)
unfolding energy_chain chain_of
plain_same n job =
    record {
      allowed = λ u v a b. refl;
      stretch =
          λ u v m d Q' M' x y a b.
          rw (
            energy_factors plain job u v m d Q' M',
            S_factors job u v m d Q' M',
            plain_factors job.platform (between job.weights u v) (v_at job v),
            one-mul (rd_at job d),
            one-mul (rm_at job m),
          );
      cm = λ v a b. one-mul (cm_at job v);
      cd = λ v a b. one-mul (cd_at job v);
    }
