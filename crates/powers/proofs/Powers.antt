-- Check 29: what a test of a power has found, the first refusal of a plan by energy, and what it means that 29 does not hold. Assumes nothing.
use native.Mathlib.Omega.{arith}
use lib.ListN.{get_or}
use Prim.Native.Nat.{ℕ, ◌*◌, ◌≤◌, ◌^◌}
use mathlib.Core.Path.{◌≡◌, sym, ◌∙◌}
use mathlib.Core.Bool.{Bool, false}
use mathlib.Core.Logic.{◌↔◌}
use Rattle.lists.specs.Lists.{some}
use borrow.Author.Tests.{le-ltb, ltb-false}
use lib.Dec.{ltb}
use Rattle.units.specs.Limits.{cost_limit}
use Rattle.lists.proofs.Lists.{or_fails, some_fails}
use Rattle.units.specs.Limits.{task_limit}
use Rattle.job.specs.Job.{total}
use Rattle.job.specs.declared.Job.{Job}
use Rattle.costs.specs.declared.Powers.{Powers}
use Rattle.powers.specs.Powers.{least_power, most_power, out_of_range, passes, bad_computing, bad_saving, bad_powers, PowersFit, saving_costs, saving_count, saving_passes}
use Rattle.powers.specs.Working.Ready.{ReadyForProduct}

-- a power in its range
module _ (power : ℕ) where
  range_passed : out_of_range power ≡ false → (least_power ≤ power) × (power ≤ most_power)
  unfolding out_of_range
  range_passed e =
      let tests = or_fails (ltb power least_power) (ltb most_power power) e in
      (ltb-false power least_power tests.0, ltb-false most_power power tests.1)

  range_fits : least_power ≤ power → power ≤ most_power → out_of_range power ≡ false
  unfolding out_of_range
  range_fits h k = rw (le-ltb power least_power h, le-ltb most_power power k)

  -- its product with an amount
  product_passed : (amount : ℕ) → passes power amount ≡ false → power * amount ≤ cost_limit
  unfolding passes
  product_passed amount e = ltb-false cost_limit (power * amount) e

  product_fits : (amount : ℕ) → power * amount ≤ cost_limit → passes power amount ≡ false
  unfolding passes
  product_fits amount h = le-ltb cost_limit (power * amount) h

-- a power that was found in its range, and its product, which can be worked out
pub range_most : {power : ℕ} {r : Bool} → r ≡ out_of_range power → r ≡ false → power ≤ most_power
range_most {power} e h = (range_passed power (sym e ∙ h)).1

pub product_ready : {power amount : ℕ} {r : Bool} → r ≡ out_of_range power → r ≡ false → amount ≤ task_limit * 2 ^ 32 → ReadyForProduct power amount
product_ready e h k = record { power_range = range_most e h; amount_range = k }

-- 29 does not hold exactly where both powers are 1 to 16 and no product passes 2^30
module _ (powers : Powers) (job : Job) where
  passed : bad_powers powers job ≡ false → PowersFit powers job
  unfolding bad_powers bad_computing bad_saving saving_passes some
  passed e =
      let c : ℕ = powers.computing in
      let s : ℕ = powers.saving in
      let all = or_fails (bad_computing c job) (bad_saving s job) e in
      let computing = or_fails (out_of_range c) _ all.0 in
      let work = or_fails (passes c (total job.weights job.tasks)) _ computing.1 in
      let saving = or_fails (out_of_range s) _ all.1 in
      let product = some_fails saving_count (λ i. passes s (get_or (saving_costs job.platform) i 0)) saving.1 in
      record {
        computing_least = (range_passed c computing.0).0;
        computing_most = (range_passed c computing.0).1;
        saving_least = (range_passed s saving.0).0;
        saving_most = (range_passed s saving.0).1;
        products = record {
          total = product_passed c _ work.0;
          v = product_passed c _ work.1;
          cd = product_passed s _ (product 0 (omega arith));
          cm = product_passed s _ (product 1 (omega arith));
          rd = product_passed s _ (product 2 (omega arith));
          rm = product_passed s _ (product 3 (omega arith));
        };
      }

  fits : PowersFit powers job → bad_powers powers job ≡ false
  unfolding bad_powers bad_computing bad_saving saving_passes some
  fits f =
      let c : ℕ = powers.computing in
      let s : ℕ = powers.saving in
      rw (
        range_fits c f.computing_least f.computing_most,
        product_fits c _ f.products.total,
        product_fits c _ f.products.v,
        range_fits s f.saving_least f.saving_most,
        product_fits s _ f.products.cd,
        product_fits s _ f.products.cm,
        product_fits s _ f.products.rd,
        product_fits s _ f.products.rm,
      )

  pub powers_fit : (bad_powers powers job ≡ false) ↔ PowersFit powers job
  powers_fit = (passed, fits)
