-- Check 29 refuses the cheaper of two jobs only where it refuses the dearer: no product of the cheaper is more. Assumes nothing.
use mathlib.Core.Path.{◌≡◌}
use mathlib.Core.Bool.{false}
use native.Mathlib.Nat.{le_trans, mul-le-mul_left}
use Rattle.job.specs.declared.Job.{Job}
use Rattle.costs.specs.Dearer.{DiskCopy, MemoryCopy, Verification, DiskRecovery, MemoryRecovery, cost_of, CostsRaised}
use Rattle.costs.specs.declared.Powers.{Powers}
use Rattle.powers.specs.Powers.{bad_powers, PowersFit}
use Rattle.powers.proofs.Powers.{powers_fit}

module _ (powers : Powers) (a b : Job) (dearer : CostsRaised a b) where
  fit_cheaper : PowersFit powers b → PowersFit powers a
  unfolding cost_of
  fit_cheaper f =
      record {
        computing_least = f.computing_least;
        computing_most = f.computing_most;
        saving_least = f.saving_least;
        saving_most = f.saving_most;
        products = record {
          total = rw (dearer.others.tasks, dearer.others.weights) f.products.total;
          v = le_trans (mul-le-mul_left powers.computing (dearer.costs Verification)) f.products.v;
          cd = le_trans (mul-le-mul_left powers.saving (dearer.costs DiskCopy)) f.products.cd;
          cm = le_trans (mul-le-mul_left powers.saving (dearer.costs MemoryCopy)) f.products.cm;
          rd = le_trans (mul-le-mul_left powers.saving (dearer.costs DiskRecovery)) f.products.rd;
          rm = le_trans (mul-le-mul_left powers.saving (dearer.costs MemoryRecovery)) f.products.rm;
        };
      }

  pub powers_cheaper : bad_powers powers b ≡ false → bad_powers powers a ≡ false
  powers_cheaper e = (powers_fit powers a).1 (fit_cheaper ((powers_fit powers b).0 e))
