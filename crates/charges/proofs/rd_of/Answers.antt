-- `charges::rd_of` meets its contract. Both costs are 0 at the start and in full elsewhere, and so is their sum; two costs of 32 bits cannot wrap. Assumes nothing.
use Prim.Native.Nat.{ℕ, ◌+◌}
use mathlib.Core.Path.{◌≡◌, refl}
use mathlib.Core.Bool.{Bool, true, false, cond}
use native.Mathlib.Omega.{arith}
use lib.Dec.{eqb}
use Rattle.costs.specs.Costs.{rd_at}
use Rattle.charges.proofs.rd_of.Goals as goal

skipped_sum : (b : Bool) (x y : ℕ) → cond b 0 x + cond b 0 y ≡ cond b 0 (x + y)
skipped_sum true x y = refl
skipped_sum false x y = refl

pub returns : goal.returns
unfolding rd_at
returns c =
    let args = c.args in
    let disk = c.unless_start in
    let memory = c.unless_start-2 in
    record {
      value = λ job e. rw (disk.ensures.value, memory.ensures.value, e) (skipped_sum (eqb args.d 0) args.platform.rd args.platform.rm);
      fits = omega (arith, disk.ensures.fits, memory.ensures.fits);
    }
