-- A test of one number after the other, from 0 on: what a loop that stops at the first that passes knows of those that it left behind. Assumes nothing.
use Prim.Native.Nat.{ℕ, ◌+◌, ◌≤◌, ◌<◌}
use mathlib.Core.Path.{◌≡◌, refl, sym}
use mathlib.Core.Bool.{Bool, true, false}
use native.Mathlib.Omega.{arith}
use Rattle.lists.specs.Lists.{some}
use Rattle.lists.proofs.Lists.{some_holds, some_more}

-- of n numbers, the first i do not pass
pub record NoneYet (p : ℕ → Bool) (n i : ℕ) : Type 0 where
  pub within : i ≤ n
  pub none : some i p ≡ false

module _ (p : ℕ → Bool) {n : ℕ} where
  pub none_start : NoneYet p n 0
  unfolding some
  none_start = record { within = omega arith; none = refl }

  pub none_more : {i : ℕ} → i < n → NoneYet p n i → p i ≡ false → NoneYet p n (i + 1)
  none_more {i} h before e = record { within = omega arith; none = some_more i p before.none e }

  -- the loop stops at one that passes, or leaves all behind
  pub some_at : {i : ℕ} → i < n → p i ≡ true → true ≡ some n p
  some_at {i} h e = sym (some_holds n p i h e)

  pub none_left : {i : ℕ} → n ≤ i → NoneYet p n i → some n p ≡ false
  none_left {i} h left = let e : i ≡ n = omega (arith, left.within) in rw e at left.none
