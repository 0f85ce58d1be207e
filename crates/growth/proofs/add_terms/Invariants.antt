-- `growth::add_terms` meets its contract. The loop's invariant: `term` is the term k, and `sum` the sum of the terms up to it. Every such sum is below
-- the cap of `Terms.antt`, which keeps each product and sum within 64 bits. Two divisions make the next term (`ceil_ceil`), and a product of 0 or 1 is
-- each of the terms left (`settled_sum`). Assumes nothing.
use Prim.Native.Nat.{ℕ, ◌≤◌, max}
use Rattle.growth.specs.Working.Sums.{UpTo}
use Rattle.growth.proofs.add_terms.Given as goal

pub record Adding (shift y last start term sum k : ℕ) : Type 0 where
  pub up_to : UpTo shift y term sum k
  pub to : k ≤ max last start

abbrev pub invariant-loop-k : goal.invariant-loop-k
invariant-loop-k l = Adding l.shift l.y l.last l.from.k l.term l.sum l.k
