-- A sum of terms under way: what it holds, and what adding terms to it asks and gives.
use Rattle.std.specs.Prelude.{◌≡◌, ℕ, ◌≤◌}
use Rattle.units.specs.Unit.{exponent_limit}
use Rattle.growth.specs.Growth.{last_term, term, term_sum}
use Rattle.growth.specs.declared.Partial.{Partial}

-- t is the term k, and sum the sum of the terms 0 to k
pub record UpTo (shift y t sum k : ℕ) : Type 0 where
  pub count : k ≤ last_term
  pub at_term : t ≡ term shift y k
  pub at_sum : sum ≡ term_sum shift y k

pub record ReadyToAdd (shift y last : ℕ) (from : Partial) : Type 0 where
  pub shift_range : shift ≤ 1
  pub y_range : y ≤ exponent_limit
  pub last_range : last ≤ last_term
  pub up_to : UpTo shift y from.term from.sum from.k

-- the terms up to last, at least, are added
pub record Reaches (shift y last : ℕ) (r : Partial) : Type 0 where
  pub reached : last ≤ r.k
  pub up_to : UpTo shift y r.term r.sum r.k
