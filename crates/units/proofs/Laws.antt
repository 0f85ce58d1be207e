-- Laws of up(p): it is the least whole number of ticks whose units reach p, so it grows with p and is known from both sides.
-- Assumes nothing.
use Prim.Native.Nat.{ℕ, ◌+◌, ◌*◌, ◌≤◌, ◌<◌}
use mathlib.Core.Path.{◌≡◌}
use native.Mathlib.Omega.{arith}
use Rattle.units.specs.Unit.{unit, up}

pub up_mono : {p q : ℕ} → p ≤ q → up p ≤ up q
unfolding up
up_mono h = omega arith

-- up(p) units reach p
pub up_ge : (p : ℕ) → p ≤ up p * unit
unfolding up
up_ge p = omega arith

-- and one tick less would not
pub up_lt : (p : ℕ) → up p * unit < p + unit
unfolding up
up_lt p = omega arith

-- p is at most k units, so up(p) is at most k
pub up_cap : {p : ℕ} (k : ℕ) → p ≤ k * unit → up p ≤ k
unfolding up
up_cap k h = omega arith

-- two parts rounded up apart are not less than their sum rounded up
pub up_add : (p q : ℕ) → up (p + q) ≤ up p + up q
unfolding up
up_add p q = omega arith

-- whole ticks stay whole, whatever is rounded with them
pub up_ticks : (k p : ℕ) → up (k * unit + p) ≡ k + up p
unfolding up
up_ticks k p = omega arith
