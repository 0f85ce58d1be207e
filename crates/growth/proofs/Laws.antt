-- The laws of G and H that callers use, each proved once over the shift. Up to the limit G and H are the sums, which grow with y and are 2^24 at
-- least; above it they are 0. So the value at the limit, which is computed, caps them at every y.
-- Assumes nothing.
use Prim.Native.Nat.{ℕ, ◌+◌, ◌*◌, ◌^◌, ◌≤◌, ◌<◌}
use mathlib.Core.Path.{◌≡◌}
use native.Mathlib.Nat.{le_refl, le_trans, le-add_right, lt_of_not-le, lt_of_mul-lt-mul_right}
use native.Mathlib.Decide.{dec_le}
use native.Mathlib.Omega.{arith}
use lib.Dec.{lit≤}
use Rattle.units.specs.Unit.{unit, exponent_limit}
use Rattle.units.specs.Working.Caps.{growth_cap, mean_growth_cap}
use Rattle.growth.specs.Growth.{ceil_div, term, term_sum, growth_sum, growth, G, H, Fraction, exact_sum, bound_units, WithinBound}
use Rattle.growth.proofs.SumsError.{growth_sum_bound}
use Rattle.growth.proofs.Terms.{growth_sum_mono, growth_sum_unit, growth_within, growth_above}

growth_mono : (s a b : ℕ) → a ≤ b → b ≤ exponent_limit → growth s a ≤ growth s b
growth_mono s a b more within =
    rw (growth_within s a (le_trans more within), growth_within s b within) (growth_sum_mono s a b more)

growth_unit : (s y : ℕ) → y ≤ exponent_limit → 2 ^ 24 ≤ growth s y
growth_unit s y within = rw (growth_within s y within) (growth_sum_unit s y)

growth_most : (s y : ℕ) → growth s y ≤ growth s exponent_limit
growth_most s y = at (dec_le y exponent_limit)
  where
    at : Dec (y ≤ exponent_limit) → growth s y ≤ growth s exponent_limit
    at (yes within) = growth_mono s y exponent_limit within (le_refl exponent_limit)
    at (no not) = rw (growth_above s y (lt_of_not-le not)) (omega arith)

-- "less than 2 units of 2^-24 above the exact 33 terms, never below"
pub growth_bound : (shift y : ℕ) → y ≤ exponent_limit → WithinBound (growth shift y) (exact_sum shift y)
growth_bound shift y within = rw (growth_within shift y within) (growth_sum_bound shift y within)

pub G_bound : (y : ℕ) → y ≤ exponent_limit → WithinBound (G y) (exact_sum 0 y)
unfolding G
G_bound = growth_bound 0

pub H_bound : (y : ℕ) → y ≤ exponent_limit → WithinBound (H y) (exact_sum 1 y)
unfolding H
H_bound = growth_bound 1

-- no wider bound says this: of whole numbers only two in a row keep it
pub bound_close : (a b : ℕ) (exact : Fraction) → WithinBound a exact → WithinBound b exact → a ≤ b + 1
bound_close a b exact r s =
    let below : a * exact.den < (b + bound_units) * exact.den = omega (arith, r.below, s.at_least) in
    omega (arith, lt_of_mul-lt-mul_right exact.den below)

pub G_mono : (a b : ℕ) → a ≤ b → b ≤ 2 ^ 26 → G a ≤ G b
unfolding G
G_mono = growth_mono 0

pub H_mono : (a b : ℕ) → a ≤ b → b ≤ 2 ^ 26 → H a ≤ H b
unfolding H
H_mono = growth_mono 1

pub G_sum : (a b : ℕ) → a + b ≤ 2 ^ 26 → G a ≤ G (a + b)
G_sum a b = G_mono a (a + b) (le-add_right a b)

pub G_unit : (y : ℕ) → y ≤ 2 ^ 26 → 2 ^ 24 ≤ G y
unfolding G
G_unit = growth_unit 0

pub H_unit : (y : ℕ) → y ≤ 2 ^ 26 → 2 ^ 24 ≤ H y
unfolding H
H_unit = growth_unit 1

pub G_none : (y : ℕ) → 2 ^ 26 < y → G y ≡ 0
unfolding G
G_none = growth_above 0

pub H_none : (y : ℕ) → 2 ^ 26 < y → H y ≡ 0
unfolding H
H_none = growth_above 1

pub G_cap : (y : ℕ) → G y ≤ growth_cap * unit
unfolding G growth growth_sum term_sum term ceil_div
G_cap y = le_trans (growth_most 0 y) (lit≤ tt)

pub H_cap : (y : ℕ) → H y ≤ mean_growth_cap * unit
unfolding H growth growth_sum term_sum term ceil_div
H_cap y = le_trans (growth_most 1 y) (lit≤ tt)

-- "which no sum equals": up to the limit neither is 0
pub G_some : (y : ℕ) → y ≤ exponent_limit → 0 < G y
G_some y within = omega (arith, G_unit y within)

pub H_some : (y : ℕ) → y ≤ exponent_limit → 0 < H y
H_some y within = omega (arith, H_unit y within)
