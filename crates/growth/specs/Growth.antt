-- Document 01, "Growth sums", with request 103: the rounded sums G(y) and H(y), the exact series beside them, and the bound that ties the two.
-- The shift is what the divisor adds to k: 0 for G, whose terms are t_k, and 1 for H, whose terms are u_k.
use Rattle.std.specs.Prelude.{cond, ℕ, zero, suc, ◌+◌, ◌-◌, ◌*◌, ◌/◌, ◌^◌, ◌≤◌, ◌<◌, leb}
use Rattle.units.specs.Unit.{unit, exponent_limit}

-- the sums end at t_32 and u_32
abbrev pub last_term : ℕ
last_term = 32

-- terms are carried in units of 2^-30: t_0 and u_0 are 2^30
abbrev pub term_unit : ℕ
term_unit = 2 ^ 30

-- 64 units of 2^-30 make one of 2^-24 (six guard bits)
abbrev pub guard : ℕ
guard = 64

-- n divided by d, rounded up
unfoldable pub ceil_div : ℕ → ℕ → ℕ
ceil_div n d = (n + (d - 1)) / d

-- t_0 = 2^30, and t_k is t_(k-1) times y, divided by k × 2^24, rounded up; for u_k the divisor is (k+1) × 2^24
unfoldable pub term : ℕ → ℕ → ℕ → ℕ
term shift y zero = term_unit
term shift y (suc k) = ceil_div (term shift y k * y) ((suc k + shift) * unit)

-- t_0 + t_1 + .. + t_k, in units of 2^-30
unfoldable pub term_sum : ℕ → ℕ → ℕ → ℕ
term_sum shift y zero = term shift y zero
term_sum shift y (suc k) = term_sum shift y k + term shift y (suc k)

-- t_0 + t_1 + .. + t_32, in units of 2^-24: "the whole sum is divided by 64 and rounded up once"
unfoldable pub growth_sum : ℕ → ℕ → ℕ
growth_sum shift y = ceil_div (term_sum shift y last_term) guard

-- "For y above 2^26 both give 0"
unfoldable pub growth : ℕ → ℕ → ℕ
growth shift y = cond (leb y exponent_limit) (growth_sum shift y) 0

-- G(y)
unfoldable pub G : ℕ → ℕ
G y = growth 0 y

-- H(y)
unfoldable pub H : ℕ → ℕ
H y = growth 1 y

-- a fraction, num / den
pub record Fraction : Type 0 where
  pub num : ℕ
  pub den : ℕ

-- a/b + c/d = (a d + c b) / (b d)
unfoldable pub add_fraction : Fraction → Fraction → Fraction
add_fraction p q = record { num = p.num * q.den + q.num * p.den; den = p.den * q.den }

-- (1 + shift) (2 + shift) .. (k + shift): k! for shift 0, (k + 1)! for shift 1
unfoldable pub rising_factorial : ℕ → ℕ → ℕ
rising_factorial shift zero = 1
rising_factorial shift (suc k) = rising_factorial shift k * (suc k + shift)

-- z^k / ((1 + shift) .. (k + shift)), z = y / 2^24: the exact term of the series for e^z (shift 0) or (e^z - 1)/z (shift 1)
unfoldable pub series_term : ℕ → ℕ → ℕ → Fraction
series_term shift y k = record { num = y ^ k; den = unit ^ k * rising_factorial shift k }

-- the exact sum of the series terms 0 to k
unfoldable pub series_sum : ℕ → ℕ → ℕ → Fraction
series_sum shift y zero = series_term shift y zero
series_sum shift y (suc k) = add_fraction (series_sum shift y k) (series_term shift y (suc k))

-- "the exact sum of the same 33 series terms"
unfoldable pub exact_sum : ℕ → ℕ → Fraction
exact_sum shift y = series_sum shift y last_term

-- a sum lies less than this above the exact one, in units of 2^-24
abbrev pub bound_units : ℕ
bound_units = 2

-- "less than 2 units of 2^-24 above the exact 33 terms, never below", both sides times the denominator
pub record WithinBound (sum : ℕ) (exact : Fraction) : Type 0 where
  pub at_least : unit * exact.num ≤ sum * exact.den
  pub below : sum * exact.den < unit * exact.num + bound_units * exact.den
