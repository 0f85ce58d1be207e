-- The rounded sums against the exact series, in units of 2^-30. Rounding up adds less than 1 to a term, and the next term carries at most 4 / (k + shift) of
-- what was added before, since y is at most 4 × 2^24. Kept in tenths and rounded up, these errors sum to less than 64, by computing; that wants G's first
-- step to be exact, t_1 = 64 y, after which its errors are those of every shift from 1 on, one place later. The division by 64 makes them less than 1 unit
-- of 2^-24, and rounds up by less than another. Assumes nothing.
use mathlib.Core.Path.{◌≡◌}
use Prim.Native.Nat.{ℕ, zero, suc, ◌+◌, ◌*◌, ◌^◌, ◌≤◌, ◌<◌}
use native.Mathlib.Nat.{le_trans, pow-zero, pow-suc, mul-pos, mul-le-mul_left, mul-le-mul_right}
use native.Mathlib.Omega.{arith}
use lib.Dec.{lit<}
use Rattle.units.specs.Unit.{unit, exponent_limit}
use Rattle.growth.specs.Growth.{last_term, term_unit, guard, ceil_div, term, term_sum, growth_sum, Fraction, add_fraction, rising_factorial, series_term, series_sum, exact_sum, WithinBound}
use Rattle.growth.proofs.Terms.{ceil_ge, ceil_lt, ceil_le}

-- v is, in units of 2^-30, at least the fraction, and at most e tenths of such a unit above it
record Near (v : ℕ) (p : Fraction) (e : ℕ) : Type 0 where
  positive : 0 < p.den
  least : term_unit * p.num ≤ v * p.den
  most : 10 * (v * p.den) ≤ 10 * (term_unit * p.num) + e * p.den

near_plus : (v w e f : ℕ) (p q : Fraction) → Near v p e → Near w q f → Near (v + w) (add_fraction p q) (e + f)
unfolding add_fraction
near_plus v w e f p q a b =
    record {
      positive = mul-pos a.positive b.positive;
      least = omega (arith, mul-le-mul_right q.den a.least, mul-le-mul_right p.den b.least);
      most = omega (arith, mul-le-mul_right q.den a.most, mul-le-mul_right p.den b.most);
    }

-- p times y / (n units)
scaled : Fraction → ℕ → ℕ → Fraction
scaled p y n = record { num = p.num * y; den = p.den * (n * unit) }

series_first : (s y : ℕ) → series_term s y 0 ≡ record { num = 1; den = 1 }
unfolding series_term rising_factorial
series_first s y = λ i. record { num = pow-zero y i; den = 1 }

series_next : (s y k : ℕ) → series_term s y (suc k) ≡ scaled (series_term s y k) y (suc k + s)
unfolding series_term rising_factorial scaled
series_next s y k =
    let e : unit ^ suc k * (rising_factorial s k * (suc k + s)) ≡ unit ^ k * rising_factorial s k * ((suc k + s) * unit) = rw (pow-suc unit k) (omega arith) in
    λ i. record { num = pow-suc y k i; den = e i }

-- t' is t y / (n units) rounded up, and f tenths are at least 4 e / n
near_scaled : (t t' y n e f : ℕ) (p : Fraction) → 0 < n → y ≤ exponent_limit → t * y ≤ t' * (n * unit) → t' * (n * unit) < t * y + n * unit
    → 4 * e ≤ f * n → Near t p e → Near t' (scaled p y n) (10 + f)
unfolding scaled
near_scaled t t' y n e f p pos within over under carried a =
    let carry : e * y ≤ f * (n * unit) = omega (arith, mul-le-mul_left e within) in
    record {
      positive = mul-pos a.positive (omega arith);
      least = omega (arith, mul-le-mul_right p.den over, mul-le-mul_right y a.least);
      most = omega (arith, mul-le-mul_right p.den under, mul-le-mul_right y a.most, mul-le-mul_right p.den carry);
    }

-- the error of a term in tenths, from shift 1 on: each step adds ten, and carries what was there times 4 / (k + 2)
error : ℕ → ℕ
error zero = 0
error (suc k) = 10 + ceil_div (4 * error k) (suc (suc k))

-- the same for every shift: at shift 0 the first step adds nothing
error_at : ℕ → ℕ → ℕ
error_at zero zero = 0
error_at zero (suc k) = error k
error_at (suc s) k = error k

error_sum : ℕ → ℕ → ℕ
error_sum s zero = error_at s zero
error_sum s (suc k) = error_sum s k + error_at s (suc k)

error_sum_limit : (s : ℕ) → error_sum s last_term < 10 * guard
unfolding error_sum error_at error ceil_div
error_sum_limit zero = lit< tt
error_sum_limit (suc s) = lit< tt

near_first : (s y : ℕ) → Near (term s y 0) (series_term s y 0) 0
unfolding term
near_first s y = rw (series_first s y) (record { positive = omega arith; least = omega arith; most = omega arith })

-- from the term k to the next, with any divisor m of the error up to the term's own
near_next : (s y k m e : ℕ) → y ≤ exponent_limit → 0 < m → m ≤ suc k + s → Near (term s y k) (series_term s y k) e
    → Near (term s y (suc k)) (series_term s y (suc k)) (10 + ceil_div (4 * e) m)
unfolding term
near_next s y k m e within pos le a =
    rw (series_next s y k)
    (near_scaled _ _ y (suc k + s) e _ _ (omega arith) within (ceil_ge _ _ (omega arith)) (ceil_lt _ _ (omega arith))
    (le_trans (ceil_ge (4 * e) m pos) (mul-le-mul_left _ le)) a)

-- t_1 = 64 y
near_exact : (y : ℕ) → Near (term 0 y 1) (series_term 0 y 1) 0
unfolding term scaled
near_exact y =
    let over = ceil_ge (term_unit * y) unit (omega arith) in
    let under = ceil_le (term_unit * y) unit (guard * y) (omega arith) (omega arith) in
    rw (series_next 0 y 0, series_first 0 y) (record { positive = omega arith; least = omega arith; most = omega arith })

near_term : (s y k : ℕ) → y ≤ exponent_limit → Near (term s y k) (series_term s y k) (error_at s k)
unfolding error_at error
near_term zero y zero within = near_first 0 y
near_term zero y (suc zero) within = near_exact y
near_term zero y (suc (suc k)) within = near_next 0 y (suc k) (suc (suc k)) _ within (omega arith) (omega arith) (near_term zero y (suc k) within)
near_term (suc s) y zero within = near_first (suc s) y
near_term (suc s) y (suc k) within = near_next (suc s) y k (suc (suc k)) _ within (omega arith) (omega arith) (near_term (suc s) y k within)

near_sum : (s y k : ℕ) → y ≤ exponent_limit → Near (term_sum s y k) (series_sum s y k) (error_sum s k)
unfolding term_sum series_sum error_sum
near_sum s y zero within = near_term s y zero within
near_sum s y (suc k) within = near_plus _ _ _ _ _ _ (near_sum s y k within) (near_term s y (suc k) within)

-- errors of less than 64 units of 2^-30, and a division by 64 that rounds up: together less than 2 units of 2^-24
near_bound : (v e : ℕ) (p : Fraction) → e < 10 * guard → Near v p e → WithinBound (ceil_div v guard) p
near_bound v e p small a =
    let over = mul-le-mul_right p.den (ceil_ge v guard (omega arith)) in
    let under = mul-le-mul_right p.den (ceil_lt v guard (omega arith)) in
    record {
      at_least = omega (arith, over, a.least);
      below = omega (arith, under, mul-le-mul_right p.den small, a.positive, a.most);
    }

pub growth_sum_bound : (s y : ℕ) → y ≤ exponent_limit → WithinBound (growth_sum s y) (exact_sum s y)
unfolding growth_sum exact_sum
growth_sum_bound s y within = near_bound _ _ _ (error_sum_limit s) (near_sum s y last_term within)
