-- Order of the rounded terms and their sums. A quotient rounded up is the least number whose multiple reaches the dividend, so it grows with
-- the dividend and falls with the divisor; by induction each term, and each sum of terms, grows with y and falls with the shift.
-- So every sum is at most that of shift 0 at the exponent limit, which is computed. Assumes nothing.
use mathlib.Core.Path.{◌≡◌}
use Prim.Native.Nat.{ℕ, zero, suc, ◌+◌, ◌-◌, ◌*◌, ◌≤◌, ◌<◌}
use native.Mathlib.Nat.{le_refl, le_trans, zero-add, suc-add, add-le-add, mul-le-mul, mul-le-mul_left, mul-le-mul_right, mul-pos, lt_of_mul-lt-mul_right, lt-div-mul-add, div-mul-le_self}
use native.Mathlib.Omega.{arith}
use borrow.Author.Tests.{le-leb, lt-leb}
use lib.Dec.{lit≤}
use Rattle.units.specs.Unit.{unit, exponent_limit}
use Rattle.units.specs.Working.Caps.{growth_cap}
use Rattle.growth.specs.Growth.{last_term, term_unit, guard, ceil_div, term, term_sum, growth_sum, growth}

pub ceil_ge : (n d : ℕ) → 0 < d → n ≤ ceil_div n d * d
unfolding ceil_div
ceil_ge n d h = omega (arith, lt-div-mul-add {a = n + (d - 1)} h)

pub ceil_lt : (n d : ℕ) → 0 < d → ceil_div n d * d < n + d
unfolding ceil_div
ceil_lt n d h = omega (arith, div-mul-le_self (n + (d - 1)) d)

pub ceil_le : (n d m : ℕ) → 0 < d → n ≤ m * d → ceil_div n d ≤ m
ceil_le n d m h le =
    let below : ceil_div n d * d < suc m * d = omega (arith, ceil_lt n d h) in
    omega (arith, lt_of_mul-lt-mul_right d below)

ceil_mono : (n d n' d' : ℕ) → 0 < d' → n ≤ n' → d' ≤ d → ceil_div n d ≤ ceil_div n' d'
ceil_mono n d n' d' h more less =
    ceil_le n d (ceil_div n' d') (omega arith)
    (le_trans more (le_trans (ceil_ge n' d' h) (mul-le-mul_left (ceil_div n' d') less)))

-- two divisions that round up are one
pub ceil_ceil : (n a b : ℕ) → 0 < a → 0 < b → ceil_div (ceil_div n a) b ≡ ceil_div n (b * a)
ceil_ceil n a b ha hb =
    let whole : 0 < b * a = mul-pos hb ha in
    let inner : ℕ = ceil_div n a in
    let outer : ℕ = ceil_div inner b in
    let least : outer ≤ ceil_div n (b * a) = ceil_le inner b _ hb (ceil_le n a _ ha (omega (arith, ceil_ge n (b * a) whole))) in
    let most : ceil_div n (b * a) ≤ outer = ceil_le n (b * a) _ whole (omega (arith, ceil_ge n a ha, mul-le-mul_right a (ceil_ge inner b hb))) in
    omega (arith, least, most)

term_mono : (s s' a b k : ℕ) → s' ≤ s → a ≤ b → term s a k ≤ term s' b k
unfolding term
term_mono s s' a b zero le more = le_refl term_unit
term_mono s s' a b (suc k) le more =
    ceil_mono _ _ _ _ (omega arith) (mul-le-mul (term_mono s s' a b k le more) more) (omega arith)

term_sum_mono : (s s' a b k : ℕ) → s' ≤ s → a ≤ b → term_sum s a k ≤ term_sum s' b k
unfolding term_sum
term_sum_mono s s' a b zero le more = term_mono s s' a b 0 le more
term_sum_mono s s' a b (suc k) le more = add-le-add (term_sum_mono s s' a b k le more) (term_mono s s' a b (suc k) le more)

pub growth_sum_mono : (s a b : ℕ) → a ≤ b → growth_sum s a ≤ growth_sum s b
unfolding growth_sum
growth_sum_mono s a b more = ceil_mono _ _ _ _ (omega arith) (term_sum_mono s s a b last_term (le_refl s) more) (le_refl guard)

term_sum_unit : (s y k : ℕ) → term_unit ≤ term_sum s y k
unfolding term_sum term
term_sum_unit s y zero = le_refl term_unit
term_sum_unit s y (suc k) = omega (arith, term_sum_unit s y k)

pub growth_sum_unit : (s y : ℕ) → unit ≤ growth_sum s y
unfolding growth_sum
growth_sum_unit s y = omega (arith, term_sum_unit s y last_term, ceil_ge (term_sum s y last_term) guard (omega arith))

pub term_le_sum : (s y k : ℕ) → term s y k ≤ term_sum s y k
unfolding term_sum
term_le_sum s y zero = le_refl (term s y 0)
term_le_sum s y (suc k) = omega arith

prefix : (s y k j : ℕ) → term_sum s y k ≤ term_sum s y (j + k)
unfolding term_sum
prefix s y k zero = rw zero-add (le_refl (term_sum s y k))
prefix s y k (suc j) = rw suc-add (omega (arith, prefix s y k j))

-- the sum of some first terms, of any shift, is at most the whole sum of shift 0 at the limit
pub term_sum_cap : (s y k : ℕ) → k ≤ last_term → y ≤ exponent_limit → term_sum s y k ≤ growth_cap * term_unit
unfolding term_sum term ceil_div
term_sum_cap s y k le within =
    let e : last_term - k + k ≡ last_term = omega arith in
    le_trans (rw e at (prefix s y k (last_term - k)))
    (le_trans (term_sum_mono s 0 y exponent_limit last_term (omega arith) within) (lit≤ tt))

pub growth_within : (s y : ℕ) → y ≤ exponent_limit → growth s y ≡ growth_sum s y
unfolding growth
growth_within s y within = rw (le-leb y exponent_limit within)

pub growth_above : (s y : ℕ) → exponent_limit < y → growth s y ≡ 0
unfolding growth
growth_above s y above = rw (lt-leb y exponent_limit above)
