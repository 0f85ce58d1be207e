-- Where a term times y, divided by 2^24 and rounded up, is 0 or 1, it is each later term: a product of 1 says that y is 1 to 2^24, and makes a term of 1, whose
-- product is 1 again; a product of 0 makes terms of 0. Assumes nothing.
use mathlib.Core.Path.{◌≡◌, sym}
use Prim.Native.Nat.{ℕ, zero, suc, ◌+◌, ◌-◌, ◌*◌, ◌≤◌, ◌<◌}
use native.Mathlib.Nat.{zero-add, suc-add, mul-le-mul_left, mul-le-mul_right}
use native.Mathlib.Decide.{dec_le}
use native.Mathlib.Omega.{arith}
use Rattle.units.specs.Unit.{unit}
use Rattle.growth.specs.Growth.{last_term, ceil_div, term, term_sum}
use Rattle.growth.proofs.Terms.{ceil_ge, ceil_lt, ceil_le, ceil_ceil}

-- 0 and 1 are rounded up to themselves
ceil_small : (p d : ℕ) → 0 < d → p ≤ 1 → ceil_div p d ≡ p
ceil_small p d pos l = go (dec_le p (ceil_div p d))
  where
    most : ceil_div p d ≤ p
    most = ceil_le p d p pos (omega (arith, mul-le-mul_left p pos))

    go : Dec (p ≤ ceil_div p d) → ceil_div p d ≡ p
    go (yes a) = omega (arith, most)
    go (no a) =
        let gone : ceil_div p d ≡ 0 = omega arith in
        omega (arith, rw gone at (ceil_ge p d pos))

-- a product of 0 or 1, taken as a term, has itself as its product
product_again : (t y p : ℕ) → p ≡ ceil_div (t * y) unit → p ≤ 1 → p ≡ ceil_div (p * y) unit
product_again t y p e l = go (dec_le p 0) (dec_le t 0) (dec_le y 0)
  where
    over : t * y ≤ p * unit
    over = omega (arith, e, ceil_ge (t * y) unit (omega arith))

    under : p * unit < t * y + unit
    under = omega (arith, e, ceil_lt (t * y) unit (omega arith))

    again_over : p * y ≤ ceil_div (p * y) unit * unit
    again_over = ceil_ge (p * y) unit (omega arith)

    again_under : ceil_div (p * y) unit * unit < p * y + unit
    again_under = ceil_lt (p * y) unit (omega arith)

    go : Dec (p ≤ 0) → Dec (t ≤ 0) → Dec (y ≤ 0) → p ≡ ceil_div (p * y) unit
    go (yes none) b c = omega (arith, again_under, mul-le-mul_right y none)
    go (no a) (yes none) c = omega (arith, under, mul-le-mul_right y none)
    go (no a) (no b) (yes none) = omega (arith, under, mul-le-mul_left t none)
    go (no a) (no b) (no c) =
        let one : p ≡ 1 = omega arith in
        let itself : p * y ≡ y = rw one (omega arith) in
        let least : 1 * y ≤ t * y = mul-le-mul_right y (omega arith) in
        omega (arith, itself, least, over, again_over, again_under)

module _ (s y p : ℕ) (small : p ≤ 1) where
  -- the next term is such a product
  next_term : (k : ℕ) → p ≡ ceil_div (term s y k * y) unit → term s y (suc k) ≡ p
  unfolding term
  next_term k e = rw (sym (ceil_ceil (term s y k * y) unit (suc k + s) (omega arith) (omega arith)), sym e) (ceil_small p (suc k + s) (omega arith) small)

  -- and so are the j terms after the term k
  later_sum : (k j : ℕ) → p ≡ ceil_div (term s y k * y) unit → (p ≡ ceil_div (term s y (j + k) * y) unit) × (term_sum s y (j + k) ≡ term_sum s y k + j * p)
  unfolding term_sum
  later_sum k zero e = rw zero-add (e, omega arith)
  later_sum k (suc j) e =
      let before = later_sum k j e in
      let next = next_term (j + k) before.0 in
      let again = product_again (term s y (j + k)) y p before.0 small in
      rw suc-add (rw next again, omega (arith, next, before.1))

  -- the last term, where the product of the term k is 0 or 1
  pub settled_term : (k : ℕ) → k < last_term → p ≡ ceil_div (term s y k * y) unit → p ≡ term s y last_term
  settled_term k more e =
      let whole : suc (last_term - suc k + k) ≡ last_term = omega arith in
      sym (rw whole at (next_term (last_term - suc k + k) (later_sum k (last_term - suc k) e).0))

  -- and the whole sum
  pub settled_sum : (k : ℕ) → k ≤ last_term → p ≡ ceil_div (term s y k * y) unit → term_sum s y k + (last_term - k) * p ≡ term_sum s y last_term
  settled_sum k le e =
      let whole : last_term - k + k ≡ last_term = omega arith in
      sym (rw whole at (later_sum k (last_term - k) e).1)
