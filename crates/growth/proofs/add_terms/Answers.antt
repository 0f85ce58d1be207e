use mathlib.Core.Path.{◌≡◌}
use Prim.Native.Nat.{ℕ, ◌+◌, ◌-◌, ◌*◌, ◌≤◌, ◌<◌}
use native.Mathlib.Nat.{le_refl, le_trans, le_of_eq, mul-le-mul, mul-le-mul_left}
use native.Mathlib.Numerals.{add-one}
use native.Mathlib.Omega.{arith}
use Rattle.units.specs.Unit.{unit, exponent_limit}
use Rattle.units.specs.Working.Caps.{growth_cap}
use Rattle.growth.specs.Growth.{last_term, term_unit, ceil_div, term, term_sum}
use Rattle.growth.specs.Working.Sums.{UpTo}
use Rattle.growth.proofs.Terms.{ceil_lt, ceil_ceil, term_le_sum, term_sum_cap}
use Rattle.growth.proofs.TermsSettled.{settled_term, settled_sum}
use Rattle.growth.proofs.add_terms.Goals as goal

module _ {s y t sum k : ℕ} (at : UpTo s y t sum k) where
  next : (p r : ℕ) → k < last_term → p ≡ ceil_div (t * y) unit → r ≡ ceil_div p (k + 1 + s) → UpTo s y r (sum + r) (k + 1)
  unfolding term term_sum
  next p r more product quotient =
      let once : r ≡ ceil_div (t * y) ((k + 1 + s) * unit) = rw (quotient, product) (ceil_ceil (t * y) unit (k + 1 + s) (omega arith) (omega arith)) in
      let new : r ≡ term s y (k + 1) = rw (once, at.at_term, add-one k) in
      record { count = omega arith; at_term = new; at_sum = rw (at.at_sum, new, add-one k) }

  -- the terms left are a product of 0 or 1
  settled : (p : ℕ) → k < last_term → p ≤ 1 → p ≡ ceil_div (t * y) unit → UpTo s y p (sum + (last_term - k) * p) last_term
  settled p more small product =
      let e : p ≡ ceil_div (term s y k * y) unit = rw at.at_term at product in
      record {
        count = le_refl last_term;
        at_term = settled_term s y p small k more e;
        at_sum = rw at.at_sum (settled_sum s y p small k at.count e);
      }

  module _ (within : y ≤ exponent_limit) where
    dividend_cap : t * y ≤ growth_cap * term_unit * exponent_limit
    dividend_cap = mul-le-mul (le_trans (le_of_eq at.at_term) (le_trans (term_le_sum s y k) (term_sum_cap s y k at.count within))) within

    product_cap : (p : ℕ) → p ≡ ceil_div (t * y) unit → p ≤ growth_cap * term_unit * exponent_limit
    product_cap p e = omega (arith, e, dividend_cap, ceil_lt (t * y) unit (omega arith))

    sum_cap : sum ≤ growth_cap * term_unit
    sum_cap = le_trans (le_of_eq at.at_sum) (term_sum_cap s y k at.count within)

rest_cap : (k p : ℕ) → p ≤ 1 → (last_term - k) * p ≤ last_term
rest_cap k p small = omega (arith, mul-le-mul_left (last_term - k) small)

pub overflow_mul-term : goal.overflow_mul-term
overflow_mul-term c = omega (arith, dividend_cap c.loop-k.invariant.up_to (omega arith))

pub ceil_div-product-requires : goal.ceil_div-product-requires
ceil_div-product-requires c =
    let cap = dividend_cap c.loop-k.invariant.up_to (omega arith) in
    record { positive = omega arith; room = omega arith }

pub overflow_add-whole : goal.overflow_add-whole
overflow_add-whole c =
    let loop = c.loop-k in
    omega (arith, sum_cap loop.invariant.up_to (omega arith), rest_cap loop.k c.ceil_div-product.result (omega arith))

pub returns-then-product-le1 : goal.returns-then-product-le1
returns-then-product-le1 c =
    let loop = c.loop-k in
    record { reached = omega arith; up_to = settled loop.invariant.up_to _ (omega arith) (omega arith) c.ceil_div-product.ensures }

pub ceil_div-term-requires : goal.ceil_div-term-requires
ceil_div-term-requires c =
    let loop = c.loop-k in
    let cap = product_cap loop.invariant.up_to (omega arith) _ c.ceil_div-product.ensures in
    record { positive = omega arith; room = omega arith }

pub overflow_add-sum : goal.overflow_add-sum
overflow_add-sum c =
    let loop = c.loop-k in
    omega (arith, sum_cap (next loop.invariant.up_to _ _ (omega arith) c.ceil_div-product.ensures c.ceil_div-term.ensures) (omega arith))

pub loop-k-preserved : goal.loop-k-preserved
loop-k-preserved c =
    let loop = c.loop-k in
    record { up_to = next loop.invariant.up_to _ _ (omega arith) c.ceil_div-product.ensures c.ceil_div-term.ensures; to = omega arith }
