-- `growth::growth` meets its contract: up to the limit it is the sum of the terms, which the cap of `Terms.antt` keeps within 64 bits, divided by 64 and
-- rounded up. Assumes nothing.
use mathlib.Core.Path.{◌≡◌, sym}
use Prim.Native.Nat.{ℕ}
use native.Mathlib.Nat.{le_refl}
use native.Mathlib.Omega.{arith}
use borrow.Author.Rules.{rules}
use Rattle.growth.specs.Growth.{last_term, ceil_div, term, term_sum, growth_sum}
use Rattle.growth.specs.Working.Sums.{Reaches}
use Rattle.growth.specs.declared.Partial.{Partial}
use Rattle.growth.proofs.Terms.{term_sum_cap, growth_within, growth_above}
use Rattle.growth.proofs.growth.Goals as goal

-- a sum that reaches the last term is whole
whole : (s y : ℕ) (r : Partial) → Reaches s y last_term r → r.sum ≡ term_sum s y last_term
whole s y r at =
    let end : r.k ≡ last_term = omega (arith, at.reached, at.up_to.count) in
    rw end at at.up_to.at_sum

pub returns-then-y-gt-EXPONENT_LIMIT : goal.returns-then-y-gt-EXPONENT_LIMIT
returns-then-y-gt-EXPONENT_LIMIT c = omega (arith, growth_above c.args.shift c.args.y (omega arith))

pub add_terms-first-requires : goal.add_terms-first-requires
unfolding term term_sum
add_terms-first-requires c = search rules

pub overflow_add-result : goal.overflow_add-result
overflow_add-result c =
    let args = c.args in
    omega (arith, term_sum_cap args.shift args.y last_term (le_refl last_term) (omega arith), whole _ _ _ c.add_terms-whole.ensures)

pub returns : goal.returns
unfolding growth_sum ceil_div
returns c = rw (whole _ _ _ c.add_terms-whole.ensures) (sym (growth_within _ _ (omega arith)))
