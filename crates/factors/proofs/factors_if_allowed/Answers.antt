-- `factors::factors_if_allowed` meets its contract. Past the exponent limit G(y_s + y_f) is 0. Assumes nothing.
use mathlib.Core.Path.{ap}
use native.Mathlib.Nat.{le_of_eq}
use native.Mathlib.Omega.{arith}
use Rattle.chain.specs.declared.Factors.{Factors}
use Rattle.costs.proofs.Ranges.{none_allowed}
use Rattle.factors.proofs.factors_if_allowed.Goals as goal

pub returns-then-exponent_of-gt-EXPONENT_LIMIT : goal.returns-then-exponent_of-gt-EXPONENT_LIMIT
returns-then-exponent_of-gt-EXPONENT_LIMIT c =
    let exponent-of = c.exponent_of in
    let exponent-of2 = c.exponent_of-2 in
    none_allowed _ _ _ _ (omega (arith, exponent-of.ensures.value, exponent-of2.ensures.value))

pub returns : goal.returns
returns c =
    let energy_factors = c.energy_factors in
    record {
      both = ap (λ (f : Factors). f.both) energy_factors.ensures;
      silent = le_of_eq (ap (λ (f : Factors). f.silent) energy_factors.ensures);
      all = λ _. energy_factors.ensures;
    }
