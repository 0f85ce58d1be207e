-- `job::stretch::exponent_of` meets its contract. A rate of 32 bits and a weight in range have a product below 64 bits, which is rounded up. Assumes nothing.
use Rattle.units.specs.Unit.{up}
use Rattle.job.proofs.Ranges.{product_range}
use native.Mathlib.Omega.{arith}
use Rattle.job.proofs.stretch.exponent_of.Goals as goal

pub overflow_mul-rate : goal.overflow_mul-rate
overflow_mul-rate c = record { fits = omega (arith, product_range c.ranges.rate.fits c.requires) }

pub rounded_up-requires : goal.rounded_up-requires
rounded_up-requires c = omega (arith, product_range c.ranges.rate.fits c.requires)

pub returns : goal.returns
unfolding up
returns c =
    record {
      value = c.rounded_up.ensures;
      range = omega (arith, c.rounded_up.ensures, product_range c.ranges.rate.fits c.requires);
    }
