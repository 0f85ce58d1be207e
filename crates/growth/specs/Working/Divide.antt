-- What a division that rounds up asks: a divisor, and room for the sum.
use Rattle.std.specs.Prelude.{ℕ, ◌+◌, ◌<◌, ◌^◌}

pub record ReadyToDivide (n d : ℕ) : Type 0 where
  pub positive : 0 < d
  pub room : n + d < 2 ^ 64
