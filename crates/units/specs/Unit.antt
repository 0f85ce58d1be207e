-- Numbers in units of 2^-24, and the rounding of document 01.
use Rattle.std.specs.Prelude.{ℕ, ◌+◌, ◌-◌, ◌/◌, ◌^◌}

-- 2^24 units make 1
abbrev pub unit : ℕ
unit = 2 ^ 24

-- the exponent limit, 2^26 units: no growth sum is taken of more
abbrev pub exponent_limit : ℕ
exponent_limit = 2 ^ 26

-- up(p): p / 2^24 rounded up
unfoldable pub up : ℕ → ℕ
up p = (p + (unit - 1)) / unit
