-- S from the factors of a stretch and the recoveries of its last copies, and how far these numbers may go, so that no product or sum passes 64 bits.
use Rattle.std.specs.Prelude.{ℕ, ◌+◌, ◌-◌, ◌*◌, ◌≤◌, ◌^◌, ◌≡◌}
use Rattle.units.specs.Unit.{unit, up}
use Rattle.units.specs.Limits.{cost_limit, none}
use Rattle.units.specs.Working.Caps.{growth_cap}
use Rattle.chain.specs.declared.Factors.{Factors}
use Rattle.chain.specs.declared.Recoveries.{Recoveries}

-- S: its first part is worked out already, disk is R_D' + M', memory R_M', and q is Q'
unfoldable pub stretch_of : Factors → Recoveries → ℕ → ℕ
stretch_of f r q =
    f.work + up ((f.both - f.silent) * r.disk) + up ((f.both - unit) * q) + up ((f.silent - unit) * r.memory)

-- the most that the first part of S may be, and S itself
abbrev pub work_cap : ℕ
work_cap = 2 ^ 40

abbrev pub stretch_cap : ℕ
stretch_cap = 2 ^ 43

-- the most that R_D' + M' may be: two costs, and a time that is not too slow
abbrev pub disk_cap : ℕ
disk_cap = none + 2 * cost_limit

-- the factors of an allowed stretch
pub record Factored (f : Factors) : Type 0 where
  pub work : f.work ≤ work_cap
  pub silent : unit ≤ f.silent
  pub both : f.silent ≤ f.both
  pub cap : f.both ≤ growth_cap * unit

-- what the last copies cost
pub record Recoverable (r : Recoveries) : Type 0 where
  pub disk : r.disk ≤ disk_cap
  pub memory : r.memory ≤ cost_limit

pub record ReadyForStretch (f : Factors) (r : Recoveries) (q : ℕ) : Type 0 where
  pub factors : Factored f
  pub recoveries : Recoverable r
  pub time : q ≤ none

pub record StretchTime (f : Factors) (r : Recoveries) (q t : ℕ) : Type 0 where
  pub value : t ≡ stretch_of f r q
  pub cap : t ≤ stretch_cap
