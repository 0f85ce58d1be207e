-- Bounds of the products in S: each factor has a cap, so each product leaves room for its rounding in 64 bits and each rounded part is below 2^40. Assumes
-- nothing.
use Prim.Native.Nat.{ℕ, ◌-◌, ◌*◌, ◌≤◌}
use native.Mathlib.Nat.{mul-le-mul}
use native.Mathlib.Omega.{arith}
use Rattle.units.specs.Unit.{unit, up}
use Rattle.units.specs.Limits.{cost_limit, none}
use Rattle.units.specs.Working.Caps.{growth_cap}
use Rattle.units.proofs.Laws.{up_cap}
use Rattle.chain.specs.Working.Factors.{disk_cap, Factored, ReadyForStretch}
use Rattle.chain.specs.declared.Factors.{Factors}
use Rattle.chain.specs.declared.Recoveries.{Recoveries}

-- a product under the caps of its factors
pub capped : {a b : ℕ} (A B : ℕ) → a ≤ A → b ≤ B → a * b ≤ A * B
capped A B h k = mul-le-mul h k

-- what a difference of growths may be, and the most ticks of each part of S after the first
abbrev pub excess_cap : ℕ
excess_cap = growth_cap - 1

abbrev pub disk_ticks : ℕ
disk_ticks = excess_cap * disk_cap

abbrev pub again_ticks : ℕ
again_ticks = excess_cap * none

abbrev pub memory_ticks : ℕ
memory_ticks = excess_cap * cost_limit

module _ (f : Factors) (r : Recoveries) (q : ℕ) (ready : ReadyForStretch f r q) where
  factors : Factored f
  factors = ready.factors

  pub disk_product : (f.both - f.silent) * r.disk ≤ disk_ticks * unit
  disk_product =
      let e : f.both - f.silent ≤ excess_cap * unit = omega (arith, factors.silent, factors.cap) in
      omega (arith, capped (excess_cap * unit) disk_cap e ready.recoveries.disk)

  pub again_product : (f.both - unit) * q ≤ again_ticks * unit
  again_product =
      let e : f.both - unit ≤ excess_cap * unit = omega (arith, factors.cap) in
      omega (arith, capped (excess_cap * unit) none e ready.time)

  pub memory_product : (f.silent - unit) * r.memory ≤ memory_ticks * unit
  memory_product =
      let e : f.silent - unit ≤ excess_cap * unit = omega (arith, factors.both, factors.cap) in
      omega (arith, capped (excess_cap * unit) cost_limit e ready.recoveries.memory)

  pub disk_part : up ((f.both - f.silent) * r.disk) ≤ disk_ticks
  disk_part = up_cap disk_ticks disk_product

  pub again_part : up ((f.both - unit) * q) ≤ again_ticks
  again_part = up_cap again_ticks again_product

  pub memory_part : up ((f.silent - unit) * r.memory) ≤ memory_ticks
  memory_part = up_cap memory_ticks memory_product
