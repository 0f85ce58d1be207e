-- Bounds on what is still to come, so that the search may leave out copies that cannot matter, over any chain of costs.
-- `Below` is all that the laws ask of the bounds: inequalities that a minimum has to each of its candidates. A minimum with a cap among its candidates has them too.
use Rattle.std.specs.Prelude.{ℕ, ◌+◌, ◌-◌, ◌*◌, ◌≤◌, ◌<◌, ◌^◌, min, ◌≡◌, true}
use Rattle.units.specs.Unit.{unit, up}
use Rattle.chain.specs.Chain.{Chain}

-- S in two parts, that by the last disk copy apart
pub record Apart : Type 0 where
  -- all other parts
  pub rest : (u v m Q' : ℕ) → ℕ
  -- G(y_s + y_f) - G(y_s), in units
  pub stopped : (u v : ℕ) → ℕ
  -- R_D' of d
  pub rd : ℕ → ℕ

-- these are the parts of S, and the first rises with Q'
pub record Splits (c : Chain) (s : Apart) : Type 0 where
  pub whole : (u v m d Q' M' : ℕ) → c.S u v m d Q' M' ≡ s.rest u v m Q' + up (s.stopped u v * (s.rd d + M'))
  pub rises : (u v m q t : ℕ) → q ≤ t → s.rest u v m q ≤ s.rest u v m t

-- bounds by position
pub record Bounds : Type 0 where
  -- R_D' + M' at the memory copy u is at least this many times 2^24 ticks, whatever the last disk copy; what it adds to a stretch is then a whole number of ticks
  pub base : ℕ → ℕ
  -- from the memory copy u to the verification v, with no more than this recovery from disk
  pub part : (u v : ℕ) → ℕ
  -- to a memory copy at v from the start, and the sum of `stopped` on the way to v; only their differences are used
  pub time : ℕ → ℕ
  pub risk : ℕ → ℕ
  -- from a memory copy u to the end, with the last disk copy d; d = u is a disk copy
  pub after : (d u : ℕ) → ℕ

-- any number would do; this one keeps products within 64 bits
abbrev pub slope_cap : ℕ
slope_cap = 2 ^ 28

-- what a tick of recovery from disk adds at least between u and v, in units
unfoldable pub slope : Bounds → ℕ → ℕ → ℕ
slope b u v = min slope_cap (b.risk v - b.risk u)

-- the base of u in ticks
abbrev pub base_ticks : Bounds → ℕ → ℕ
base_ticks b u = unit * b.base u

-- where R_D' + M' at u is x, what of it lies beyond the base
abbrev pub beyond : Bounds → (u x : ℕ) → ℕ
beyond b u x = x - base_ticks b u

-- the part from u to v where R_D' + M' is x beyond the base of u, and C_M at v
unfoldable pub part_low : Chain → Bounds → (u x v : ℕ) → ℕ
part_low c b u x v = b.part u v + up (slope b u v * x) + c.cm v

-- where M(u) is t and R_D' + M' is x, the next memory copy at v is not before this
unfoldable pub low : Chain → Bounds → (u t x v : ℕ) → ℕ
low c b u t x v = t + part_low c b u (beyond b u x) v

-- the least R_D' + M' at u with the last disk copy d, by the times of both
unfoldable pub least_disk : Apart → Bounds → (d u : ℕ) → ℕ
least_disk s b d u = s.rd d + (b.time u - b.time d)

-- the bounds hold up to the position n
pub record Below (n : ℕ) (c : Chain) (s : Apart) (b : Bounds) : Type 0 where
  pub base_low : (d u : ℕ) → d ≤ u → u ≤ n → base_ticks b u ≤ least_disk s b d u
  pub part_first : (m v : ℕ) → m < v → v ≤ n → c.allowed m v ≡ true → b.part m v ≤ s.rest m v m 0 + s.stopped m v * b.base m
  pub part_step : (m u v : ℕ) → m < u → u < v → v ≤ n → c.allowed u v ≡ true
      → b.part m v ≤ b.part m u + s.rest u v m (b.part m u) + s.stopped u v * b.base m
  pub time_step : (u v : ℕ) → u < v → v ≤ n → b.time v ≤ b.time u + b.part u v + c.cm v
  pub risk_step : (u v : ℕ) → u < v → v ≤ n → c.allowed u v ≡ true → b.risk v ≤ b.risk u + s.stopped u v
  pub after_next : (d u v : ℕ) → d ≤ u → u < v → v ≤ n → b.after d u ≤ part_low c b u (beyond b u (least_disk s b d u)) v + b.after d v
  pub after_disk : (d u : ℕ) → d < u → u ≤ n → b.after d u ≤ c.cd u + b.after u u
