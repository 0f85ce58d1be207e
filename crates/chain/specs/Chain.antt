-- What a chain costs, as functions of positions alone. Position 0 is the start, position v the end of task v.
-- A sheet fills these in; the time of a setting and the theory of least settings know nothing else of it.
use Rattle.std.specs.Prelude.{ℕ, Bool}

pub record Chain : Type 0 where
  -- the stretch from u to v is allowed
  pub allowed : ℕ → ℕ → Bool
  -- S, equation (4), over the stretch from u to v, with the last memory copy m, the last disk copy d, and the times Q' and M'
  pub S : (u v m d Q' M' : ℕ) → ℕ
  -- C_M at v
  pub cm : ℕ → ℕ
  -- C_D at v
  pub cd : ℕ → ℕ
