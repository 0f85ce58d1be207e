-- Request 107, over chains: a chain that is nowhere cheaper than another.
use Rattle.std.specs.Prelude.{ℕ, ◌≤◌, ◌<◌, ◌≡◌}
use Rattle.chain.specs.Chain.{Chain}

-- up to position n: the same stretches are allowed, and S, C_M and C_D are nowhere less in c' than in c
pub record NowhereLess (n : ℕ) (c c' : Chain) : Type 0 where
  pub allowed : (u v : ℕ) → u < v → v ≤ n → c.allowed u v ≡ c'.allowed u v
  pub stretch : (u v m d Q' M' : ℕ) → d ≤ m → m ≤ u → u < v → v ≤ n → c.S u v m d Q' M' ≤ c'.S u v m d Q' M'
  pub cm : (v : ℕ) → 0 < v → v ≤ n → c.cm v ≤ c'.cm v
  pub cd : (v : ℕ) → 0 < v → v ≤ n → c.cd v ≤ c'.cd v
