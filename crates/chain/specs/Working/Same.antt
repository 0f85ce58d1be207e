-- When two chains cost the same up to a position.
use Rattle.std.specs.Prelude.{ℕ, ◌≤◌, ◌<◌, ◌≡◌, true}
use Rattle.chain.specs.Chain.{Chain}

-- the same costs at the positions up to n
pub record Same (n : ℕ) (c c' : Chain) : Type 0 where
  pub allowed : (u v : ℕ) → u < v → v ≤ n → c.allowed u v ≡ c'.allowed u v
  pub stretch : (u v m d Q' M' : ℕ) → d ≤ m → m ≤ u → u < v → v ≤ n → c.S u v m d Q' M' ≡ c'.S u v m d Q' M'
  pub cm : (v : ℕ) → 0 < v → v ≤ n → c.cm v ≡ c'.cm v
  pub cd : (v : ℕ) → 0 < v → v ≤ n → c.cd v ≡ c'.cd v

-- the same, but S only over the stretches that are allowed
pub record SameAllowed (n : ℕ) (c c' : Chain) : Type 0 where
  pub allowed : (u v : ℕ) → u < v → v ≤ n → c.allowed u v ≡ c'.allowed u v
  pub stretch : (u v m d Q' M' : ℕ) → d ≤ m → m ≤ u → u < v → v ≤ n → c.allowed u v ≡ true → c.S u v m d Q' M' ≡ c'.S u v m d Q' M'
  pub cm : (v : ℕ) → 0 < v → v ≤ n → c.cm v ≡ c'.cm v
  pub cd : (v : ℕ) → 0 < v → v ≤ n → c.cd v ≡ c'.cd v
