-- What a plan is: an allowed setting of least time, and of those the one that comes first in 01's order.
use Rattle.std.specs.Prelude.{ℕ, zero, suc, ◌≤◌, ◌<◌, ◌≡◌, true, cond, ◌⊎◌, List, [], ◌∷◌, leb}
use Rattle.chain.specs.Chain.{Chain}
use Rattle.chain.specs.Time.{Marks, verification, memory, disk, last, D}

-- 'A setting is any list of n marks, the last of them 3': marks of 0 to 3
pub record Setting (n : ℕ) (f : Marks) : Type 0 where
  pub marks : (v : ℕ) → 0 < v → v ≤ n → f v ≤ disk
  pub ends : f n ≡ disk

-- 'A setting is allowed if each of its stretches, from one marked position (or 0) to the next, is'
pub record Allowed (c : Chain) (n : ℕ) (f : Marks) : Type 0 where
  pub setting : Setting n f
  pub stretches : (v : ℕ) → 0 < v → v ≤ n → 0 < f v → c.allowed (last verification f v) v ≡ true

-- the positions with a mark of k or more from v down, then 0
unfoldable pub listed : ℕ → Marks → ℕ → List ℕ
listed k f zero = 0 ∷ []
listed k f (suc v) = cond (leb k (f (suc v))) (suc v ∷ listed k f v) (listed k f v)

-- at the first difference the earlier position wins
unfoldable pub Earlier : List ℕ → List ℕ → Type 0
Earlier [] l = ⊥
Earlier (a ∷ k) [] = ⊥
Earlier (a ∷ k) (b ∷ l) = (a < b) ⊎ ((a ≡ b) × Earlier k l)

-- f wins over g, or has the same marks: by the positions with mark 3, then of 2 or 3, then all marked
abbrev pub Wins : ℕ → Marks → Marks → Type 0
Wins n f g =
    Earlier (listed disk f n) (listed disk g n)
    ⊎ ((listed disk f n ≡ listed disk g n)
    × (Earlier (listed memory f n) (listed memory g n)
    ⊎ ((listed memory f n ≡ listed memory g n)
    × (Earlier (listed verification f n) (listed verification g n)
    ⊎ (listed verification f n ≡ listed verification g n)))))

-- f is the plan, and t its time
pub record IsPlan (c : Chain) (n : ℕ) (f : Marks) (t : ℕ) : Type 0 where
  -- its marks are an allowed setting
  pub allowed : Allowed c n f
  -- whose time is exactly t
  pub time : D c f n ≡ t
  -- and every allowed setting takes at least as long
  pub least : (g : Marks) → Allowed c n g → t ≤ D c g n
  -- of settings equal in least time it is the first
  pub first : (g : Marks) → Allowed c n g → D c g n ≡ t → Wins n f g

-- there is a plan, whatever its time is
pub record HasLeast (c : Chain) (n : ℕ) : Type 0 where
  pub marks : Marks
  pub time : ℕ
  pub plan : IsPlan c n marks time
