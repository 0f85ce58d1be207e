-- How many entries of a list a fresh run takes, and which they are.
use Rattle.std.specs.Prelude.{ℕ, ◌≤◌, ◌<◌, ◌≡◌, ◌⊎◌, List, length, get_or}
use Rattle.units.specs.Limits.{task_limit}

-- the least of task count, length and room
pub record Entries (n long most : ℕ) : Type 0 where
  pub tasks : most ≤ n
  pub list : most ≤ long
  pub room : most ≤ task_limit
  pub all : (task_limit ≤ most) ⊎ ((n ≤ most) ⊎ (long ≤ most))

-- the first n entries of a list, as far as there is room, and another value past them
pub record First {A : Type 0} (n : ℕ) (zero : A) (l held : List A) : Type 0 where
  pub room : length held ≡ task_limit
  pub taken : (i : ℕ) → i < n → i < task_limit → get_or held i zero ≡ get_or l i zero
  pub past : (i : ℕ) → n ≤ i → get_or held i zero ≡ zero
