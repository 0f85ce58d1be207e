-- Numbered conditions, of which the first that holds decides.
use Rattle.std.specs.Prelude.{ℕ, zero, suc, ◌<◌, ◌≡◌, Bool, true, false, cond, not, ◌||◌, ◌&&◌, List, [], ◌∷◌, eqb}
use Rattle.refusals.specs.Numbers

pub record Condition : Type 0 where
  -- the number of the refusal
  pub number : ℕ
  -- whether the condition holds
  pub holds : Bool

-- the refusal with this number, where this holds
abbrev pub refusal : ℕ → Bool → Condition
refusal number holds = record { number = number; holds = holds }

-- 'The first condition that holds decides': its number, and 0 where none holds
unfoldable pub first : List Condition → ℕ
first [] = Numbers.accepted
first (c ∷ cs) = cond c.holds c.number (first cs)

-- whether the list has a condition with this number
unfoldable pub has : ℕ → List Condition → Bool
has k [] = false
has k (c ∷ cs) = eqb k c.number || has k cs

-- each number is given once, and none is 0
unfoldable pub distinct : List Condition → Bool
distinct [] = true
distinct (c ∷ cs) = not (eqb c.number Numbers.accepted) && (not (has c.number cs) && distinct cs)

-- the same as a fact, which is computed for each list of checks but two: a lookup gives 6 for two conditions, as document 01 says, and a join asks 1 to 8 of each
-- sheet and then 3 and 7 of both, as request 101 says
abbrev pub Numbered : List Condition → Type 0
Numbered cs = distinct cs ≡ true

-- whether condition i of a list holds, from 0
abbrev pub holds_at : List Condition → ℕ → Bool
holds_at [] i = false
holds_at (c ∷ cs) zero = c.holds
holds_at (c ∷ cs) (suc i) = holds_at cs i

-- its number
abbrev pub number_at : List Condition → ℕ → ℕ
number_at [] i = 0
number_at (c ∷ cs) zero = c.number
number_at (c ∷ cs) (suc i) = number_at cs i

-- 'The first condition that holds decides, and a number is given under no other': a condition has the number k and holds, and none listed before it does
pub record Decides (cs : List Condition) (k : ℕ) : Type 0 where
  pub at : ℕ
  pub number : number_at cs at ≡ k
  pub holds : holds_at cs at ≡ true
  pub none_before : (j : ℕ) → j < at → holds_at cs j ≡ false
