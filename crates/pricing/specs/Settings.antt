-- Marks that every sheet has, so that what is promised of all allowed settings, or of the least of them, is not promised of nothing.
use Rattle.std.specs.Prelude.{ℕ, ◌≤◌, ◌<◌, ◌≡◌, List, length, get_or}
use Rattle.refusals.specs.Refusals.{first}
use Rattle.sheet.specs.Reading.{job_of}
use Rattle.chain.specs.Time.{disk}
use Rattle.marks.specs.Marks.{marks_of, marks_conditions}

-- n marks of 1 to 3, the last of them 3: every task is marked
pub record EachMarked (n : ℕ) (l : List ℕ) : Type 0 where
  pub long : length l ≡ n
  pub marked : (j : ℕ) → j < n → 0 < get_or l j 0
  pub range : (j : ℕ) → j < n → get_or l j 0 ≤ disk
  pub ends : marks_of l n ≡ disk

-- the sheet has marks that pass checks 9 and 10
pub record HasMarks (s : List ℕ) : Type 0 where
  pub marks : List ℕ
  pub passed : first (marks_conditions (job_of s) marks) ≡ 0
