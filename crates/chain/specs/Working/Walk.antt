-- How the marks of a plan are found, by walking back from n to the start, whatever finds the positions before: the places of the walk, and the marks set so far.
use Rattle.std.specs.Prelude.{ℕ, suc, ◌-◌, ◌≤◌, ◌<◌, ◌≡◌, ◌≢◌, cond, List, eqb, length, get_or}
use Rattle.chain.specs.Chain.{Chain}
use Rattle.chain.specs.Time.{disk}
use Rattle.chain.specs.Working.Search.{back_d, back_m, State, plan_to, plan_marks}

-- a place of the walk: v has mark k, and the last copies before it are d and m
pub record Place : Type 0 where
  pub k : ℕ
  pub d : ℕ
  pub m : ℕ
  pub v : ℕ

module _ (c : Chain) (N : ℕ) where
  -- a place on the plan's way
  abbrev pub OnWay : Place → Type 0
  OnWay w = State c N w.k w.d w.m w.v

  -- the marks up to a place, by s steps back
  abbrev pub marks_to : ℕ → Place → ℕ → ℕ
  marks_to s w = plan_to c N s w.k w.d w.m w.v

  -- the place at the disk copy v
  abbrev pub disk_place : ℕ → Place
  disk_place v = record { k = disk; d = back_d c N v; m = back_m c N (back_d c N v) v; v = v }

  -- r is the place before w, at 0 where the walk is over
  pub record Before (w r : Place) : Type 0 where
    pub falls : r.v < w.v
    pub on_way : 0 < r.v → OnWay r
    pub marks : (s j : ℕ) → j ≢ w.v → marks_to (suc s) w j ≡ cond (eqb r.v 0) 0 (marks_to s r j)

  -- the marks of the plan of n tasks, in an array
  pub record PlannedMarks (n : ℕ) (l : List ℕ) : Type 0 where
    pub long : n ≤ length l
    pub marks : (j : ℕ) → 0 < j → j ≤ n → get_or l (j - 1) 0 ≡ plan_marks c N n j

  -- the marks set so far: those after w are the plan's, the others are still 0, and up to w the plan is that of the walk
  pub record Placed (n : ℕ) (w : Place) (l : List ℕ) : Type 0 where
    pub long : n ≤ length l
    pub within : w.v ≤ n
    pub set_after : (j : ℕ) → w.v < j → j ≤ n → get_or l (j - 1) 0 ≡ plan_marks c N n j
    pub clear : (j : ℕ) → 0 < j → j ≤ w.v → get_or l (j - 1) 0 ≡ 0
    pub steps : ℕ
    pub enough : w.v ≤ steps
    pub same : 0 < w.v → (j : ℕ) → 0 < j → j ≤ w.v → plan_marks c N n j ≡ marks_to steps w j
