-- Lists of marks supplied by a user: checks 9 and 10 of document 01.
use Rattle.std.specs.Prelude.{ℕ, zero, suc, Bool, not, ◌||◌, ◌&&◌, List, [], ◌∷◌, leb, ltb, eqb, length, get_or}
use Rattle.lists.specs.Lists.{some}
use Rattle.refusals.specs.Numbers
use Rattle.refusals.specs.Refusals.{Condition, refusal}
use Rattle.chain.specs.Time.{Marks, verification, disk, last}
use Rattle.job.specs.Job.{stretch_allowed}
use Rattle.job.specs.declared.Job.{Job}

-- the marks of a list by position: task v, from 1 on, has the mark at v - 1; position 0, the start, has none, which is 0
abbrev pub marks_of : List ℕ → Marks
marks_of l zero = 0
marks_of l (suc j) = get_or l j 0

-- 9: not n marks, a mark above 3, or the last not 3
unfoldable pub bad_marks : ℕ → List ℕ → Bool
bad_marks n l = not (eqb (length l) n) || (some n (λ j. ltb disk (get_or l j 0)) || not (eqb (marks_of l n) disk))

-- position v is marked, and its stretch is not allowed
unfoldable pub bad_stretch : Job → List ℕ → ℕ → Bool
bad_stretch job l v =
    leb verification (marks_of l v) && not (stretch_allowed job (last verification (marks_of l) v) v)

-- 10: a stretch is not allowed
unfoldable pub bad_stretches : Job → List ℕ → Bool
bad_stretches job l = some job.tasks (λ j. bad_stretch job l (suc j))

-- checks 9 and 10
abbrev pub marks_conditions : Job → List ℕ → List Condition
marks_conditions job l =
    refusal Numbers.bad_marks (bad_marks job.tasks l) ∷ refusal Numbers.bad_stretch (bad_stretches job l) ∷ []
