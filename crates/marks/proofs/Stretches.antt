-- The weight of a stretch that grows task by task: it is the total up to the far end less that up to the last marked position.
-- Assumes nothing.
use Prim.Native.Nat.{ℕ, zero, suc, ◌+◌, ◌-◌, ◌≤◌, ◌<◌}
use mathlib.Core.Path.{◌≡◌, refl, sym, ◌∙◌}
use mathlib.Core.Bool.{Bool, false, not, ◌||◌, or-false}
use mathlib.Core.List.{List}
use native.Mathlib.Nat.{sub_self}
use native.Mathlib.Numerals.{add-one}
use native.Mathlib.Omega.{arith}
use borrow.Author.Tests.{le-leb, lt-leb, ltb-false, eqb-true, not-false}
use lib.Dec.{ltb, eqb}
use lib.ListN.{length, get_or}
use Rattle.chain.specs.Time.{Marks, verification, disk, last}
use Rattle.chain.proofs.Equations.{last_here, last_past, last_lt}
use Rattle.lists.specs.Lists.{some}
use Rattle.job.specs.Job.{total, weight_at, is_allowed, between, stretch_allowed}
use Rattle.units.specs.Limits.{cost_limit}
use Rattle.job.specs.Working.Sound.{Sound}
use Rattle.job.specs.declared.Job.{Job}
use Rattle.refusals.specs.Refusals.{first, has, distinct, Numbered}
use Rattle.refusals.proofs.Refusals.{first_clear}
use Rattle.lists.proofs.Lists.{or_fails, some_fails}
use Rattle.job.proofs.Heaviest.{nothing_allowed, heavier_decides, lighter_follows}
use Rattle.job.proofs.Weights.{total_more, total_mono, between_range}
use Rattle.marks.specs.Marks.{marks_of, bad_marks, bad_stretch, bad_stretches, marks_conditions}

pub mark_at : (l : List ℕ) (v : ℕ) → 0 < v → marks_of l v ≡ get_or l (v - 1) 0
mark_at l zero h = absurd (omega arith)
mark_at l (suc j) h = let e : suc j - 1 ≡ j = omega arith in rw e

module _ (w : List ℕ) (f : Marks) where
  -- the weight from the last marked position up to j
  pub running : ℕ → ℕ
  running j = between w (last verification f (suc j)) j

  pub running_start : running 0 ≡ 0
  unfolding running between
  running_start = omega (arith, total_mono w 0 (last verification f 1) (omega arith))

  pub running_add : (j : ℕ) → running j + weight_at w j ≡ between w (last verification f (suc j)) (suc j)
  unfolding running between
  running_add j =
      let here : total w (suc j) ≡ total w j + weight_at w j = rw (← (add-one j)) (total_more w j) in
      let before : last verification f (suc j) < suc j = last_lt verification f (suc j) (omega arith) in
      omega (arith, total_mono w (last verification f (suc j)) j (omega arith))

  pub running_marked : (j : ℕ) → 0 < f (suc j) → running (suc j) ≡ 0
  unfolding running between
  running_marked j h = rw (last_here verification f (suc j) h) (sub_self (total w (suc j)))

  pub running_plain : (j : ℕ) → f (suc j) ≡ 0 → running (suc j) ≡ running j + weight_at w j
  unfolding running
  running_plain j h = rw (last_past verification f (suc j) (omega arith)) (sym (running_add j))

-- whether the stretch that ends at j + 1 is bad, by its mark and its weight
pub stretch_marked : (job : Job) (l : List ℕ) (j : ℕ) → 0 < get_or l j 0 → bad_stretch job l (suc j) ≡ not (stretch_allowed job (last verification (marks_of l) (suc j)) (suc j))
unfolding bad_stretch
stretch_marked job l j h = rw (le-leb verification (get_or l j 0) h)

pub stretch_plain : (job : Job) (l : List ℕ) (j : ℕ) → get_or l j 0 ≡ 0 → bad_stretch job l (suc j) ≡ false
unfolding bad_stretch
stretch_plain job l j h = rw (lt-leb verification (get_or l j 0) (omega arith))

-- what check 9 leaves: n marks, each at most 3, the last 3
module _ (n : ℕ) (l : List ℕ) (right : bad_marks n l ≡ false) where
  pub marks_length : length l ≡ n
  unfolding bad_marks
  marks_length = eqb-true (length l) n (not-false (eqb (length l) n) (or_fails _ _ right).0)

  rest : (some n (λ j. ltb disk (get_or l j 0)) || not (eqb (marks_of l n) disk)) ≡ false
  unfolding bad_marks
  rest = (or_fails (not (eqb (length l) n)) _ right).1

  pub marks_range : (j : ℕ) → j < n → get_or l j 0 ≤ disk
  marks_range j h = ltb-false disk (get_or l j 0) (some_fails n _ (or_fails _ _ rest).0 j h)

  pub marks_end : marks_of l n ≡ disk
  marks_end = eqb-true _ _ (not-false (eqb (marks_of l n) disk) (or_fails (some n (λ j. ltb disk (get_or l j 0))) _ rest).1)

-- the walk over the tasks: the weight since the last marked position, and the heaviest stretch that ended up to j, which decides for all of them
pub record Walked (job : Job) (l : List ℕ) (j heaviest weight : ℕ) : Type 0 where
  pub weighs : weight ≡ running job.weights (marks_of l) j
  pub bounded : heaviest ≤ cost_limit
  pub decides : some j (λ i. bad_stretch job l (suc i)) ≡ not (is_allowed job.platform heaviest)

module _ (job : Job) (l : List ℕ) where
  pub walked_none : Walked job l 0 0 0
  unfolding some
  walked_none =
      record { weighs = sym (running_start job.weights (marks_of l)); bounded = omega arith; decides = rw (nothing_allowed job.platform) }

  module _ (j heaviest weight : ℕ) (walked : Walked job l j heaviest weight) where
    to_here : weight + weight_at job.weights j ≡ between job.weights (last verification (marks_of l) (suc j)) (suc j)
    to_here = rw walked.weighs (running_add job.weights (marks_of l) j)

    -- the stretch that ends here, by its weight
    here : 0 < get_or l j 0 → bad_stretch job l (suc j) ≡ not (is_allowed job.platform (weight + weight_at job.weights j))
    unfolding stretch_allowed
    here h = stretch_marked job l j h ∙ rw (← to_here)

    next : (b : Bool) → bad_stretch job l (suc j) ≡ b → some (j + 1) (λ i. bad_stretch job l (suc i)) ≡ (not (is_allowed job.platform heaviest) || b)
    unfolding some
    next b e = rw (add-one, walked.decides, e)

    ended : 0 < get_or l j 0 → 0 ≡ running job.weights (marks_of l) (j + 1)
    ended h = rw add-one (sym (running_marked job.weights (marks_of l) j h))

    pub walked_range : Sound job → j < job.tasks → weight + weight_at job.weights j ≤ cost_limit
    walked_range s h = rw to_here (between_range job s (last verification (marks_of l) (suc j)) (suc j) h)

    module _ (marked : 0 < get_or l j 0) where
      pub walked_heavier : weight + weight_at job.weights j ≤ cost_limit → heaviest < weight + weight_at job.weights j
          → Walked job l (j + 1) (weight + weight_at job.weights j) 0
      walked_heavier b h =
          record {
            weighs = ended marked;
            bounded = b;
            decides = next _ (here marked) ∙ heavier_decides job.platform heaviest (weight + weight_at job.weights j) (omega arith);
          }

      pub walked_lighter : weight + weight_at job.weights j ≤ heaviest → Walked job l (j + 1) heaviest 0
      walked_lighter h =
          record {
            weighs = ended marked;
            bounded = walked.bounded;
            decides = next _ (here marked) ∙ lighter_follows job.platform (weight + weight_at job.weights j) heaviest h;
          }

    pub walked_plain : get_or l j 0 ≡ 0 → Walked job l (j + 1) heaviest (weight + weight_at job.weights j)
    walked_plain h =
        record {
          weighs = rw (add-one, walked.weighs) (sym (running_plain job.weights (marks_of l) j h));
          bounded = walked.bounded;
          decides = next false (stretch_plain job l j h) ∙ or-false (not (is_allowed job.platform heaviest));
        }

  pub walked_all : (j heaviest weight : ℕ) → Walked job l j heaviest weight → j ≡ job.tasks → bad_stretches job l ≡ not (is_allowed job.platform heaviest)
  unfolding bad_stretches
  walked_all j heaviest weight walked e = rw e at walked.decides

-- what passing checks 9 and 10 means
pub record MarksPassed (job : Job) (l : List ℕ) : Type 0 where
  pub marks : bad_marks job.tasks l ≡ false
  pub stretches : bad_stretches job l ≡ false

pub marks_numbered : (job : Job) (l : List ℕ) → Numbered (marks_conditions job l)
unfolding has distinct
marks_numbered job l = refl

pub marks_passed : (job : Job) (l : List ℕ) → first (marks_conditions job l) ≡ 0 → MarksPassed job l
marks_passed job l e =
    let clear = first_clear (marks_conditions job l) (marks_numbered job l) e in
    record { marks = clear 0; stretches = clear 1 }
