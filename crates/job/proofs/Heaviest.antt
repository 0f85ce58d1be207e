-- The heaviest task decides check 8: a lighter stretch is allowed where a heavier one is. Assumes nothing.
use Prim.Native.Nat.{ℕ, zero, suc, ◌+◌, ◌≤◌, ◌<◌}
use mathlib.Core.Path.{◌≡◌, refl, sym}
use mathlib.Core.Bool.{Bool, true, false, not, cond, ◌||◌, or-true}
use mathlib.Core.List.{List}
use native.Mathlib.Decide.{dec_lt}
use native.Mathlib.Nat.{mul-le-mul_left}
use native.Mathlib.Numerals.{add-one}
use native.Mathlib.Omega.{arith}
use borrow.Author.Tests.{lt-ltb, le-ltb, le-leb, leb-true}
use lib.Dec.{ltb}
use Rattle.units.specs.Unit.{up, exponent_limit}
use Rattle.units.proofs.Laws.{up_mono}
use Rattle.lists.specs.Lists.{some}
use Rattle.job.specs.Job.{weight_at, exponent, is_allowed}
use Rattle.job.specs.Checks.{bad_task}
use Rattle.job.specs.Working.Heaviest.{heaviest}
use Rattle.job.specs.declared.Job.{Job}
use Rattle.job.specs.declared.Platform.{Platform}

allowed_lighter : (p : Platform) (W X : ℕ) → W ≤ X → is_allowed p X ≡ true → is_allowed p W ≡ true
unfolding is_allowed
allowed_lighter p W X h e =
    le-leb (exponent p.silent W + exponent p.failstop W) exponent_limit
    (omega (arith, leb-true (exponent p.silent X + exponent p.failstop X) exponent_limit e, up_mono (mul-le-mul_left p.silent h), up_mono (mul-le-mul_left p.failstop h)))

-- a stretch of no weight is allowed
pub nothing_allowed : (p : Platform) → is_allowed p 0 ≡ true
unfolding is_allowed up
nothing_allowed p = le-leb (exponent p.silent 0 + exponent p.failstop 0) exponent_limit (omega arith)

-- one task more, heavier than those before or not
pub heaviest_more : (w : List ℕ) (j : ℕ) → heaviest w j < weight_at w j → heaviest w (j + 1) ≡ weight_at w j
unfolding heaviest
heaviest_more w j h = rw (add-one, lt-ltb _ _ h)

pub heaviest_kept : (w : List ℕ) (j : ℕ) → weight_at w j ≤ heaviest w j → heaviest w (j + 1) ≡ heaviest w j
unfolding heaviest
heaviest_kept w j h = rw (add-one, le-ltb _ _ h)

-- what each weight keeps to, the heaviest keeps to
pub heaviest_range : (w : List ℕ) (b n : ℕ) → ((j : ℕ) → j < n → weight_at w j ≤ b) → heaviest w n ≤ b
unfolding heaviest
heaviest_range w b zero h = omega arith
heaviest_range w b (suc n) h = go (ltb (heaviest w n) (weight_at w n)) (heaviest_range w b n (λ j k. h j (omega arith)))
  where
    go : (c : Bool) → heaviest w n ≤ b → cond c (weight_at w n) (heaviest w n) ≤ b
    go true ih = h n (omega arith)
    go false ih = ih

module _ (p : Platform) (W X : ℕ) (h : W ≤ X) where
  -- of two stretches the heavier decides
  pub heavier_decides : (not (is_allowed p W) || not (is_allowed p X)) ≡ not (is_allowed p X)
  heavier_decides = go (is_allowed p X) refl
    where
      go : (b : Bool) → is_allowed p X ≡ b → (not (is_allowed p W) || not b) ≡ not b
      go true e = rw (allowed_lighter p W X h e)
      go false e = or-true (not (is_allowed p W))

  pub lighter_follows : (not (is_allowed p X) || not (is_allowed p W)) ≡ not (is_allowed p X)
  lighter_follows = go (is_allowed p X) refl
    where
      go : (b : Bool) → is_allowed p X ≡ b → (not b || not (is_allowed p W)) ≡ not b
      go true e = rw (allowed_lighter p W X h e)
      go false e = refl

heaviest_decides : (p : Platform) (w : List ℕ) (n : ℕ) → some n (λ j. not (is_allowed p (weight_at w j))) ≡ not (is_allowed p (heaviest w n))
unfolding some heaviest
heaviest_decides p w zero = sym (rw (nothing_allowed p))
heaviest_decides p w (suc n) = go (dec_lt (heaviest w n) (weight_at w n)) (heaviest_decides p w n)
  where
    go : Dec (heaviest w n < weight_at w n) → some n (λ j. not (is_allowed p (weight_at w j))) ≡ not (is_allowed p (heaviest w n))
        → (some n (λ j. not (is_allowed p (weight_at w j))) || not (is_allowed p (weight_at w n)))
        ≡ not (is_allowed p (cond (ltb (heaviest w n) (weight_at w n)) (weight_at w n) (heaviest w n)))
    go (yes l) ih = rw (ih, lt-ltb _ _ l) (heavier_decides p (heaviest w n) (weight_at w n) (omega arith))
    go (no l) ih = rw (ih, le-ltb (heaviest w n) (weight_at w n) (omega arith)) (lighter_follows p (weight_at w n) (heaviest w n) (omega arith))

pub task_decided : (job : Job) → bad_task job ≡ not (is_allowed job.platform (heaviest job.weights job.tasks))
unfolding bad_task
task_decided job = heaviest_decides job.platform job.weights job.tasks
