-- The values of two accepted sheets as one chain: each weight where it belongs, their total, and that checks 7 and 8 pass. Assumes nothing.
use Prim.Native.Nat.{ℕ, zero, suc, ◌+◌, ◌-◌, ◌≤◌, ◌<◌}
use mathlib.Core.Path.{◌≡◌, refl, ◌∙◌}
use mathlib.Core.Bool.{true, false, not, ◌||◌}
use mathlib.Core.List.{List}
use mathlib.Core.Logic.{◌≢◌}
use native.Mathlib.Decide.{dec_lt}
use native.Mathlib.Omega.{arith}
use borrow.Author.Tests.{le-ltb, eqb-true, ne_eqb, not-true, not-false}
use lib.Dec.{lit<, ltb, eqb}
use lib.ListN.{length, get_or, length-append, get_or-append}
use lib.Seq.{length-take-le, get_or-take, get_or-append-add}
use Rattle.lists.specs.Lists.{some}
use Rattle.lists.proofs.Lists.{some_holds, some_fails, some_none, get_d_tabulate}
use Rattle.refusals.specs.Refusals.{first}
use Rattle.units.specs.Limits.{cost_limit, task_limit}
use Rattle.job.specs.Job.{weight_at, total, is_allowed}
use Rattle.job.specs.Checks.{bad_weight, bad_value, bad_task, job_conditions}
use Rattle.job.specs.declared.Platform.{Platform}
use Rattle.job.specs.declared.Job.{Job}
use Rattle.job.proofs.Ranges.{ValuesPassed, value_passes, costs_right, weight_right}
use Rattle.job.proofs.Weights.{total_more}
use Rattle.kinds.specs.Kinds.{weights_length}
use Rattle.writing.specs.Form.{weights_start, platform_fields}
use Rattle.writing.proofs.Forms.{form_job, form_length}
use Rattle.joining.specs.Join.{task_weights, joined_weights, joined_sheet, differs, same_platform}
use Rattle.joining.specs.Working.Ready.{Both}

-- totals of weights that are the same
total_same : (v w : List ℕ) (n : ℕ) → ((j : ℕ) → j < n → weight_at v j ≡ weight_at w j) → total v n ≡ total w n
unfolding total
total_same v w zero e = refl
total_same v w (suc n) e = rw (total_same v w n (λ j h. e j (omega arith)), e n (omega arith)) refl

-- a platform is its seven fields
platform_made : {a b c d e f g a' b' c' d' e' f' g' : ℕ} → a ≡ a' → b ≡ b' → c ≡ c' → d ≡ d' → e ≡ e' → f ≡ f' → g ≡ g'
    → ◌≡◌ {A = Platform} (record { failstop = a; silent = b; cd = c; cm = d; v = e; rd = f; rm = g })
    (record { failstop = a'; silent = b'; cd = c'; cm = d'; v = e'; rd = f'; rm = g' })
platform_made h i j k l m n = rw (h, i, j, k, l, m, n) refl

-- seven fields that do not differ are one platform
pub same_platform_lem : (p q : Platform) → same_platform p q ≡ true → p ≡ q
unfolding same_platform
same_platform_lem p q e = platform_made (at 0 (lit< tt)) (at 1 (lit< tt)) (at 2 (lit< tt)) (at 3 (lit< tt)) (at 4 (lit< tt)) (at 5 (lit< tt)) (at 6 (lit< tt))
  where
    at : (i : ℕ) → i < 7 → get_or (platform_fields p) i 0 ≡ get_or (platform_fields q) i 0
    at i h = eqb-true _ _ (not-false (eqb (get_or (platform_fields p) i 0) (get_or (platform_fields q) i 0)) (some_fails 7 (differs p q) (not-true _ e) i h))

-- one field that differs is enough
pub other_platform_lem : (p q : Platform) (i : ℕ) → i < 7 → get_or (platform_fields p) i 0 ≢ get_or (platform_fields q) i 0 → false ≡ same_platform p q
unfolding same_platform
other_platform_lem p q i h differ = rw (some_holds 7 (differs p q) i h (rw (ne_eqb _ _ differ) refl)) refl

-- two jobs whose weights are there
module _ (a b : Job) (held-a : a.tasks ≤ length a.weights) (held-b : b.tasks ≤ length b.weights) where
  first_length : length (task_weights a) ≡ a.tasks
  first_length = length-take-le a.tasks a.weights held-a

  pub joined_length : length (joined_weights a b) ≡ a.tasks + b.tasks
  joined_length = omega (arith, length-append (task_weights a) (task_weights b), first_length, length-take-le b.tasks b.weights held-b)

  -- the first sheet's weights
  weight_first : (j : ℕ) → j < a.tasks → weight_at (joined_weights a b) j ≡ weight_at a.weights j
  weight_first j h = get_or-append (task_weights a) (task_weights b) 0 j (omega (arith, first_length)) ∙ get_or-take a.tasks a.weights j 0 h

  -- then the second's
  weight_second : (j : ℕ) → j < b.tasks → weight_at (joined_weights a b) (a.tasks + j) ≡ weight_at b.weights j
  weight_second j h =
      let e : length (task_weights a) + j ≡ a.tasks + j = omega (arith, first_length) in
      rw e at (get_or-append-add (task_weights a) (task_weights b) j 0) ∙ get_or-take b.tasks b.weights j 0 h

  -- what holds of each weight of both holds of each joined weight
  each : (P : ℕ → Type 0) → ((j : ℕ) → j < a.tasks → P (weight_at a.weights j)) → ((j : ℕ) → j < b.tasks → P (weight_at b.weights j))
      → (j : ℕ) → j < a.tasks + b.tasks → P (weight_at (joined_weights a b) j)
  each P of-a of-b j h = go (dec_lt j a.tasks)
    where
      go : Dec (j < a.tasks) → P (weight_at (joined_weights a b) j)
      go (yes l) = rw (weight_first j l) (of-a j l)
      go (no l) =
          let e : a.tasks + (j - a.tasks) ≡ j = omega arith in
          rw (← e, weight_second (j - a.tasks) (omega arith)) (of-b (j - a.tasks) (omega arith))

  total_split : (n : ℕ) → n ≤ b.tasks → total (joined_weights a b) (a.tasks + n) ≡ total a.weights a.tasks + total b.weights n
  unfolding total
  total_split zero h =
      let e : a.tasks + 0 ≡ a.tasks = omega arith in
      rw e (omega (arith, total_same (joined_weights a b) a.weights a.tasks weight_first))
  total_split (suc n) h =
      let e : a.tasks + suc n ≡ a.tasks + n + 1 = omega arith in
      rw (e, total_more (joined_weights a b) (a.tasks + n)) (omega (arith, total_split n (omega arith), weight_second n (omega arith)))

-- what check 8 leaves of each task
task_right : (job : Job) → bad_task job ≡ false → (j : ℕ) → j < job.tasks → not (is_allowed job.platform (weight_at job.weights j)) ≡ false
unfolding bad_task
task_right job e = some_fails job.tasks _ e

-- both pass checks 7 and 8 and share their platform, and their total is in range: so does the joined chain
pub record Joinable (a b : Job) : Type 0 where
  pub both : Both a b
  pub passed_first : ValuesPassed a
  pub passed_second : ValuesPassed b
  pub one_platform : a.platform ≡ b.platform
  pub few_tasks : a.tasks + b.tasks ≤ task_limit
  pub sum : total a.weights a.tasks + total b.weights b.tasks ≤ cost_limit

module _ (a b : Job) (joinable : Joinable a b) where
  abbrev whole : Job
  whole = form_job a.platform (joined_weights a b)

  whole_tasks : whole.tasks ≡ a.tasks + b.tasks
  whole_tasks = joined_length a b joinable.both.held_first joinable.both.held_second

  whole_weight : (j : ℕ) → j < a.tasks + b.tasks → weight_at whole.weights j ≡ weight_at (joined_weights a b) j
  whole_weight j h = get_d_tabulate task_limit (weight_at (joined_weights a b)) j (omega (arith, joinable.few_tasks))

  whole_each : (P : ℕ → Type 0) → ((j : ℕ) → j < a.tasks → P (weight_at a.weights j)) → ((j : ℕ) → j < b.tasks → P (weight_at b.weights j))
      → (j : ℕ) → j < a.tasks + b.tasks → P (weight_at whole.weights j)
  whole_each P of-a of-b j h = rw (whole_weight j h) (each a b joinable.both.held_first joinable.both.held_second P of-a of-b j h)

  weights_right : some (a.tasks + b.tasks) (bad_weight whole.weights) ≡ false
  unfolding bad_weight
  weights_right =
      some_none (a.tasks + b.tasks) (bad_weight whole.weights)
      (whole_each (λ x. (eqb x 0 || ltb cost_limit x) ≡ false) (weight_right a joinable.passed_first.value) (weight_right b joinable.passed_second.value))

  whole_total : total whole.weights (a.tasks + b.tasks) ≡ total a.weights a.tasks + total b.weights b.tasks
  whole_total =
      total_same whole.weights (joined_weights a b) (a.tasks + b.tasks) whole_weight
      ∙ total_split a b joinable.both.held_first joinable.both.held_second b.tasks (omega arith)

  whole_value : bad_value whole ≡ false
  whole_value =
      value_passes whole (costs_right a joinable.passed_first.value)
      (rw (whole_tasks, weights_right) (le-ltb cost_limit (total whole.weights (a.tasks + b.tasks)) (omega (arith, whole_total, joinable.sum))))

  whole_task : bad_task whole ≡ false
  unfolding bad_task
  whole_task =
      rw whole_tasks
      (some_none (a.tasks + b.tasks) _
      (whole_each (λ x. not (is_allowed a.platform x) ≡ false) (task_right a joinable.passed_first.task)
      (rw joinable.one_platform (task_right b joinable.passed_second.task))))

  pub whole_passes : first (job_conditions whole) ≡ 0
  unfolding first
  whole_passes = rw (whole_value, whole_task) refl

-- how long the joined sheet is
pub length_sheet : (a b : Job) → Both a b → length (joined_sheet a b) ≡ weights_start + weights_length (a.tasks + b.tasks)
unfolding joined_sheet
length_sheet a b both =
    let tasks = joined_length a b both.held_first both.held_second in
    omega (arith, form_length a.platform (joined_weights a b), tasks)
