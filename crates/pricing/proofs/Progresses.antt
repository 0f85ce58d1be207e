-- What pricing carries is what document 01 says: after j tasks it has the weight since the last mark, the last copies, Q', M' and D(d) as seen
-- from position j + 1. The step past a mark is one application of the equations of Q, M and D. Assumes nothing.
use Prim.Native.Nat.{ℕ, zero, suc, ◌+◌, ◌≤◌, ◌<◌, min}
use mathlib.Core.Path.{◌≡◌, refl, sym, ◌∙◌}
use mathlib.Core.Bool.{true, false}
use mathlib.Core.List.{List}
use native.Mathlib.Nat.{min-eq_left, min-eq_right}
use native.Mathlib.Numerals.{add-one}
use native.Mathlib.Omega.{arith}
use borrow.Author.Tests.{not-false}
use lib.ListN.{get_or}
use Rattle.chain.specs.Chain.{Chain}
use Rattle.chain.specs.Time.{Marks, verification, memory, disk, last, Q, M, D, Q', M'}
use Rattle.chain.proofs.Equations.{last_le, last_here, last_past, last_first, Q_is, M_is, D_is, D_zero, Q'_start, M'_start}
use Rattle.chain.proofs.Spent.{spent, Q'_same, Q'_next, Q'_none, M'_same, M'_next, M'_none, D_same, D_next, spent_done, spent_mono}
use Rattle.units.specs.Limits.{cost_limit, none}
use Rattle.job.specs.Job.{weight_at, is_allowed, between, stretch_allowed}
use Rattle.job.specs.Working.Sound.{Sound}
use Rattle.job.specs.declared.Job.{Job}
use Rattle.lists.proofs.Lists.{some_fails}
use Rattle.marks.specs.Pays.{pays_of, table}
use Rattle.marks.specs.Marks.{marks_of, bad_stretches}
use Rattle.marks.proofs.Stretches.{running, running_start, running_add, running_marked, running_plain, stretch_marked}
use Rattle.job.proofs.Weights.{between_range}
use Rattle.costs.specs.Costs.{cm_at, cd_at}
use Rattle.costs.specs.Stretch.{chain_of, time_of}
use Rattle.costs.proofs.Stretches.{S_factors}
use Rattle.progress.specs.Working.Progress.{arrival_of, past_mark, weighed, CarriedTo}
use Rattle.progress.specs.declared.Progress.{Progress}

pub record Progresses (job : Job) (l : List ℕ) (j : ℕ) (s : Progress) : Type 0 where
  pub weight : s.weight ≡ running job.weights (marks_of l) j
  pub m : s.m ≡ last memory (marks_of l) (suc j)
  pub d : s.d ≡ last disk (marks_of l) (suc j)
  pub q : s.q ≡ Q' (chain_of job) (marks_of l) (suc j)
  pub mt : s.mt ≡ M' (chain_of job) (marks_of l) (suc j)
  pub dt : s.dt ≡ D (chain_of job) (marks_of l) (last disk (marks_of l) (suc j))

module _ (job : Job) (l : List ℕ) where
  abbrev c : Chain
  c = chain_of job

  abbrev f : Marks
  f = marks_of l

  pub progress_start : Progresses job l 0 (record { weight = 0; m = 0; d = 0; q = 0; mt = 0; dt = 0 })
  progress_start =
      record {
        weight = sym (running_start job.weights f);
        m = sym (last_first memory f);
        d = sym (last_first disk f);
        q = sym (Q'_start c f 1 (last_first verification f ∙ sym (last_first memory f)));
        mt = sym (M'_start c f 1 (last_first memory f ∙ sym (last_first disk f)));
        dt = rw (last_first disk f) (sym (D_zero c f));
      }

  module _ (j : ℕ) (s : Progress) (now : Progresses job l j s) where
    -- the weight of the stretch that ends at j + 1
    weight_here : s.weight + weight_at job.weights j ≡ between job.weights (last verification f (suc j)) (suc j)
    weight_here = rw now.weight (running_add job.weights f j)

    pub weight_range : Sound job → j < job.tasks → s.weight + weight_at job.weights j ≤ cost_limit
    weight_range sound h = rw weight_here (between_range job sound (last verification f (suc j)) (suc j) h)

    pub progress_allowed : bad_stretches job l ≡ false → j < job.tasks → 0 < get_or l j 0 → is_allowed job.platform (s.weight + weight_at job.weights j) ≡ true
    unfolding bad_stretches stretch_allowed
    progress_allowed b h k =
        rw weight_here (not-false _ (sym (stretch_marked job l j k) ∙ some_fails job.tasks _ b j h))

    pub progress_carried : Sound job → j < job.tasks → CarriedTo (weighed s (weight_at job.weights j)) (j + 1)
    progress_carried sound h =
        record {
          position = omega (arith, sound.few_tasks);
          memory = omega (arith, now.m, last_le memory f (suc j));
          disk = omega (arith, now.d, last_le disk f (suc j));
        }

    arrival_is : arrival_of job (weighed s (weight_at job.weights j)) (suc j) ≡ Q c f (suc j)
    unfolding arrival_of chain_of
    arrival_is = rw (Q_is c f (suc j) (omega arith), S_factors, weight_here, now.m, now.d, now.q, now.mt)

    weight : ℕ
    weight = weight_at job.weights j

    -- past each mark
    past_plain : f (suc j) ≡ 0 → Progresses job l (suc j) (past_mark job (weighed s weight) (suc j) 0)
    unfolding past_mark pays_of table weight
    past_plain e =
        record {
          weight = rw now.weight (sym (running_plain job.weights f j e));
          m = now.m ∙ sym (last_past memory f (suc j) (omega arith));
          d = now.d ∙ sym (last_past disk f (suc j) (omega arith));
          q = now.q ∙ sym (Q'_same c f (suc j) (omega arith));
          mt = now.mt ∙ sym (M'_same c f (suc j) (omega arith));
          dt = now.dt ∙ sym (D_same c f (suc j) (omega arith));
        }

    past_verification : f (suc j) ≡ verification → Progresses job l (suc j) (past_mark job (weighed s weight) (suc j) verification)
    unfolding past_mark pays_of table weight
    past_verification e =
        record {
          weight = sym (running_marked job.weights f j (omega arith));
          m = now.m ∙ sym (last_past memory f (suc j) (omega arith));
          d = now.d ∙ sym (last_past disk f (suc j) (omega arith));
          q = arrival_is ∙ sym (Q'_next c f (suc j) (omega arith) (omega arith) (omega arith));
          mt = now.mt ∙ sym (M'_same c f (suc j) (omega arith));
          dt = now.dt ∙ sym (D_same c f (suc j) (omega arith));
        }

    memory_is : s.mt + arrival_of job (weighed s weight) (suc j) + cm_at job (suc j) ≡ M c f (suc j)
    unfolding chain_of weight
    memory_is = rw (M_is c f (suc j) (omega arith), arrival_is, now.mt)

    past_memory : f (suc j) ≡ memory → Progresses job l (suc j) (past_mark job (weighed s weight) (suc j) memory)
    unfolding past_mark pays_of table weight
    past_memory e =
        record {
          weight = sym (running_marked job.weights f j (omega arith));
          m = sym (last_here memory f (suc j) (omega arith));
          d = now.d ∙ sym (last_past disk f (suc j) (omega arith));
          q = sym (Q'_none c f (suc j) (omega arith));
          mt = memory_is ∙ sym (M'_next c f (suc j) (omega arith) (omega arith) (omega arith));
          dt = now.dt ∙ sym (D_same c f (suc j) (omega arith));
        }

    disk_is : s.dt + (s.mt + arrival_of job (weighed s weight) (suc j) + cm_at job (suc j)) + cd_at job (suc j) ≡ D c f (suc j)
    unfolding chain_of
    disk_is = rw (D_is c f (suc j) (omega arith), memory_is, now.dt)

    past_disk : f (suc j) ≡ disk → Progresses job l (suc j) (past_mark job (weighed s weight) (suc j) disk)
    unfolding past_mark pays_of table weight
    past_disk e =
        record {
          weight = sym (running_marked job.weights f j (omega arith));
          m = sym (last_here memory f (suc j) (omega arith));
          d = sym (last_here disk f (suc j) (omega arith));
          q = sym (Q'_none c f (suc j) (omega arith));
          mt = sym (M'_none c f (suc j) (omega arith));
          dt = disk_is ∙ sym (D_next c f (suc j) (omega arith));
        }

    past : (k : ℕ) → f (suc j) ≡ k → k ≤ disk → Progresses job l (suc j) (past_mark job (weighed s weight) (suc j) k)
    past zero e h = past_plain e
    past (suc zero) e h = past_verification e
    past (suc (suc zero)) e h = past_memory e
    past (suc (suc (suc zero))) e h = past_disk e
    past (suc (suc (suc (suc k)))) e h = absurd (omega arith)

    pub progress_past : get_or l j 0 ≤ disk → Progresses job l (j + 1) (past_mark job (weighed s (weight_at job.weights j)) (j + 1) (get_or l j 0))
    unfolding weight
    progress_past h = rw add-one (past (get_or l j 0) (refl) h)

    -- what is carried sums to the time spent so far
    pub progress_spent : s.dt + s.mt + s.q ≡ spent c f (suc j)
    unfolding spent
    progress_spent = rw (now.dt, now.mt, now.q)

  module _ (ends : f job.tasks ≡ disk) where
    -- what is too slow once stays too slow
    pub progress_slow : (j : ℕ) (s : Progress) → Progresses job l j s → j ≤ job.tasks → none ≤ s.dt + s.mt + s.q → min none (time_of job l) ≡ none
    unfolding time_of
    progress_slow j s now h k =
        min-eq_left
        (omega (arith, progress_spent j s now, spent_mono c f (suc j) (suc job.tasks) (omega arith), spent_done c f job.tasks (omega arith)))

    -- after the last task D(n) is carried
    pub progress_time : (s : Progress) → Progresses job l job.tasks s → s.dt + s.mt + s.q < none → s.dt ≡ min none (time_of job l)
    unfolding time_of
    progress_time s now h =
        let e : s.dt ≡ D c f job.tasks = now.dt ∙ D_next c f job.tasks (omega arith) in
        e ∙ sym (min-eq_right (omega arith))
