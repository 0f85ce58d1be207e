-- The least times that the plan's theorem knows keep the equations of the page, and no other times do: the end position falls from each time to those that it is
-- the min of. Assumes nothing.
use Prim.Native.Nat.{ℕ, zero, suc, min, ◌≤◌, ◌<◌}
use mathlib.Core.Path.{◌≡◌, refl, sym, ◌∙◌}
use native.Mathlib.Decide.{dec_lt, ℕ_discrete}
use native.Mathlib.Omega.{arith}
use Rattle.chain.specs.Chain.{Chain}
use Rattle.chain.specs.Time.{Marks, D}
use Rattle.chain.specs.Plan.{Allowed, IsPlan}
use Rattle.chain.specs.Working.Search.{plan_marks}
use Rattle.chain.proofs.Lower.{least_d_lower}
use Rattle.chain.proofs.Theorems.{plan_is_least}
use Rattle.job.specs.declared.Job.{Job}
use Rattle.costs.specs.Stretch.{chain_of}
use Rattle.costs.proofs.Stretches.{S_rises}
use Rattle.chain.proofs.Search.{least_q_start, least_m_start, least_d_start}
use Rattle.equations.specs.Equations.{IsMin, Equations, E_disk, E_mem, E_verif, E, SameTimes}
use Rattle.equations.proofs.Minima.{min_once, disk_min, memory_min, verification_min}

-- they hold
pub equations_hold : (c : Chain) (N : ℕ)
    → Equations c N (E_disk c N) (E_mem c N) (λ d1 m1 v2. E_verif c N d1 m1 (E_mem c N d1 m1) v2) (λ d1 m1 v1 v2. E c N d1 m1 (E_mem c N d1 m1) v1 v2)
equations_hold c N =
    record {
      disk_start = least_d_start c N;
      disk_least = disk_min c N;
      memory_start = least_m_start c N;
      memory_least = memory_min c N;
      verification_start = λ d1 m1 h. least_q_start c N d1 m1 (E_mem c N d1 m1);
      verification_least = λ d1 m1 v2 h l. verification_min c N d1 m1 (E_mem c N d1 m1) v2 l;
      stretch = λ d1 m1 v1 v2 h k l. refl;
    }

-- mins of the same times are the same
min_same : (N a b : ℕ) (f g : ℕ → ℕ) (t s : ℕ) → ((u : ℕ) → a ≤ u → u < b → f u ≡ g u) → IsMin N a b f t → IsMin N a b g s → t ≡ s
min_same N a b f g t s same i j =
    min_once N a g b t s
    (record {
      cap = i.cap;
      lower = λ u p q. rw (← (same u p q)) (i.lower u p q);
      attained =
          λ l.
          let some = i.attained l in
          record { u = some.u; from = some.from; before = some.before; value = sym (same some.u some.from some.before) ∙ some.value };
    })
    j

-- a time at a start and after it
by_start : (P : ℕ → Type 0) (a b : ℕ) → a ≤ b → (b ≡ a → P b) → (a < b → P b) → P b
by_start P a b h start later = go (ℕ_discrete b a)
  where
    go : Dec (b ≡ a) → P b
    go (yes e) = start e
    go (no e) = later (omega arith)

-- from the times at all earlier ends to the time at this one
by_end : (P : ℕ → Type 0) → ((b : ℕ) → ((u : ℕ) → u < b → P u) → P b) → (b : ℕ) → P b
by_end P step b = below (suc b) b (omega arith)
  where
    below : (k u : ℕ) → u < k → P u
    below zero u h = absurd (omega arith)
    below (suc k) u h = step u (λ w l. below k w (omega arith))

module _ (c : Chain) (N : ℕ) (F-disk : (d2 : ℕ) → ℕ) (F-mem : (d1 m2 : ℕ) → ℕ) (F-verif : (d1 m1 v2 : ℕ) → ℕ) (F : (d1 m1 v1 v2 : ℕ) → ℕ)
    (keeps : Equations c N F-disk F-mem F-verif F) where
  module _ (d1 m1 : ℕ) (h : d1 ≤ m1) (mem : F-mem d1 m1 ≡ E_mem c N d1 m1) where
    stretch_same : (v1 v2 : ℕ) → m1 ≤ v1 → v1 < v2 → F-verif d1 m1 v1 ≡ E_verif c N d1 m1 (E_mem c N d1 m1) v1 → F d1 m1 v1 v2 ≡ E c N d1 m1 (E_mem c N d1 m1) v1 v2
    stretch_same v1 v2 p q e = keeps.stretch d1 m1 v1 v2 h p q ∙ rw (e, mem)

    verification_same : (v2 : ℕ) → m1 ≤ v2 → F-verif d1 m1 v2 ≡ E_verif c N d1 m1 (E_mem c N d1 m1) v2
    verification_same =
        by_end (λ v2. m1 ≤ v2 → F-verif d1 m1 v2 ≡ E_verif c N d1 m1 (E_mem c N d1 m1) v2)
        (λ v2 earlier p.
        by_start (λ v2. F-verif d1 m1 v2 ≡ E_verif c N d1 m1 (E_mem c N d1 m1) v2) m1 v2 p
        (λ e. rw e (keeps.verification_start d1 m1 h ∙ sym (least_q_start c N d1 m1 (E_mem c N d1 m1))))
        (λ l.
        min_same N m1 v2 _ _ _ _
        (λ v1 q k. rw (earlier v1 k q, stretch_same v1 v2 q k (earlier v1 k q)))
        (keeps.verification_least d1 m1 v2 h l)
        (verification_min c N d1 m1 (E_mem c N d1 m1) v2 l)))

  memory_same : (d1 m2 : ℕ) → d1 ≤ m2 → F-mem d1 m2 ≡ E_mem c N d1 m2
  memory_same d1 =
      by_end (λ m2. d1 ≤ m2 → F-mem d1 m2 ≡ E_mem c N d1 m2)
      (λ m2 earlier p.
      by_start (λ m2. F-mem d1 m2 ≡ E_mem c N d1 m2) d1 m2 p
      (λ e. rw e (keeps.memory_start d1 ∙ sym (least_m_start c N d1)))
      (λ l.
      min_same N d1 m2 _ _ _ _
      (λ m1 q k. rw (earlier m1 k q, verification_same d1 m1 q (earlier m1 k q) m2 (omega arith)))
      (keeps.memory_least d1 m2 l)
      (memory_min c N d1 m2 l)))

  disk_same : (d2 : ℕ) → F-disk d2 ≡ E_disk c N d2
  disk_same =
      by_end (λ d2. F-disk d2 ≡ E_disk c N d2)
      (λ d2 earlier.
      by_start (λ d2. F-disk d2 ≡ E_disk c N d2) 0 d2 (omega arith)
      (λ e. rw e (keeps.disk_start ∙ sym (least_d_start c N)))
      (λ l.
      min_same N 0 d2 _ _ _ _
      (λ d1 q k. rw (earlier d1 k, memory_same d1 d2 (omega arith)))
      (keeps.disk_least d2 l)
      (disk_min c N d2 l)))

  -- and nothing else keeps them
  pub equations_determine : SameTimes c N F-disk F-mem F-verif F
  equations_determine =
      record {
        disk = disk_same;
        memory = memory_same;
        verification = λ d1 m1 v2 h l. verification_same d1 m1 h (memory_same d1 m1 h) v2 l;
        stretch =
            λ d1 m1 v1 v2 h k l.
            stretch_same d1 m1 h (memory_same d1 m1 h) v1 v2 k l (verification_same d1 m1 h (memory_same d1 m1 h) v1 k);
      }

-- where the mins are cut off does not matter to E_disk below the cut: both are the least time of all allowed settings there
module _ (job : Job) (N M n : ℕ) (h : 0 < n) (l : N ≤ M) where
  abbrev chain : Chain
  chain = chain_of job

  lower : (K : ℕ) (g : Marks) → Allowed chain n g → E_disk chain K n ≤ D chain g n
  lower K g s = least_d_lower chain (S_rises job) K n g s h

  least : (K : ℕ) → E_disk chain K n < K → IsPlan chain n (plan_marks chain K n) (E_disk chain K n)
  least K k = plan_is_least chain (S_rises job) K n h k

  pub any_cut : min N (E_disk chain M n) ≡ E_disk chain N n
  any_cut = go (dec_lt (E_disk chain N n) N) (dec_lt (E_disk chain M n) N)
    where
      go : Dec (E_disk chain N n < N) → Dec (E_disk chain M n < N) → min N (E_disk chain M n) ≡ E_disk chain N n
      go (yes a) _ =
          let p = least N a in
          let below : E_disk chain M n ≤ E_disk chain N n = omega (arith, lower M _ p.allowed, p.time) in
          let q = least M (omega arith) in
          omega (arith, lower N _ q.allowed, q.time)
      go (no a) (yes b) =
          let q = least M (omega arith) in
          absurd (omega (arith, lower N _ q.allowed, q.time))
      go (no a) (no b) = omega (arith, (disk_min chain N n h).cap)
