-- The plan that the search gives, and what a plan is. The search's least time is a lower bound of all allowed settings (`Lower`), below N it is the time of its
-- own marks (`Attained`),
-- and of settings of that time these marks come first (`Ties`). Any two plans have the same time, and each wins over the other, so their marks are the same.
-- Assumes nothing.
use Prim.Native.Nat.{ℕ, suc, ◌≤◌, ◌<◌}
use mathlib.Core.Path.{◌≡◌, ◌∙◌, sym}
use mathlib.Core.Logic.{◌↔◌}
use native.Mathlib.Decide.{dec_le}
use native.Mathlib.Omega.{arith}
use Rattle.chain.specs.Chain.{Chain}
use Rattle.chain.specs.Time.{Marks, D}
use Rattle.chain.specs.Plan.{Allowed, IsPlan, HasLeast}
use Rattle.chain.specs.Working.Search.{Rising, least_d, plan_marks}
use Rattle.chain.proofs.Lower.{least_d_lower}
use Rattle.chain.proofs.Attained.{plan_allowed, plan_time}
use Rattle.chain.proofs.Order.{wins_same}
use Rattle.chain.proofs.Ties.{plan_wins}

module _ (c : Chain) (rises : Rising c) (N n : ℕ) where
  -- 'its marks are an allowed setting whose time is exactly the printed one, and every other allowed setting of that sheet takes at least as long'
  pub plan_is_least : 0 < n → least_d c N n < N → IsPlan c n (plan_marks c N n) (least_d c N n)
  plan_is_least h l = record {
    allowed = plan_allowed c N n h l;
    time = plan_time c N n h l;
    least = λ g s. least_d_lower c rises N n g s h;
    first = plan_wins c rises N n h l;
  }

  -- 'too slow' exactly when every allowed setting takes more than N - 1 ticks
  pub too_slow_exactly : 0 < n → (N ≤ least_d c N n) ↔ ((g : Marks) → Allowed c n g → N ≤ D c g n)
  too_slow_exactly h = (λ l g s. omega (arith, least_d_lower c rises N n g s h), λ all. go all (dec_le N (least_d c N n)))
    where
      go : ((g : Marks) → Allowed c n g → N ≤ D c g n) → Dec (N ≤ least_d c N n) → N ≤ least_d c N n
      go all (yes l) = l
      go all (no l) = omega (arith, all (plan_marks c N n) (plan_allowed c N n h (omega arith)), plan_time c N n h (omega arith))

-- where one setting is allowed there is a plan: the search's, with a limit above the time of that setting
pub allowed_has_plan : (c : Chain) → Rising c → (n : ℕ) → 0 < n → (f : Marks) → Allowed c n f → HasLeast c n
allowed_has_plan c rises n h f s =
    let N : ℕ = suc (D c f n) in
    record {
      marks = plan_marks c N n;
      time = least_d c N n;
      plan = plan_is_least c rises N n h (omega (arith, least_d_lower c rises N n f s h));
    }

-- a sheet has at most one plan: its time and its marks are determined
pub plan_is_determined : (c : Chain) (n : ℕ) (f g : Marks) (t s : ℕ) → IsPlan c n f t → IsPlan c n g s
    → (t ≡ s) × ((v : ℕ) → 0 < v → v ≤ n → f v ≡ g v)
plan_is_determined c n f g t s p q =
    let e : t ≡ s = omega (arith, p.least g q.allowed, q.least f p.allowed, p.time, q.time) in (
      e,
      λ v a b. wins_same n f g (p.first g q.allowed (q.time ∙ sym e)) (q.first f p.allowed (p.time ∙ e)) v a b
          (p.allowed.setting.marks v a b) (q.allowed.setting.marks v a b),
    )
