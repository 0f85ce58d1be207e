-- A job whose costs are not less has a chain that is nowhere cheaper, in energy by any powers and so in time; and checks 7 and 8 refuse the cheaper job only where
-- they refuse the dearer. Assumes nothing.
use Prim.Native.Nat.{ℕ, ◌+◌, ◌-◌, ◌*◌, ◌≤◌}
use mathlib.Core.Path.{◌≡◌, refl}
use mathlib.Core.Bool.{false}
use mathlib.Core.List.{List}
use mathlib.Core.Logic.{◌⊎◌, inl, inr}
use native.Mathlib.Nat.{le_trans, mul-le-mul_left}
use native.Mathlib.Omega.{arith}
use Rattle.units.specs.Unit.{unit, up}
use Rattle.units.proofs.Laws.{up_mono}
use Rattle.growth.specs.Growth.{G, H}
use Rattle.chain.specs.Dearer.{NowhereLess}
use Rattle.chain.specs.Time.{Marks, D}
use Rattle.chain.specs.Plan.{IsPlan}
use Rattle.chain.proofs.Equations.{past_le}
use Rattle.chain.proofs.Dearer.{D_dearer, least_dearer, nowhere_same}
use Rattle.job.specs.Job.{between, exponent, is_allowed, stretch_allowed}
use Rattle.job.specs.Checks.{bad_value, bad_task}
use Rattle.job.specs.declared.Job.{Job}
use Rattle.job.specs.declared.Platform.{Platform}
use Rattle.job.proofs.Ranges.{weights_right, costs_right, costs_bounded, costs_pass, value_passes}
use Rattle.marks.specs.Marks.{marks_of, bad_stretch, bad_stretches, marks_conditions}
use Rattle.costs.specs.Costs.{v_at, cm_at, cd_at, rd_at, rm_at}
use Rattle.costs.specs.Stretch.{chain_of, time_of}
use Rattle.costs.specs.Energy.{energy_s, energy_chain, plain}
use Rattle.costs.specs.Dearer.{Cost, DiskCopy, MemoryCopy, Verification, DiskRecovery, MemoryRecovery, cost_of, SameButCosts, OneRaised, CostsRaised, CanRaise}
use Rattle.costs.specs.declared.Powers.{Powers}
use Rattle.costs.proofs.Stretches.{S_rises, plain_same}

-- the cost j is k, or the same in both jobs
abbrev Fixed : Cost → Job → Job → Cost → Type 0
Fixed k a b j = (j ≡ k) ⊎ (cost_of j a.platform ≡ cost_of j b.platform)

-- one cost raised is a case of several
pub raised_dearer : (k : Cost) (a b : Job) → OneRaised k a b → CostsRaised a b
raised_dearer k a b one = record { others = one.others; costs = λ j. go j (one.fixed j) }
  where
    go : (j : Cost) → Fixed k a b j → cost_of j a.platform ≤ cost_of j b.platform
    go j (inl e) = rw e one.raised
    go j (inr e) = omega (arith, e)

-- one for each of the five costs
pub each : (P : Cost → Type 0) → P DiskCopy → P MemoryCopy → P Verification → P DiskRecovery → P MemoryRecovery → (k : Cost) → P k
each P a b c d e DiskCopy = a
each P a b c d e MemoryCopy = b
each P a b c d e Verification = c
each P a b c d e DiskRecovery = d
each P a b c d e MemoryRecovery = e

pub raised_by : (k : Cost) {a b : Job} → SameButCosts a b → cost_of k a.platform ≤ cost_of k b.platform
    → Fixed k a b DiskCopy → Fixed k a b MemoryCopy → Fixed k a b Verification → Fixed k a b DiskRecovery → Fixed k a b MemoryRecovery → OneRaised k a b
raised_by k {a} {b} same more x y z u w = record { others = same; raised = more; fixed = each (Fixed k a b) x y z u w }

-- a job with other costs
abbrev with_costs : Job → (cd cm v rd rm : ℕ) → Job
with_costs a cd cm v rd rm =
    record {
      tasks = a.tasks;
      platform = record { failstop = a.platform.failstop; silent = a.platform.silent; cd = cd; cm = cm; v = v; rd = rd; rm = rm };
      weights = a.weights;
    }

module _ (a : Job) (x : ℕ) where
  raised : (k : Cost) (cd cm v rd rm : ℕ) →
      let b : Job = with_costs a cd cm v rd rm in
      cost_of k a.platform ≤ cost_of k b.platform → Fixed k a b DiskCopy → Fixed k a b MemoryCopy → Fixed k a b Verification → Fixed k a b DiskRecovery
      → Fixed k a b MemoryRecovery → cost_of k b.platform ≡ cost_of k a.platform + x → CanRaise k x a
  raised k cd cm v rd rm more p q r s t e =
      record {
        job = with_costs a cd cm v rd rm;
        one = raised_by k (record { tasks = refl; weights = refl; failstop = refl; silent = refl }) more p q r s t;
        amount = e;
      }

  -- every job can be raised, in each of its costs and by any amount
  pub can_raise : (k : Cost) → CanRaise k x a
  unfolding cost_of
  can_raise =
      let p : Platform = a.platform in
      each (λ k. CanRaise k x a)
      (raised DiskCopy (p.cd + x) p.cm p.v p.rd p.rm (omega arith) (inl refl) (inr refl) (inr refl) (inr refl) (inr refl) refl)
      (raised MemoryCopy p.cd (p.cm + x) p.v p.rd p.rm (omega arith) (inr refl) (inl refl) (inr refl) (inr refl) (inr refl) refl)
      (raised Verification p.cd p.cm (p.v + x) p.rd p.rm (omega arith) (inr refl) (inr refl) (inl refl) (inr refl) (inr refl) refl)
      (raised DiskRecovery p.cd p.cm p.v (p.rd + x) p.rm (omega arith) (inr refl) (inr refl) (inr refl) (inl refl) (inr refl) refl)
      (raised MemoryRecovery p.cd p.cm p.v p.rd (p.rm + x) (omega arith) (inr refl) (inr refl) (inr refl) (inr refl) (inl refl) refl)

module _ (a b : Job) (dearer : CostsRaised a b) where
  v_dearer : (p : ℕ) → v_at a p ≤ v_at b p
  unfolding v_at cost_of
  v_dearer p = dearer.costs Verification

  cm_dearer : (p : ℕ) → cm_at a p ≤ cm_at b p
  unfolding cm_at cost_of
  cm_dearer p = dearer.costs MemoryCopy

  cd_dearer : (p : ℕ) → cd_at a p ≤ cd_at b p
  unfolding cd_at cost_of
  cd_dearer p = dearer.costs DiskCopy

  rd_dearer : (p : ℕ) → rd_at a p ≤ rd_at b p
  unfolding rd_at cost_of
  rd_dearer p = past_le p 0 _ _ (omega arith) (λ _. omega (arith, dearer.costs DiskRecovery, dearer.costs MemoryRecovery))

  rm_dearer : (p : ℕ) → rm_at a p ≤ rm_at b p
  unfolding rm_at cost_of
  rm_dearer p = past_le p 0 _ _ (omega arith) (λ _. dearer.costs MemoryRecovery)

  -- W, y_s and y_f of a stretch are the same
  weight_same : (u w : ℕ) → between a.weights u w ≡ between b.weights u w
  weight_same u w = rw dearer.others.weights

  exponent_s_same : (u w : ℕ) → exponent a.platform.silent (between a.weights u w) ≡ exponent b.platform.silent (between b.weights u w)
  exponent_s_same u w = rw (dearer.others.silent, weight_same u w)

  exponent_f_same : (u w : ℕ) → exponent a.platform.failstop (between a.weights u w) ≡ exponent b.platform.failstop (between b.weights u w)
  exponent_f_same u w = rw (dearer.others.failstop, weight_same u w)

  module _ (p : Powers) where
    stretch_dearer : (u w m d Q' M' : ℕ) → energy_s p a u w m d Q' M' ≤ energy_s p b u w m d Q' M'
    unfolding energy_s
    stretch_dearer u w m d Q' M' =
        let W : ℕ = between b.weights u w in
        let ys : ℕ = exponent b.platform.silent W in
        let yf : ℕ = exponent b.platform.failstop W in
        let verify = mul-le-mul_left p.computing (v_dearer w) in
        let disk = mul-le-mul_left p.saving (rd_dearer d) in
        let memory = mul-le-mul_left p.saving (rm_dearer m) in
        let work : p.computing * up (W * H yf) + p.computing * v_at a w ≤ p.computing * up (W * H yf) + p.computing * v_at b w = omega (arith, verify) in
        let lost : p.saving * rd_at a d + M' ≤ p.saving * rd_at b d + M' = omega (arith, disk) in
        rw (exponent_s_same u w, exponent_f_same u w, weight_same u w)
        (omega (
          arith,
          up_mono (mul-le-mul_left (G ys) work),
          up_mono (mul-le-mul_left (G (ys + yf) - G ys) lost),
          up_mono (mul-le-mul_left (G ys - unit) memory),
        ))

    pub energy_dearer : (n : ℕ) → NowhereLess n (energy_chain p a) (energy_chain p b)
    unfolding energy_chain stretch_allowed is_allowed
    energy_dearer n =
        record {
          allowed = λ u w _ _. rw (exponent_s_same u w, exponent_f_same u w);
          stretch = λ u w m d Q' M' _ _ _ _. stretch_dearer u w m d Q' M';
          cm = λ w _ _. mul-le-mul_left p.saving (cm_dearer w);
          cd = λ w _ _. mul-le-mul_left p.saving (cd_dearer w);
        }

  -- in time: by the powers 1 and 1
  pub chain_dearer : (n : ℕ) → NowhereLess n (chain_of a) (chain_of b)
  chain_dearer n = nowhere_same n (energy_chain plain a) (energy_chain plain b) (chain_of a) (chain_of b) (plain_same n a) (plain_same n b) (energy_dearer plain n)

  -- so the least time is not lower, whether or not it is within the limit
  pub least_not_lower : (n : ℕ) (f g : Marks) (t t' : ℕ) → IsPlan (chain_of a) n f t → IsPlan (chain_of b) n g t' → t ≤ t'
  least_not_lower n = least_dearer n (chain_of a) (chain_of b) (S_rises b) (chain_dearer n)

  -- every list of marks takes at least as long
  pub time_dearer : (l : List ℕ) → time_of a l ≤ time_of b l
  unfolding time_of
  time_dearer l = up_to dearer.others.tasks
    where
      up_to : {n k : ℕ} → n ≡ k → D (chain_of a) (marks_of l) n ≤ D (chain_of b) (marks_of l) k
      up_to {n} e = rw (← e) (D_dearer n (chain_of a) (chain_of b) (S_rises b) (chain_dearer n) (marks_of l))

  -- and passes checks 9 and 10 for both jobs or for neither
  pub marks_same : (l : List ℕ) → marks_conditions a l ≡ marks_conditions b l
  unfolding bad_stretches bad_stretch stretch_allowed is_allowed
  marks_same l = rw (dearer.others.tasks, dearer.others.weights, dearer.others.failstop, dearer.others.silent)

  -- 7: what is in range for the dearer job is in range for the cheaper
  pub value_cheaper : bad_value b ≡ false → bad_value a ≡ false
  unfolding cost_of
  value_cheaper e =
      let within = costs_bounded b.platform (costs_right b e) in
      value_passes a
      (costs_pass a.platform (record {
        cd = le_trans (dearer.costs DiskCopy) within.cd;
        cm = le_trans (dearer.costs MemoryCopy) within.cm;
        v = le_trans (dearer.costs Verification) within.v;
        rd = le_trans (dearer.costs DiskRecovery) within.rd;
        rm = le_trans (dearer.costs MemoryRecovery) within.rm;
      }))
      (rw (dearer.others.tasks, dearer.others.weights) (weights_right b e))

  -- 8: it asks no cost
  pub task_same : bad_task a ≡ bad_task b
  unfolding bad_task is_allowed
  task_same = rw (dearer.others.tasks, dearer.others.weights, dearer.others.failstop, dearer.others.silent)
