-- Powers that are not less give every setting an energy that is nowhere less. By the powers 1 and 1 energy is time, so by powers of at least 1 no setting takes more
-- time than energy. Assumes nothing.
use Prim.Native.Nat.{ℕ, ◌+◌, ◌-◌, ◌*◌, ◌≤◌}
use mathlib.Core.Path.{refl}
use mathlib.Core.List.{List}
use native.Mathlib.Nat.{mul-le-mul_left, mul-le-mul_right}
use native.Mathlib.Omega.{arith}
use Rattle.units.specs.Unit.{unit, up}
use Rattle.units.proofs.Laws.{up_mono}
use Rattle.growth.specs.Growth.{G, H}
use Rattle.chain.specs.Dearer.{NowhereLess}
use Rattle.chain.proofs.Dearer.{D_dearer, nowhere_same}
use Rattle.job.specs.Job.{between, exponent}
use Rattle.job.specs.declared.Job.{Job}
use Rattle.marks.specs.Marks.{marks_of}
use Rattle.costs.specs.Costs.{v_at, cm_at, cd_at, rd_at, rm_at}
use Rattle.costs.specs.Stretch.{chain_of, time_of}
use Rattle.costs.specs.Energy.{energy_s, energy_chain, energy_of, plain}
use Rattle.costs.specs.declared.Powers.{Powers}
use Rattle.costs.proofs.Stretches.{energy_rises, plain_same}

module _ (job : Job) (p q : Powers) (computing : p.computing ≤ q.computing) (saving : p.saving ≤ q.saving) where
  stretch_more : (u w m d Q' M' : ℕ) → energy_s p job u w m d Q' M' ≤ energy_s q job u w m d Q' M'
  unfolding energy_s
  stretch_more u w m d Q' M' =
      let W : ℕ = between job.weights u w in
      let ys : ℕ = exponent job.platform.silent W in
      let yf : ℕ = exponent job.platform.failstop W in
      let work : p.computing * up (W * H yf) + p.computing * v_at job w ≤ q.computing * up (W * H yf) + q.computing * v_at job w =
      omega (arith, mul-le-mul_right (up (W * H yf)) computing, mul-le-mul_right (v_at job w) computing) in
      let lost : p.saving * rd_at job d + M' ≤ q.saving * rd_at job d + M' = omega (arith, mul-le-mul_right (rd_at job d) saving) in
      omega (
        arith,
        up_mono (mul-le-mul_left (G ys) work),
        up_mono (mul-le-mul_left (G (ys + yf) - G ys) lost),
        up_mono (mul-le-mul_left (G ys - unit) (mul-le-mul_right (rm_at job m) saving)),
      )

  pub powers_dearer : (n : ℕ) → NowhereLess n (energy_chain p job) (energy_chain q job)
  unfolding energy_chain
  powers_dearer n =
      record {
        allowed = λ u w _ _. refl;
        stretch = λ u w m d Q' M' _ _ _ _. stretch_more u w m d Q' M';
        cm = λ w _ _. mul-le-mul_right (cm_at job w) saving;
        cd = λ w _ _. mul-le-mul_right (cd_at job w) saving;
      }

-- by powers of at least 1
module _ (job : Job) (p : Powers) (computing : plain.computing ≤ p.computing) (saving : plain.saving ≤ p.saving) where
  time_cheaper : (n : ℕ) → NowhereLess n (chain_of job) (energy_chain p job)
  time_cheaper n =
      nowhere_same n (energy_chain plain job) (energy_chain p job) (chain_of job) (energy_chain p job) (plain_same n job)
      (record { allowed = λ _ _ _ _. refl; stretch = λ _ _ _ _ _ _ _ _ _ _. refl; cm = λ _ _ _. refl; cd = λ _ _ _. refl })
      (powers_dearer job plain p computing saving n)

  -- no marks take more time than energy
  pub time_in_energy : (l : List ℕ) → time_of job l ≤ energy_of p job l
  unfolding time_of energy_of
  time_in_energy l =
      D_dearer job.tasks (chain_of job) (energy_chain p job) (energy_rises p job) (time_cheaper job.tasks) (marks_of l)
