-- The table is filled pair by pair and position by position: what is put is there, and what was there stays. A filled table holds the job's chain in energy,
-- within bounds.
-- Assumes nothing.
use native.Mathlib.Nat.{le_trans}
use Prim.Native.Nat.{ℕ, zero, suc, ◌+◌, ◌-◌, ◌*◌, ◌≤◌, ◌<◌}
use mathlib.Core.Path.{◌≡◌, ◌∙◌, refl, ap}
use mathlib.Core.Logic.{inl, inr, ◌≢◌}
use mathlib.Core.List.{List}
use native.Mathlib.Decide.{ℕ_discrete}
use native.Mathlib.Omega.{arith}
use borrow.Author.Tests.{eqb-false, not-true}
use lib.ListN.{length, set, length-set}
use Rattle.growth.proofs.Laws.{G_cap}
use Rattle.chain.specs.Working.Factors.{Factored}
use Rattle.chain.specs.Working.Same.{SameAllowed}
use Rattle.chain.specs.declared.Factors.{Factors}
use Rattle.job.specs.Job.{total, weight_at, between, exponent}
use Rattle.units.specs.Limits.{positions}
use Rattle.job.specs.Working.Sound.{Sound}
use Rattle.job.specs.declared.Job.{Job}
use Rattle.job.specs.declared.Platform.{Platform}
use Rattle.job.proofs.Weights.{total_more}
use Rattle.costs.specs.Costs.{v_at, cm_at, cd_at, rd_at, rm_at}
use Rattle.costs.specs.Energy.{energy_chain, ProductsFit}
use Rattle.costs.specs.Working.Factors.{energy_factors_of, energy_factors_at, ReadyForEnergy, FactorsIfAllowed}
use Rattle.costs.specs.declared.Powers.{Powers}
use Rattle.costs.proofs.Ranges.{cm_energy, cd_energy, rd_energy, rm_energy}
use Rattle.costs.proofs.Stretches.{energy_factors, energy_ready, energy_decides, energy_factored}
use Rattle.table.specs.Working.Table.{cm_start, cd_start, rd_start, rm_start, entry_of, column, chain_in, put_pair, PairFits, Packable, Bounded, Firsts, FirstsPut}
use Rattle.table.proofs.Pairs.{needed_less}
use Rattle.table.proofs.Table.{length_put_pair, put_pair_here, put_pair_apart, column_here, column_apart, column_entry, firsts_entry, firsts_column}
use Rattle.filling.specs.Weight.{weight_after}
use Rattle.filling.specs.Working.Fill.{EarlierPair, PairsTo, TableTo, TableOf}

-- the total up to u and the next k weights, added, are the total up to u + k
pub weight_after_lem : (w : List ℕ) (u k : ℕ) → total w u + weight_after w u k ≡ total w (u + k)
unfolding weight_after
weight_after_lem w u zero = let e : u + zero ≡ u = omega arith in rw e (omega arith)
weight_after_lem w u (suc k) =
    let e : u + suc k ≡ u + k + 1 = omega arith in
    rw (e, total_more w (u + k)) (omega (arith, weight_after_lem w u k))

-- at the pair (u, v): the weight is the sum of those of tasks u + 1 to v, it is W, and W and V are in range
pub record Weighed (powers : Powers) (job : Job) (u v weight : ℕ) : Type 0 where
  pub sum : weight ≡ weight_after job.weights u (v - u)
  pub between_ends : weight ≡ between job.weights u v
  pub ready : ReadyForEnergy powers (between job.weights u v) (v_at job v)

-- one task more
pub weighed_more : (powers : Powers) (job : Job) → Sound job → ProductsFit powers job → (u v weight : ℕ) → u < v → v ≤ job.tasks
    → weight ≡ weight_after job.weights u (v - 1 - u) → Weighed powers job u v (weight + weight_at job.weights (v - 1))
unfolding between weight_after
weighed_more powers job sound products u v weight a b running =
    let w = job.weights in
    let steps : v - u ≡ suc (v - 1 - u) = omega arith in
    let task : v - 1 ≡ u + (v - 1 - u) = omega arith in
    let end : u + (v - u) ≡ v = omega arith in
    let sum : weight + weight_at w (v - 1) ≡ weight_after w u (v - u) = rw (steps, running) (ap (λ (i : ℕ). weight_after w u (v - 1 - u) + weight_at w i) task) in
    record {
      sum = sum;
      between_ends = sum ∙ omega (arith, rw end at (weight_after_lem w u (v - u)));
      ready = energy_ready powers job sound products u v b;
    }

-- so the factors can be worked out, and are those of the pair
module _ (powers : Powers) (job : Job) (u v weight cost : ℕ) (weighed : Weighed powers job u v weight) (verified : cost ≡ v_at job v) where
  pub weighed_ready : ReadyForEnergy powers weight cost
  weighed_ready = rw (weighed.between_ends, verified) weighed.ready

  pub weighed_factors : (f : Factors) → FactorsIfAllowed (energy_factors_of powers job.platform weight cost) f → FactorsIfAllowed (energy_factors_at powers job u v) f
  weighed_factors f e = rw (weighed.between_ends, verified) at e

-- growth sums fit 32 bits
pub factors_packable : (powers : Powers) (p : Platform) (W v : ℕ) (f : Factors) → FactorsIfAllowed (energy_factors_of powers p W v) f → Packable f
unfolding energy_factors_of
factors_packable powers p W v f h =
    record {
      silent = omega (arith, h.silent, G_cap (exponent p.silent W));
      both = omega (arith, h.both, G_cap (exponent p.silent W + exponent p.failstop W));
    }

module _ (powers : Powers) (job : Job) (u v : ℕ) (t : List ℕ) (h : PairsTo powers job u v t) where
  -- the factors of the next pair
  pub pairs_more : u < v → v ≤ job.tasks → job.tasks < positions → (f : Factors) → FactorsIfAllowed (energy_factors_at powers job u v) f
      → PairsTo powers job u (v + 1) (put_pair t u v f)
  pairs_more k l few f e =
      record {
        long = omega (arith, length_put_pair t u v f fits, h.long);
        pairs = λ x y a b c. at x y a b c (ℕ_discrete x u) (ℕ_discrete y v);
      }
    where
      fits : PairFits t u v
      fits = record { long = le_trans (needed_less v job.tasks l) h.long; pair = record { order = k; few = omega arith } }

      earlier : (x y : ℕ) → (x ≡ u → y ≡ v → ⊥) → EarlierPair x y u (v + 1) → EarlierPair x y u v
      earlier x y n (inl z) = inl z
      earlier x y n (inr z) = inr (z.0, omega (arith, z.1, n z.0))

      other : (x y : ℕ) → x < y → y ≤ job.tasks → EarlierPair x y u (v + 1) → (x ≡ u → y ≡ v → ⊥)
          → FactorsIfAllowed (energy_factors_at powers job x y) (entry_of (put_pair t u v f) x y)
      other x y a b c n = rw (put_pair_apart t u v f fits x y (record { order = a; few = omega arith }) n) (h.pairs x y a b (earlier x y n c))

      at : (x y : ℕ) → x < y → y ≤ job.tasks → EarlierPair x y u (v + 1) → Dec (x ≡ u) → Dec (y ≡ v)
          → FactorsIfAllowed (energy_factors_at powers job x y) (entry_of (put_pair t u v f) x y)
      at x y a b c (yes p) (yes q) = rw (p, q, put_pair_here t u v f fits) e
      at x y a b c (yes p) (no q) = other x y a b c (λ _ z. q z)
      at x y a b c (no p) q = other x y a b c (λ z _. p z)

-- a column has its entries before k, with the cost that the job gives at each
module _ (cost : ℕ → ℕ) (start k : ℕ) (t : List ℕ) (old : (v : ℕ) → v < k → column start t v ≡ cost v) where
  -- one entry more
  column_more : start + k < length t → (v : ℕ) → v < k + 1 → column start (set t (start + k) (cost k)) v ≡ cost v
  column_more h v l = go (ℕ_discrete v k)
    where
      go : Dec (v ≡ k) → column start (set t (start + k) (cost k)) v ≡ cost v
      go (yes e) = rw e (column_here t (start + k) (cost k) start k refl h)
      go (no e) = column_apart t (start + k) (cost k) start v (λ z. e (omega arith)) ∙ old v (omega arith)

  -- an entry of another column changes none of them
  column_kept : (i x : ℕ) → ((v : ℕ) → v < k → start + v ≢ i) → (v : ℕ) → v < k → column start (set t i x) v ≡ cost v
  column_kept i x apart v l = column_apart t i x start v (apart v l) ∙ old v l

-- the table with the four costs of the position k
module _ (powers : Powers) (job : Job) (k : ℕ) where
  abbrev cm : ℕ → ℕ
  cm v = powers.saving * cm_at job v

  abbrev cd : ℕ → ℕ
  cd v = powers.saving * cd_at job v

  abbrev rd : ℕ → ℕ
  rd v = powers.saving * rd_at job v

  abbrev rm : ℕ → ℕ
  rm v = powers.saving * rm_at job v

  abbrev put_cm : List ℕ → List ℕ
  put_cm t = set t (cm_start + k) (cm k)

  abbrev put_cd : List ℕ → List ℕ
  put_cd t = set (put_cm t) (cd_start + k) (cd k)

  abbrev put_rd : List ℕ → List ℕ
  put_rd t = set (put_cd t) (rd_start + k) (rd k)

  abbrev pub put_costs : List ℕ → List ℕ
  put_costs t = set (put_rd t) (rm_start + k) (rm k)

  module _ (t : List ℕ) (h : TableTo powers job k t) (few : job.tasks < positions) (here : k ≤ job.tasks) where
    pub costs_long : length (put_costs t) ≡ length t
    costs_long =
        length-set (put_rd t) (rm_start + k) (rm k)
        ∙ length-set (put_cd t) (rd_start + k) (rd k)
        ∙ length-set (put_cm t) (cd_start + k) (cd k)
        ∙ length-set t (cm_start + k) (cm k)

    pub table_more : TableTo powers job (k + 1) (put_costs t)
    table_more =
        record {
          long = omega (arith, costs_long, h.long);
          pairs =
              λ x y a b.
              rw (
                column_entry (put_rd t) (rm_start + k) (rm k) x y (omega arith),
                column_entry (put_cd t) (rd_start + k) (rd k) x y (omega arith),
                column_entry (put_cm t) (cd_start + k) (cd k) x y (omega arith),
                column_entry t (cm_start + k) (cm k) x y (omega arith),
              )
              (h.pairs x y a b);
          cm =
              column_kept cm cm_start (k + 1) (put_rd t)
              (column_kept cm cm_start (k + 1) (put_cd t)
              (column_kept cm cm_start (k + 1) (put_cm t) (column_more cm cm_start k t h.cm (omega (arith, h.long))) (cd_start + k) (cd k) (λ v l e. omega arith))
              (rd_start + k) (rd k) (λ v l e. omega arith))
              (rm_start + k) (rm k) (λ v l e. omega arith);
          cd =
              column_kept cd cd_start (k + 1) (put_rd t)
              (column_kept cd cd_start (k + 1) (put_cd t)
              (column_more cd cd_start k (put_cm t) (column_kept cd cd_start k t h.cd (cm_start + k) (cm k) (λ v l e. omega arith)) (omega (arith, h.long, length-set t (cm_start + k) (cm k))))
              (rd_start + k) (rd k) (λ v l e. omega arith))
              (rm_start + k) (rm k) (λ v l e. omega arith);
          rd =
              column_kept rd rd_start (k + 1) (put_rd t)
              (column_more rd rd_start k (put_cd t)
              (column_kept rd rd_start k (put_cm t) (column_kept rd rd_start k t h.rd (cm_start + k) (cm k) (λ v l e. omega arith)) (cd_start + k) (cd k) (λ v l e. omega arith))
              (omega (arith, h.long, length-set t (cm_start + k) (cm k), length-set (put_cm t) (cd_start + k) (cd k))))
              (rm_start + k) (rm k) (λ v l e. omega arith);
          rm =
              column_more rm rm_start k (put_rd t)
              (column_kept rm rm_start k (put_cd t)
              (column_kept rm rm_start k (put_cm t) (column_kept rm rm_start k t h.rm (cm_start + k) (cm k) (λ v l e. omega arith)) (cd_start + k) (cd k) (λ v l e. omega arith))
              (rd_start + k) (rd k) (λ v l e. omega arith))
              (omega (arith, h.long, length-set t (cm_start + k) (cm k), length-set (put_cm t) (cd_start + k) (cd k), length-set (put_cd t) (rd_start + k) (rd k)));
        }

-- the firsts change nothing else
pub table_firsts : (powers : Powers) (job : Job) (k : ℕ) (t t' : List ℕ) → job.tasks < positions → k ≤ positions → TableTo powers job k t → FirstsPut t k t'
    → TableTo powers job k t'
table_firsts powers job k t t' few room h put =
    record {
      long = omega (arith, put.long, h.long);
      pairs = λ x y a b. rw (firsts_entry t k t' put x y) (h.pairs x y a b);
      cm = λ v l. firsts_column t k t' put cm_start (omega arith) v (omega arith) ∙ h.cm v l;
      cd = λ v l. firsts_column t k t' put cd_start (omega arith) v (omega arith) ∙ h.cd v l;
      rd = λ v l. firsts_column t k t' put rd_start (omega arith) v (omega arith) ∙ h.rd v l;
      rm = λ v l. firsts_column t k t' put rm_start (omega arith) v (omega arith) ∙ h.rm v l;
    }

-- a full table holds the job's chain in energy
module _ (powers : Powers) (job : Job) (sound : Sound job) (products : ProductsFit powers job) (t : List ℕ) (full : TableTo powers job (job.tasks + 1) t)
    (firsts : Firsts job.tasks t) where
  factored_if : (u v : ℕ) → u < v → v ≤ job.tasks → (entry_of t u v).both ≢ 0 → Factored (entry_of t u v)
  factored_if u v h l n =
      let pair = full.pairs u v h l in rw (pair.all n) (energy_factored powers job sound products u v l (λ z. n (pair.both ∙ z)))

  table_bounded : Bounded job.tasks t
  table_bounded =
      record {
        long = full.long;
        few = omega (arith, sound.few_tasks);
        factored = factored_if;
        cm = λ v h. rw (full.cm v (omega arith)) (cm_energy powers job products v);
        cd = λ v h. rw (full.cd v (omega arith)) (cd_energy powers job products v);
        rd = λ v h. rw (full.rd v (omega arith)) (omega (arith, rd_energy powers job products v));
        rm = λ v h. rw (full.rm v (omega arith)) (rm_energy powers job products v);
        firsts = firsts;
      }

  table_same : SameAllowed job.tasks (chain_in t) (energy_chain powers job)
  unfolding chain_in energy_chain
  table_same =
      record {
        allowed = λ u v a b. rw (full.pairs u v a b).both (energy_decides powers job sound products u v b);
        stretch =
            λ u v m d Q' M' x y a b e.
            rw (energy_factors powers job u v m d Q' M', (full.pairs u v a b).all (eqb-false _ _ (not-true _ e)), full.rd d (omega arith), full.rm m (omega arith));
        cm = λ v a b. full.cm v (omega arith);
        cd = λ v a b. full.cd v (omega arith);
      }

  pub table_of : TableOf powers job t
  table_of = record { bounded = table_bounded; same = table_same }
