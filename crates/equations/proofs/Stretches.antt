-- Equation (4) from the growths of a stretch: they tell whether it is allowed, and where it is, its parts are in range. Assumes nothing.
use Prim.Native.Nat.{ℕ, ◌+◌, ◌≤◌}
use mathlib.Core.Path.{◌≡◌, sym, ◌∙◌, ap}
use mathlib.Core.Logic.{◌≢◌}
use mathlib.Core.Bool.{true, false, not}
use native.Mathlib.Omega.{arith}
use borrow.Author.Tests.{eq-eqb, ne_eqb}
use lib.Dec.{eqb}
use Rattle.units.specs.Limits.{none}
use Rattle.chain.specs.declared.Factors.{Factors}
use Rattle.chain.specs.Working.Factors.{stretch_of, ReadyForStretch}
use Rattle.chain.specs.Working.Search.{least_q}
use Rattle.job.specs.Job.{stretch_allowed}
use Rattle.job.specs.declared.Job.{Job}
use Rattle.costs.specs.Costs.{rd_at, rm_at}
use Rattle.costs.specs.Stretch.{chain_of}
use Rattle.costs.specs.Working.Factors.{factors_at}
use Rattle.costs.proofs.Ranges.{rd_at_range, rm_at_range}
use Rattle.costs.proofs.Stretches.{S_factors, both_decides, both_factored}
use Rattle.equations.specs.Equations.{E}
use Rattle.equations.specs.Working.Ready.{ReadyForE}

-- E by whether the stretch is allowed, which its growths f tell
module _ {job : Job} {d1 m1 mem v1 v2 : ℕ} (pre : ReadyForE job d1 m1 mem v1 v2) {f : Factors} (is : f ≡ factors_at job v1 v2) where
  both_is : f.both ≡ (factors_at job v1 v2).both
  both_is = ap (λ (f : Factors). f.both) is

  decides : not (eqb (factors_at job v1 v2).both 0) ≡ stretch_allowed job v1 v2
  decides = both_decides job pre.stretch.sound v1 v2 pre.stretch.end

  pub stretch_none : f.both ≡ 0 → none ≡ E (chain_of job) none d1 m1 mem v1 v2
  unfolding chain_of
  stretch_none z = rw no
    where
      no : stretch_allowed job v1 v2 ≡ false
      no = sym decides ∙ ap not (eq-eqb _ 0 (sym both_is ∙ z))

  module _ (n : f.both ≢ 0) where
    pub stretch_ready : (q : ℕ) → q ≤ none → ReadyForStretch f (record { disk = rd_at job d1 + mem; memory = rm_at job m1 }) q
    stretch_ready q k =
        let sound = pre.stretch.sound in
        record {
          factors = rw is (both_factored job sound v1 v2 pre.stretch.end (λ z. n (both_is ∙ z)));
          recoveries = record { disk = omega (arith, pre.time, rd_at_range job sound.costs d1); memory = rm_at_range job sound.costs m1 };
          time = k;
        }

    pub stretch_some : stretch_of f (record { disk = rd_at job d1 + mem; memory = rm_at job m1 }) (least_q (chain_of job) none d1 m1 mem v1)
        ≡ E (chain_of job) none d1 m1 mem v1 v2
    unfolding chain_of
    stretch_some = rw (is, yes) (sym (S_factors job v1 v2 m1 d1 _ mem))
      where
        yes : stretch_allowed job v1 v2 ≡ true
        yes = sym decides ∙ ap not (ne_eqb _ 0 (λ z. n (both_is ∙ z)))
