use Prim.Native.Nat.{ℕ, ◌+◌, ◌-◌, ◌≤◌, ◌<◌}
use mathlib.Core.Path.{◌≡◌, ◌∙◌, refl}
use mathlib.Core.List.{List}
use native.Mathlib.Nat.{le_trans}
use native.Mathlib.Omega.{arith}
use Rattle.job.specs.Job.{weight_at}
use Rattle.job.specs.declared.Job.{Job}
use Rattle.costs.specs.declared.Powers.{Powers}
use Rattle.table.proofs.Pairs.{needed_less}
use Rattle.filling.specs.Weight.{weight_after}
use Rattle.filling.specs.Working.Fill.{ReadyToFill}
use Rattle.filling.proofs.Fills.{Weighed, weighed_more, weighed_ready, weighed_factors, factors_packable, pairs_more}
use Rattle.filling.proofs.fill_pairs.Invariants.{Pairs-to}
use Rattle.filling.proofs.fill_pairs.Goals as goal

-- the weight at hand and that of the task which ends at v
weighed_here : {t₀ t₁ t : List ℕ} {powers : Powers} {job : Job} {u weight v : ℕ} → ReadyToFill powers job t₁ → Pairs-to t₀ powers job u t weight v → u < v
    → v ≤ job.tasks → Weighed powers job u v (weight + weight_at job.weights (v - 1))
weighed_here ready far order within = weighed_more _ _ ready.sound ready.products _ _ _ order within far.running

pub loop-v-init : goal.loop-v-init
unfolding weight_after
loop-v-init c =
    let loop = c.loop-u in
    let none : loop.u + 1 - 1 - loop.u ≡ 0 = omega arith in
    record { running = rw none; pairs = loop.invariant.pairs; same_long = refl }

pub overflow_add-weight : goal.overflow_add-weight
overflow_add-weight c =
    let loop2 = c.loop-v in
    let weighed = weighed_here c.requires loop2.invariant (omega arith) (omega arith) in
    omega (arith, weighed.between_ends, weighed.ready)

pub factors_if_allowed-f-requires : goal.factors_if_allowed-f-requires
factors_if_allowed-f-requires c =
    let v-of = c.v_of in
    let loop2 = c.loop-v in
    let weighed = weighed_here c.requires loop2.invariant (omega arith) (omega arith) in
    weighed_ready _ _ _ _ _ _ weighed (v-of.ensures.value c.args.job refl)

pub put_pair-requires : goal.put_pair-requires
put_pair-requires c =
    let factors-if-allowed = c.factors_if_allowed-f in
    let loop2 = c.loop-v in
    let pre = c.requires in
    record {
      fits = record {
        long = le_trans (needed_less _ _ (omega arith)) loop2.invariant.pairs.long;
        pair = record { order = omega arith; few = omega (arith, pre.sound.few_tasks) };
      };
      packable = factors_packable _ _ _ _ _ factors-if-allowed.ensures;
    }

pub loop-v-preserved : goal.loop-v-preserved
loop-v-preserved c =
    let loop2 = c.loop-v in
    let v-of = c.v_of in
    let factors-if-allowed = c.factors_if_allowed-f in
    let put-pair = c.put_pair in
    let t = c.t-1 in
    let weighed = weighed_here c.requires loop2.invariant (omega arith) (omega arith) in
    let factors = weighed_factors _ _ _ _ _ _ weighed (v-of.ensures.value c.args.job refl) _ factors-if-allowed.ensures in
    let next : loop2.v + 1 - 1 ≡ loop2.v = omega arith in
    record {
      running = rw next weighed.sum;
      pairs = rw put-pair.ensures (pairs_more _ _ _ _ _ loop2.invariant.pairs (omega arith) (omega arith) (omega (arith, c.requires.sound.few_tasks)) _ factors);
      same_long = t.given ∙ loop2.invariant.same_long;
    }
