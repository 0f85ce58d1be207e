-- `progress::arrival` meets its contract. An allowed stretch has growth sums within the caps, and what is carried is below the limit, so that no product wraps.
-- Assumes nothing.
use mathlib.Core.Path.{refl}
use native.Mathlib.Omega.{arith}
use Rattle.costs.proofs.Ranges.{v_at_range, rd_at_range, rm_at_range, factors_bounded}
use Rattle.costs.specs.Working.Factors.{ReadyForFactors}
use Rattle.progress.specs.Working.Progress.{arrival_of}
use Rattle.progress.proofs.arrival.Goals as goal

pub v_of-requires : goal.v_of-requires
v_of-requires c = c.requires.carried.position

pub stretch_factors-factors-requires : goal.stretch_factors-factors-requires
stretch_factors-factors-requires c =
    let pre = c.requires in
    let v-of = c.v_of in
    let args = c.args in
    record {
      weight_range = pre.progress.weight;
      v_range = rw (v-of.ensures.value c.args.job refl) (v_at_range args.job pre.costs args.v);
    }

pub rd_of-requires : goal.rd_of-requires
rd_of-requires c =
    let pre = c.requires in
    omega (arith, pre.carried.disk, pre.carried.memory, pre.carried.position)

pub rm_of-requires : goal.rm_of-requires
rm_of-requires c =
    let pre = c.requires in
    omega (arith, pre.carried.disk, pre.carried.memory, pre.carried.position)

pub stretch_time-requires : goal.stretch_time-requires
stretch_time-requires c =
    let args = c.args in
    let v-of = c.v_of in
    let pre = c.requires in
    let stretch-factors = c.stretch_factors-factors in
    let rd-of = c.rd_of in
    let rm-of = c.rm_of in
    let ready : ReadyForFactors args.s.weight v-of.result = record {
      weight_range = pre.progress.weight;
      v_range = rw (v-of.ensures.value c.args.job refl) (v_at_range args.job pre.costs args.v);
    } in
    record {
      factors = rw stretch-factors.ensures (factors_bounded ready args.job.platform pre.allowed);
      recoveries = record {
        disk = omega (arith, (rd-of.ensures.value c.args.job refl), rd_at_range args.job pre.costs args.s.d, pre.progress.time);
        memory = rw (rm-of.ensures.value c.args.job refl) (rm_at_range args.job pre.costs args.s.m);
      };
      time = omega (arith, pre.progress.time);
    }

pub returns : goal.returns
unfolding arrival_of
returns c =
    let stretch-time = c.stretch_time in
    let rm-of = c.rm_of in
    let rd-of = c.rd_of in
    let stretch-factors = c.stretch_factors-factors in
    let v-of = c.v_of in
    let pre = c.requires in
    record {
      value = rw (
        stretch-time.ensures.value,
        (rm-of.ensures.value c.args.job refl),
        (rd-of.ensures.value c.args.job refl),
        stretch-factors.ensures,
        (v-of.ensures.value c.args.job refl),
      );
      cap = omega (arith, stretch-time.ensures.cap, pre.progress.time);
    }
