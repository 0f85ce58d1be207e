use Rattle.filling.proofs.Fills.{table_more}
use mathlib.Core.Path.{refl, ◌∙◌}
use native.Mathlib.Omega.{arith}
use Rattle.costs.proofs.Ranges.{rm_energy, rd_energy, cm_energy, cd_energy}
use Rattle.filling.proofs.fill_costs.Goals as goal

pub overflow_mul-cm : goal.overflow_mul-cm
overflow_mul-cm c =
    let pre = c.requires in
    let loop = c.loop-v in
    let cm-of = c.cm_of in
    record { fits = rw (cm-of.ensures.value c.args.job refl) (omega (arith, cm_energy _ _ pre.products loop.v)) }

pub overflow_mul-cd : goal.overflow_mul-cd
overflow_mul-cd c =
    let pre = c.requires in
    let loop = c.loop-v in
    let cd-of = c.cd_of in
    record { fits = rw (cd-of.ensures.value c.args.job refl) (omega (arith, cd_energy _ _ pre.products loop.v)) }

pub overflow_mul-rd : goal.overflow_mul-rd
overflow_mul-rd c =
    let pre = c.requires in
    let loop = c.loop-v in
    let rd-of = c.rd_of in
    record { fits = rw (rd-of.ensures.value c.args.job refl) (omega (arith, rd_energy _ _ pre.products loop.v)) }

pub overflow_mul-rm : goal.overflow_mul-rm
overflow_mul-rm c =
    let pre = c.requires in
    let loop = c.loop-v in
    let rm-of = c.rm_of in
    record { fits = rw (rm-of.ensures.value c.args.job refl) (omega (arith, rm_energy _ _ pre.products loop.v)) }

pub put_in_column-requires : goal.put_in_column-requires
put_in_column-requires c =
    let pre = c.requires in
    let loop = c.loop-v in
    let cm-of = c.cm_of in
    record {
      place = record { long = omega (arith, loop.invariant.table.long); few = omega (arith, pre.sound.few_tasks) };
      range = rw (cm-of.ensures.value c.args.job refl) (omega (arith, cm_energy _ _ pre.products loop.v));
    }

pub put_in_column-requires-in-loop-v : goal.put_in_column-requires-in-loop-v
put_in_column-requires-in-loop-v c =
    let pre = c.requires in
    let loop = c.loop-v in
    let cd-of = c.cd_of in
    let t = c.t-1 in
    record {
      place = record { long = omega (arith, loop.invariant.table.long, t.given); few = omega (arith, pre.sound.few_tasks) };
      range = rw (cd-of.ensures.value c.args.job refl) (omega (arith, cd_energy _ _ pre.products loop.v));
    }

pub put_in_column-requires-in-loop-v-2 : goal.put_in_column-requires-in-loop-v-2
put_in_column-requires-in-loop-v-2 c =
    let pre = c.requires in
    let loop = c.loop-v in
    let rd-of = c.rd_of in
    let t = c.t-1 in
    let t2 = c.t-in-loop-v-1 in
    record {
      place = record { long = omega (arith, loop.invariant.table.long, t.given, t2.given); few = omega (arith, pre.sound.few_tasks) };
      range = rw (rd-of.ensures.value c.args.job refl) (omega (arith, rd_energy _ _ pre.products loop.v));
    }

pub put_in_column-requires-in-loop-v-3 : goal.put_in_column-requires-in-loop-v-3
put_in_column-requires-in-loop-v-3 c =
    let pre = c.requires in
    let loop = c.loop-v in
    let rm-of = c.rm_of in
    let t = c.t-1 in
    let t2 = c.t-in-loop-v-1 in
    let t3 = c.t-in-loop-v-2-1 in
    record {
      place = record { long = omega (arith, loop.invariant.table.long, t.given, t2.given, t3.given); few = omega (arith, pre.sound.few_tasks) };
      range = rw (rm-of.ensures.value c.args.job refl) (omega (arith, rm_energy _ _ pre.products loop.v));
    }

pub loop-v-preserved : goal.loop-v-preserved
loop-v-preserved c =
    let loop-test = c.loop-v-test in
    let args = c.args in
    let loop = c.loop-v in
    let pre = c.requires in
    let cm-of = c.cm_of in
    let cd-of = c.cd_of in
    let rd-of = c.rd_of in
    let rm-of = c.rm_of in
    let put-in-column = c.put_in_column in
    let put-in-column2 = c.put_in_column-in-loop-v in
    let put-in-column3 = c.put_in_column-in-loop-v-2 in
    let put-in-column4 = c.put_in_column-in-loop-v-3 in
    let t4 = c.t-in-loop-v-3-1 in
    let t3 = c.t-in-loop-v-2-1 in
    let t2 = c.t-in-loop-v-1 in
    let t = c.t-1 in
    let table = table_more args.powers args.job loop.v loop.t loop.invariant.table (omega (arith, pre.sound.few_tasks)) (omega (arith, loop-test.true)) in
    record {
      table =
          rw (
            put-in-column4.ensures,
            put-in-column3.ensures,
            put-in-column2.ensures,
            put-in-column.ensures,
            (rm-of.ensures.value c.args.job refl),
            (rd-of.ensures.value c.args.job refl),
            (cd-of.ensures.value c.args.job refl),
            (cm-of.ensures.value c.args.job refl),
          )
          table;
      same_long = t4.given ∙ t3.given ∙ t2.given ∙ t.given ∙ loop.invariant.same_long;
    }
