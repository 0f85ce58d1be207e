-- The starred examples of document 01 and the team's own hold, by computing the definitions; and on one sheet the marks that have the least time are those of
-- no plan by energy. Assumes nothing.
use Prim.Native.Nat.{ℕ, ◌<◌}
use mathlib.Core.Path.{◌≡◌, refl}
use mathlib.Core.Bool.{true}
use mathlib.Core.List.{List, [], ◌∷◌}
use mathlib.Core.Logic.{◌≢◌}
use native.Mathlib.Omega.{arith}
use lib.Dec.{lit<}
use lib.ListN.{take}
use Rattle.units.specs.Unit.{up}
use Rattle.lists.specs.Lists.{some, tabulate}
use Rattle.refusals.specs.Refusals.{first}
use Rattle.refusals.specs.Answers.{answered}
use Rattle.refusals.specs.declared.Answer.{Answer}
use Rattle.growth.specs.Growth.{ceil_div, term, term_sum, growth_sum, growth, G, H}
use Rattle.chain.specs.Time.{last, times, D}
use Rattle.job.specs.Job.{total, between, is_allowed, stretch_allowed}
use Rattle.job.specs.Checks.{bad_count, bad_cost, bad_weight, bad_value, bad_task}
use Rattle.header.specs.Header.{tasks, tasks_most, sections, offset, size, section, bad_length, bad_form, bad_tasks, bad_sections}
use Rattle.kinds.specs.Kinds.{kind, length_of, index_in, index_of, counted, not_one, one_of_each, wrong_length, bad_kinds}
use Rattle.extents.specs.Extents.{end_before, bad_extent, bad_extents, in_section, covered, stray_byte}
use Rattle.sheet.specs.Reading.{platform_of, weights_of, job_of}
use Rattle.marks.specs.Pays.{table, pays_of}
use Rattle.marks.specs.Marks.{bad_marks, bad_stretch, bad_stretches, marks_conditions}
use Rattle.costs.specs.Costs.{v_at, cm_at, cd_at, rd_at, rm_at, verify_paid, saves_paid}
use Rattle.costs.specs.Stretch.{S, chain_of, time_of}
use Rattle.costs.specs.Energy.{energy_s, energy_chain, energy_of}
use Rattle.pricing.specs.Price.{price_refusal, price_of}
use Rattle.powers.specs.Powers.{out_of_range, passes, bad_computing, saving_passes, bad_saving, bad_powers}
use Rattle.planning.specs.Energy.{energy_refusal, PlansByEnergy}
use Rattle.planning.proofs.ByEnergy.{energy_least}
use Rattle.state.specs.State.{cleared, fresh, zero_run}
use Rattle.rules.specs.Rules.{total_of, broken_values, bad_awaiting, over_total, broken_place, broken, finished}
use Rattle.events.specs.Events.{after_done, after_passed, back_to_memory, back_to_disk, place_after}
use Rattle.following.specs.Run.{next_place, out_of_turn, over_weight, step_refusal, step_of}
use Rattle.starting.specs.Start.{start_refusal, start_of}
use Rattle.history.specs.Events.{steps}
use Rattle.logs.specs.Log.{record_count, record_at, bad_record, event_of}
use Rattle.names.specs.Names.{no_names, is_held, slot_of, put_at, without, naming, dropping, place_under, holding}
use Rattle.named.specs.Named.{name_twice, some_place_broken, bad_names, broken_named}
use Rattle.naming.specs.Calls.{answer, not_held, names_full, name_of, drop_of, return_of}
use Rattle.naming.specs.Log as log
use Rattle.naming.specs.Turns.{call_of, in_turn}
use Rattle.examples.specs.Starred.{
  header_a,
  platform_a,
  weights_a,
  sheet_a,
  weights_first,
  stray_before,
  stray_between,
  stray_after,
  stray_kinds,
  stray_overlap,
  sheet_one,
  sheet_b,
  dear_a,
  powers,
  energy_under,
  time_under,
  number_under,
  run_of_a,
  named_of_a,
  starred,
  all_agree,
}

pub starred_examples : all_agree starred ≡ true
unfolding up
    some tabulate
    first
    answered
    ceil_div term term_sum growth_sum growth G H
    last times D
    total between is_allowed stretch_allowed
    bad_count bad_cost bad_weight bad_value bad_task
    tasks tasks_most sections offset size section bad_length bad_form bad_tasks bad_sections
    end_before bad_extent bad_extents in_section covered stray_byte
    kind length_of index_in index_of counted not_one one_of_each wrong_length bad_kinds
    platform_of weights_of job_of
    table pays_of
    bad_marks bad_stretch bad_stretches
    v_at cm_at cd_at rd_at rm_at verify_paid saves_paid
    S chain_of time_of
    energy_s energy_chain energy_of
    price_refusal price_of
    out_of_range passes bad_computing saving_passes bad_saving bad_powers energy_refusal
    cleared fresh zero_run total_of broken_values bad_awaiting over_total broken_place broken finished
    after_done after_passed back_to_memory back_to_disk place_after next_place out_of_turn over_weight step_refusal step_of
    start_refusal start_of
    steps
    record_count record_at bad_record event_of
    no_names is_held slot_of put_at without naming dropping place_under holding name_twice some_place_broken bad_names broken_named
    answer not_held names_full name_of drop_of return_of
    log.step_of log.recorded log.applied log.or_before log.empty_log log.log_of call_of in_turn
    header_a platform_a weights_a sheet_a weights_first stray_before stray_between stray_after stray_kinds stray_overlap sheet_one sheet_b dear_a energy_under time_under number_under run_of_a named_of_a starred all_agree
starred_examples = refl

-- sheet B by the powers 3 and 5: marks 3233 are allowed and take less energy than 3333, which `plan` prints for it
record Cheaper : Type 0 where
  allowed : first (marks_conditions (job_of sheet_b) (3 ∷ 2 ∷ 3 ∷ 3 ∷ [])) ≡ 0
  tasks_4 : (job_of sheet_b).tasks ≡ 4
  less : energy_under (powers 3 5) sheet_b (3 ∷ 2 ∷ 3 ∷ 3 ∷ []) < energy_under (powers 3 5) sheet_b (3 ∷ 3 ∷ 3 ∷ 3 ∷ [])

cheaper : Cheaper
unfolding up
    some tabulate
    first
    ceil_div term term_sum growth_sum growth G H
    last times D
    total between is_allowed stretch_allowed
    tasks sections offset size section kind index_in index_of
    platform_of weights_of job_of
    bad_marks bad_stretch bad_stretches
    v_at cm_at cd_at rd_at rm_at
    energy_s energy_chain energy_of
    sheet_b energy_under
cheaper = record { allowed = refl; tasks_4 = refl; less = lit< tt }

-- so a program that gives these marks, with whatever energy, does not keep the promise
pub time_plan_refused : (before after : List ℕ) (r : Answer) → PlansByEnergy (powers 3 5) sheet_b before after r → r.number ≡ 0 → take 4 after ≢ 3 ∷ 3 ∷ 3 ∷ 3 ∷ []
unfolding energy_under
time_plan_refused before after r plans e same =
    let least = energy_least (powers 3 5) sheet_b before after r plans e in
    let marks : take (job_of sheet_b).tasks after ≡ 3 ∷ 3 ∷ 3 ∷ 3 ∷ [] = rw cheaper.tasks_4 same in
    omega (arith, rw marks at least.exact, least.least (3 ∷ 2 ∷ 3 ∷ 3 ∷ []) cheaper.allowed, cheaper.less)
