-- Request 105, call by call: the list of checks of each call has checks 1 to 6 in it, so that a sheet that passes 1 to 5 and has a stray byte gets 28 from every
-- call that reads it. Assumes nothing.
use Prim.Native.Nat.{ℕ}
use mathlib.Core.Path.{◌≡◌, refl, sym, ◌∙◌, ap}
use mathlib.Core.List.{List, ◌++◌}
use native.Mathlib.Omega.{arith}
use lib.Dec.{lit<}
use lib.ListN.{length}
use Rattle.refusals.specs.Numbers
use Rattle.refusals.specs.Refusals.{Condition, first}
use Rattle.refusals.specs.Answers.{answered}
use Rattle.refusals.proofs.Refusals.{first_goes_on}
use Rattle.layout.specs.Layout.{layout_conditions}
use Rattle.sheet.specs.Lookup.{lookup_refusal, found_of}
use Rattle.sheet.specs.Reading.{sheet_conditions, sheet_refusal, reading_of, Reads}
use Rattle.extents.specs.Stray.{HasStray}
use Rattle.layout.specs.Whole.{conditions_to5}
use Rattle.std.proofs.Common.{Result, Ok, Err}
use Rattle.refusals.specs.declared.Refusal.{Refusal}
use Rattle.refusals.specs.declared.Refusal.TheVariants.{StrayByte}
use Rattle.refusals.proofs.Checks.{number_once}
use Rattle.job.specs.declared.Job.{Job}
use Rattle.sheet.proofs.Readings.{sheet_numbered, reading_number}
use Rattle.layout.proofs.Before.{before_and_now}
use Rattle.joining.specs.Join.{join_refusal, Joins, JoinRefused}
use Rattle.joining.specs.declared.Joined.{Joined}
use Rattle.joining.proofs.Theorems.{join_refuses}
use Rattle.pricing.specs.Price.{price_refusal, price_of}
use Rattle.costs.specs.declared.Powers.{Powers}
use Rattle.planning.specs.Energy.{energy_refusal}
use Rattle.engine.specs.Promise.{printed_refusal}
use Rattle.starting.specs.Start.{start_refusal, start_of}
use Rattle.pulvanor.specs.Stray.{StrayRefused}

join_refused : (a b before after : List ℕ) (r : Joined) → join_refusal a b (length before) ≡ Numbers.stray_byte → Joins a b before after r
    → JoinRefused Numbers.stray_byte before after r
join_refused a b before after r e joins =
    let number : r.number ≡ Numbers.stray_byte = joins.number ∙ e in
    let told = join_refuses a b before after r joins (omega (arith, number)) in
    record { numbered = number; no_length = told.no_length; untouched = told.untouched }

module _ (s : List ℕ) (clear : first (conditions_to5 s) ≡ 0) (found : HasStray s) where
  given : (after : List Condition) → first (layout_conditions s ++ after) ≡ Numbers.stray_byte
  given after = (before_and_now s after).refused found clear

  of_sheet : sheet_refusal s ≡ Numbers.stray_byte
  unfolding sheet_refusal
  of_sheet = given _

  of_lookup : (k : ℕ) → lookup_refusal s k ≡ Numbers.stray_byte
  unfolding lookup_refusal
  of_lookup k = given _

  of_reading : (r : Result Job Refusal) → Reads s r → r ≡ Err StrayByte
  of_reading (Ok job) reads = absurd (omega (arith, of_sheet, reading_number s, reads.0))
  of_reading (Err refusal) reads = ap (λ (r : Refusal). Err r) (number_once refusal StrayByte (sym reads ∙ (reading_number s ∙ of_sheet)))

  of_price : (marks : List ℕ) → price_refusal s marks ≡ Numbers.stray_byte
  unfolding price_refusal
  of_price marks = given _

  of_energy : (powers : Powers) → energy_refusal powers s ≡ Numbers.stray_byte
  unfolding energy_refusal
  of_energy powers = given _

  of_printed : printed_refusal s ≡ Numbers.stray_byte
  unfolding printed_refusal
  of_printed = given _

  of_start : (marks : List ℕ) → start_refusal s marks ≡ Numbers.stray_byte
  unfolding start_refusal
  of_start marks = given _

  of_first : (t : List ℕ) (room : ℕ) → join_refusal s t room ≡ Numbers.stray_byte
  unfolding join_refusal
  of_first t room = given _

  of_second : (t : List ℕ) (room : ℕ) → sheet_refusal t ≡ Numbers.accepted → join_refusal t s room ≡ Numbers.stray_byte
  unfolding join_refusal sheet_refusal
  of_second t room e = first_goes_on (sheet_conditions t) _ (sheet_numbered t) e ∙ given _

  pub stray_everywhere : StrayRefused s
  unfolding found_of reading_of price_of start_of answered
  stray_everywhere =
      record {
        lookup = λ k. rw (of_lookup k) refl;
        read_job = rw of_sheet refl;
        read = of_reading;
        price = λ marks. rw (of_price marks) refl;
        plan = λ before after r plans. (rw of_sheet at plans).checked (lit< tt);
        energy = λ powers before after r plans. (rw (of_energy powers) at plans).checked (lit< tt);
        printed = λ before after r plans. (rw of_printed at plans).checked (lit< tt);
        start = λ marks. rw (of_start marks) refl;
        join_first = λ t before after r joins. join_refused s t before after r (of_first t (length before)) joins;
        join_second = λ t before after r e joins. join_refused t s before after r (of_second t (length before) e) joins;
      }
