-- What 21 accepts stays accepted: an accepted event keeps position, awaited verification and kept in step, and 25 keeps the total; a refused event leaves
-- the state. Assumes nothing.
use Prim.Native.Nat.{ℕ, suc, ◌≤◌}
use mathlib.Core.Path.{◌≡◌, refl, sym, ◌∙◌, ap}
use mathlib.Core.Bool.{Bool, true, false, not, ◌||◌, ◌&&◌, cond}
use native.Mathlib.Decide.{ℕ_discrete}
use native.Mathlib.Numerals.{add-one}
use native.Mathlib.Omega.{arith}
use borrow.Author.Tests.{ltb-false, eq-eqb, ne_eqb}
use lib.Dec.{eqb}
use Rattle.refusals.specs.Numbers
use Rattle.chain.specs.Time.{memory, disk}
use Rattle.chain.proofs.Equations.{last_le}
use Rattle.job.specs.Job.{total}
use Rattle.job.proofs.Weights.{total_more}
use Rattle.rules.specs.Rules.{total_limit, total_of, marks_in, bad_awaiting, over_total, broken}
use Rattle.rules.proofs.Copies.{last_up_to, move_kept}
use Rattle.rules.proofs.Soundness.{PlacePassed, unbroken, run_values, run_place}
use Rattle.events.specs.Events.{last_memory, last_disk, after_done, after_passed, back_to_memory, back_to_disk, place_after}
use Rattle.following.specs.Run.{next_place, out_of_turn, standing, accepted, step_of}
use Rattle.following.specs.Working.Lent.{event_refusal}
use Rattle.state.specs.declared.Run.{Run}
use Rattle.events.specs.declared.Event.{Event}
use Rattle.events.specs.declared.Event.TheVariants.{Done, Passed, Failed, Stopped}
use Rattle.following.specs.declared.Stepped.{Stepped}
use Rattle.following.proofs.Steps.{Accepted, step_accepted, step_refused_same, step_broken, step_on_lem, step_on_accepted, task_runs}

-- an accepted event
module _ (run : Run) (before : PlacePassed run.job (marks_in run) run.place) where
  next_position : (e : Event) → Accepted run e → (next_place run e).position ≤ run.job.tasks
  unfolding next_place place_after after_done after_passed back_to_memory back_to_disk out_of_turn
  next_position Done a = task_runs run a.unbroken a.unfinished a.in_turn_lem
  next_position Passed a = before.position
  next_position Failed a = omega (arith, before.position, last_le memory (marks_in run) run.place.position)
  next_position (Stopped lost) a = omega (arith, before.position, last_up_to disk (marks_in run) run.place.position)

  next_awaiting : (e : Event) → bad_awaiting (marks_in run) (next_place run e) ≡ false
  unfolding next_place place_after after_done after_passed back_to_memory back_to_disk bad_awaiting
  next_awaiting Done = go (ℕ_discrete mark 0)
    where
      mark : ℕ
      mark = marks_in run (suc run.place.position)

      go : Dec (mark ≡ 0) → (not (eqb (cond (eqb mark 0) 0 1) 0) && (eqb (suc run.place.position) 0 || eqb mark 0)) ≡ false
      go (yes z) = rw (eq-eqb _ _ z)
      go (no z) = rw (ne_eqb _ _ z, ne_eqb (suc run.place.position) 0 (omega arith))
  next_awaiting Passed = refl
  next_awaiting Failed = refl
  next_awaiting (Stopped lost) = refl

  next_kept : (e : Event) → (next_place run e).sums.kept ≡ total run.job.weights (next_place run e).position
  unfolding next_place place_after after_done after_passed back_to_memory back_to_disk
  next_kept Done = rw (before.kept, ← (add-one run.place.position)) (sym (total_more run.job.weights run.place.position))
  next_kept Passed = before.kept
  next_kept Failed =
      let p : ℕ = run.place.position in
      move_kept run.job.weights (last_memory (marks_in run) p) p before.kept (last_le memory (marks_in run) p)
  next_kept (Stopped lost) =
      let p : ℕ = run.place.position in
      move_kept run.job.weights (last_disk (marks_in run) p) p before.kept (last_up_to disk (marks_in run) p)

  next_passed : (e : Event) → Accepted run e → PlacePassed run.job (marks_in run) (next_place run e)
  unfolding over_total
  next_passed e a =
      record {
        position = next_position e a;
        awaiting = next_awaiting e;
        kept = next_kept e;
        sums = ltb-false total_limit (total_of (next_place run e).sums) a.within_total;
      }

pub accepted_unbroken : (run : Run) (e : Event) → Accepted run e → broken (standing run (next_place run e)) ≡ false
accepted_unbroken run e a =
    unbroken (standing run (next_place run e)) (run_values run a.unbroken) (next_passed run (run_place run a.unbroken) e a)

-- a step's result is never turned down by 21, unless the state given was
pub step_keeps_sound : (run : Run) (e : Event) → ((step_of run e).number ≡ Numbers.broken → ⊥) → broken (step_of run e).run ≡ false
step_keeps_sound run e h = go (ℕ_discrete (step_of run e).number 0) (broken run) refl
  where
    go : Dec ((step_of run e).number ≡ 0) → (b : Bool) → broken run ≡ b → broken (step_of run e).run ≡ false
    go (yes z) b q = let a = step_accepted run e z in rw a.next (accepted_unbroken run e a)
    go (no z) true q = absurd (h (sym (ap (λ (s : Stepped). s.number) (step_broken run e q))))
    go (no z) false q = rw (step_refused_same run e z) q

-- so the place after an event that 22 to 25 pass is one that 21 accepts
pub event_keeps_sound : (run : Run) (e : Event) → broken run ≡ false → event_refusal run e ≡ 0 → broken (standing run (next_place run e)) ≡ false
event_keeps_sound run e right z =
    let is : step_of run e ≡ accepted (standing run (next_place run e)) = step_on_lem run right e ∙ step_on_accepted run e z in
    rw (← (ap (λ (s : Stepped). s.run) is)) (step_keeps_sound run e (λ b. omega (arith, ap (λ (s : Stepped). s.number) is, b)))
