-- What is carried on from an event in its turn is what the next state carries. Assumes nothing.
use Prim.Native.Nat.{ℕ, suc, ◌≤◌}
use mathlib.Core.Path.{◌≡◌, refl, ◌∙◌, ap}
use mathlib.Core.Bool.{true, false}
use mathlib.Core.List.{List}
use native.Mathlib.Omega.{arith}
use borrow.Author.Tests.{not-false}
use Rattle.std.specs.Prelude.{Ok, Err}
use Rattle.refusals.specs.declared.Refusal.TheVariants.{OverTotal}
use Rattle.chain.specs.Time.{Marks, memory, disk}
use Rattle.chain.proofs.Equations.{last_le}
use Rattle.job.specs.Job.{total}
use Rattle.job.proofs.Weights.{total_mono}
use Rattle.rules.specs.Rules.{marks_in, awaits, finished, over_total, passed_before}
use Rattle.rules.proofs.Copies.{last_up_to}
use Rattle.rules.proofs.Soundness.{run_sound, run_place, position_range}
use Rattle.events.specs.Events.{after_done, after_passed, back_to_memory, back_to_disk, place_after}
use Rattle.events.specs.Working.Ready.{InRange, ReadyToGoBack}
use Rattle.events.specs.Working.After.{KeptTo, AfterDone, AfterPassed, AfterFailed, AfterStopped}
use Rattle.carried.specs.Working.Carried.{SavedBefore, Carries, over_mark}
use Rattle.carried.proofs.Copies.{done_copy, saved_stays, saved_over, saved_failed, saved_back}
use Rattle.following.specs.Run.{next_place, out_of_turn, over_weight, standing}
use Rattle.following.specs.Working.Lent.{carrying, ReadyForEvent, Moves}
use Rattle.following.proofs.Steps.{event_over_total, event_accepted}
use Rattle.state.specs.declared.Place.{Place}
use Rattle.state.specs.declared.Run.{Run}
use Rattle.carried.specs.declared.Carried.{Carried}
use Rattle.carried.specs.declared.Saved.{Saved}
use Rattle.events.specs.declared.Event.{Event}
use Rattle.events.specs.declared.Event.TheVariants.{Done, Passed, Failed, Stopped}

-- where an event in its turn looks for the copies
pub passed_running : (place : Place) → awaits place ≡ false → passed_before place ≡ suc place.position
passed_running place t = rw t

pub passed_awaited : (place : Place) → awaits place ≡ true → passed_before place ≡ place.position
passed_awaited place t = rw t

-- a run arrives at the place after an event, with the copies of that place
pub record Arrives (run : Run) (e : Event) (next : Carried) : Type 0 where
  pub place : next.place ≡ next_place run e
  pub carries : Carries (standing run (next_place run e)) next

module _ (run : Run) (c : Carried) (ready : ReadyForEvent run c) where
  abbrev w : List ℕ
  w = run.job.weights

  abbrev f : Marks
  f = marks_in run

  abbrev p : ℕ
  p = run.place.position

  -- the copies by position, while a task runs and while a verification is awaited
  running_copy : (k : ℕ) (s : Saved) → awaits run.place ≡ false → SavedBefore w f k (passed_before run.place) s → SavedBefore w f k (suc p) s
  running_copy k s t saved = rw (← (passed_running run.place t)) saved

  awaited_copy : (k : ℕ) (s : Saved) → awaits run.place ≡ true → SavedBefore w f k (passed_before run.place) s → SavedBefore w f k p s
  awaited_copy k s t saved = rw (← (passed_awaited run.place t)) saved

  -- what 21 leaves of the place
  pub in_range : InRange run.place
  in_range = let sound = run_sound run ready.unbroken in record { position = position_range sound; sums = sound.sums }

  -- a copy no later than the place can be gone back to, and the weights up to it are known
  module _ (s : Saved) (kept : s.kept ≡ total w s.position) (early : s.position ≤ p) where
    pub back_ready : ReadyToGoBack run.place s
    back_ready =
        record {
          here = in_range;
          there = omega (arith, in_range.position);
          kept = rw (kept, (run_place run ready.unbroken).kept) (total_mono w s.position p early);
        }

    back_kept : KeptTo w run.place s
    back_kept = record { here = (run_place run ready.unbroken).kept; there = kept }

  -- the copies that Failed and Stopped go back to
  module _ (t : awaits run.place ≡ true) where
    memory_here : SavedBefore w f memory p c.memory
    memory_here = awaited_copy memory c.memory t ready.carries.memory_copy

    pub memory_early : c.memory.position ≤ p
    memory_early = rw memory_here.position (last_le memory f p)

  module _ (t : awaits run.place ≡ false) where
    disk_here : SavedBefore w f disk (suc p) c.disk
    disk_here = running_copy disk c.disk t ready.carries.disk_copy

    pub disk_early : c.disk.position ≤ p
    disk_early = rw disk_here.position (last_up_to disk f p)

  -- each event in its turn
  pub done_arrives : (next : Place) → out_of_turn (awaits run.place) Done ≡ false → AfterDone w run.marks run.place next
      → Arrives run Done (carrying next c.memory c.disk)
  unfolding next_place place_after out_of_turn after_done
  done_arrives next t is =
      let e = is run.job refl in
      rw e
      (record {
        place = refl;
        carries = record {
          place = refl;
          memory_copy = saved_stays w f (running_copy memory c.memory t ready.carries.memory_copy) (done_copy memory f p (omega arith));
          disk_copy = saved_stays w f (disk_here t) (done_copy disk f p (omega arith));
        };
      })

  pub passed_arrives : (next : Place) → out_of_turn (awaits run.place) Passed ≡ false → AfterPassed run.job.platform run.marks run.place next
      → Arrives run Passed (over_mark (f p) c next)
  unfolding next_place place_after out_of_turn after_passed over_mark
  passed_arrives next t is =
      let e = is run.job refl in
      let a = not-false (awaits run.place) t in
      let kept = (run_place run ready.unbroken).kept in
      rw e
      (record {
        place = refl;
        carries = record {
          place = refl;
          memory_copy = saved_over w f memory p _ c.memory refl kept (memory_here a);
          disk_copy = saved_over w f disk p _ c.disk refl kept (awaited_copy disk c.disk a ready.carries.disk_copy);
        };
      })

  pub failed_arrives : (next : Place) → out_of_turn (awaits run.place) Failed ≡ false → AfterFailed run.job.platform run.place c.memory next
      → Arrives run Failed (carrying next c.memory c.disk)
  unfolding next_place place_after out_of_turn back_to_memory
  failed_arrives next t is =
      let a = not-false (awaits run.place) t in
      let m = memory_here a in
      let d = awaited_copy disk c.disk a ready.carries.disk_copy in
      let e : next ≡ next_place run Failed = is run.job refl (back_kept c.memory m.kept (memory_early a)) ∙ ap (back_to_memory run.job run.place) m.position in
      rw e
      (record {
        place = refl;
        carries = record {
          place = refl;
          memory_copy = rw (← m.position) (saved_back w f memory memory p c.memory (omega arith) m);
          disk_copy = rw (← m.position) (saved_failed w f p c.memory c.disk m d);
        };
      })

  pub stopped_arrives : (lost : ℕ) (next : Place) → out_of_turn (awaits run.place) (Stopped lost) ≡ false → AfterStopped run.job.platform run.place c.disk lost next
      → Arrives run (Stopped lost) (carrying next c.disk c.disk)
  unfolding next_place place_after out_of_turn back_to_disk
  stopped_arrives lost next t is =
      let d = disk_here t in
      let e : next ≡ next_place run (Stopped lost) =
      is run.job refl (back_kept c.disk d.kept (disk_early t)) ∙ ap (λ (at : ℕ). back_to_disk run.job run.place at lost) d.position in
      rw e
      (record {
        place = refl;
        carries = record {
          place = refl;
          memory_copy = rw (← d.position) (saved_back w f memory disk (suc p) c.disk (omega arith) d);
          disk_copy = rw (← d.position) (saved_back w f disk disk (suc p) c.disk (omega arith) d);
        };
      })

-- a run that has passed 22 to 24 and arrives: 25 decides
module _ (run : Run) (e : Event) (next : Carried) (unfinished : finished run ≡ false) (turn : out_of_turn (awaits run.place) e ≡ false)
    (light : over_weight run e ≡ false) (arrives : Arrives run e next) where
  pub over_moves : over_total next.place.sums ≡ true → Moves run e (Err OverTotal)
  over_moves o = record { number = event_over_total run e unfinished turn light (rw (← arrives.place) o); carries = tt }

  pub arrived_moves : over_total next.place.sums ≡ false → Moves run e (Ok next)
  arrived_moves o = record { number = event_accepted run e unfinished turn light (rw (← arrives.place) o); carries = arrives.carries }
