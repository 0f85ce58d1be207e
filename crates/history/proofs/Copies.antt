-- The copies of a run. One accepted event takes the copies that a state's marks give to those that the history keeps: both go to the same place.
-- Assumes nothing.
use Prim.Native.Nat.{ℕ, suc}
use mathlib.Core.Path.{◌≡◌, refl, sym, ◌∙◌, ap}
use mathlib.Core.Bool.{Bool, true, false, not, cond}
use native.Mathlib.Omega.{arith}
use borrow.Author.Tests.{not-false}
use lib.Dec.{eqb}
use Rattle.chain.specs.Time.{Marks, memory, disk, last}
use Rattle.rules.specs.Rules.{marks_in, awaits, passed_before}
use Rattle.state.specs.declared.Run.{Run}
use Rattle.carried.proofs.Copies.{last_saved, disk_kept, done_copy}
use Rattle.following.proofs.Carries.{passed_running, passed_awaited}
use Rattle.events.specs.Events.{after_done, after_passed, back_to_memory, back_to_disk, place_after}
use Rattle.following.specs.Run.{next_place, out_of_turn, standing}
use Rattle.events.specs.declared.Event.{Event}
use Rattle.events.specs.declared.Event.TheVariants.{Done, Passed, Failed, Stopped}
use Rattle.history.specs.History.{History, happened}
use Rattle.history.specs.States.{history_at}

-- the byte that Done leaves says whether the task has a mark
mark_awaited : (k : ℕ) → not (eqb (cond (eqb k 0) 0 1) 0) ≡ not (eqb k 0)
mark_awaited k = go (eqb k 0)
  where
    go : (b : Bool) → not (eqb (cond b 0 1) 0) ≡ not b
    go true = refl
    go false = refl

same_history : {p q : ℕ} {a b : Bool} {m n d e : ℕ} → p ≡ q → a ≡ b → m ≡ n → d ≡ e
    → ◌≡◌ {A = History}
    (record { position = p; awaiting = a; in_memory = m; on_disk = d })
    (record { position = q; awaiting = b; in_memory = n; on_disk = e })
same_history x y z w = rw (x, y, z, w)

module _ (run : Run) where
  abbrev f : Marks
  f = marks_in run

  pub history_goes_on : (e : Event) → out_of_turn (awaits run.place) e ≡ false
      → history_at (standing run (next_place run e)) ≡ happened (marks_in run) (history_at run) e
  unfolding history_at happened next_place place_after out_of_turn after_done after_passed back_to_memory back_to_disk last
  history_goes_on Done t =
      let at : (k : ℕ) → last k (marks_in run) (suc run.place.position) ≡ last k (marks_in run) (passed_before run.place) = λ k. ap (last k (marks_in run)) (sym (passed_running run.place t)) in
      same_history refl (mark_awaited (marks_in run (suc run.place.position)))
      (done_copy memory (marks_in run) run.place.position (omega arith) ∙ at memory)
      (done_copy disk (marks_in run) run.place.position (omega arith) ∙ at disk)
  history_goes_on Passed t =
      let e = passed_awaited run.place (not-false (awaits run.place) t) in
      same_history refl refl (rw e) (rw e)
  history_goes_on Failed t =
      let e = passed_awaited run.place (not-false (awaits run.place) t) in
      let p : ℕ = run.place.position in
      same_history
      (rw e) refl
      (last_saved memory memory (marks_in run) p (omega arith) ∙ rw e)
      (sym (disk_kept (marks_in run) p) ∙ rw e)
  history_goes_on (Stopped lost) t =
      let e = passed_running run.place t in
      let p : ℕ = run.place.position in
      same_history
      (rw e) refl
      (last_saved memory disk (marks_in run) (suc p) (omega arith) ∙ rw e)
      (last_saved disk disk (marks_in run) (suc p) (omega arith) ∙ rw e)
