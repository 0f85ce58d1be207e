-- `following::step` meets its contract: 22 to 24 in their order, then the event that was matched, and 25 where the run arrives. Assumes nothing.
use mathlib.Core.Path.{◌≡◌, refl, sym, ◌∙◌}
use mathlib.Core.Bool.{false}
use borrow.Author.Tests.{not-false}
use Rattle.rules.specs.Rules.{awaits, finished}
use Rattle.events.specs.declared.Event.TheVariants.{Failed}
use Rattle.following.specs.Run.{out_of_turn}
use Rattle.following.specs.Working.Lent.{lent_run}
use Rattle.following.proofs.Steps.{event_finished, event_out_of_turn, event_over_weight}
use Rattle.following.proofs.Carries.{in_range, back_ready, memory_early, disk_early, done_arrives, passed_arrives, failed_arrives, stopped_arrives, Arrives, over_moves, arrived_moves}
use Rattle.following.proofs.step.Goals as goal
use Rattle.following.proofs.step.Goals.{in-Done, in-Passed, in-Failed, in-Stopped}

pub returns-then-finished : goal.returns-then-finished
unfolding finished
returns-then-finished c =
    let if1 = c.if-finished in
    let finished = c.finished in
    let args = c.args in
    record { number = event_finished _ args.event (sym finished.ensures ∙ if1.true); carries = tt }

pub returns-then-out_of_turn : goal.returns-then-out_of_turn
unfolding finished
returns-then-out_of_turn c =
    let if2 = c.if-out_of_turn in
    let out-of-turn = c.out_of_turn in
    let if1 = c.if-finished in
    let finished = c.finished in
    let args = c.args in
    record {
      number = event_out_of_turn _ args.event (sym finished.ensures ∙ if1.false) (sym out-of-turn.ensures ∙ if2.true);
      carries = tt;
    }

pub returns-then-over_weight : goal.returns-then-over_weight
unfolding finished
returns-then-over_weight c =
    let if3 = c.if-over_weight in
    let over-weight = c.over_weight in
    let if2 = c.if-out_of_turn in
    let out-of-turn = c.out_of_turn in
    let if1 = c.if-finished in
    let finished = c.finished in
    let args = c.args in
    let run = lent_run args.lent.now args.carried in
    record {
      number =
          event_over_weight run args.event (sym finished.ensures ∙ if1.false) (sym out-of-turn.ensures ∙ if2.false)
          (sym (over-weight.ensures run refl refl) ∙ if3.true);
      carries = tt;
    }

pub after_done-requires : goal.after_done-requires
after_done-requires c =
    let args = c.args in
    in_range (lent_run args.lent.now args.carried) args.carried c.requires

pub after_passed-requires : goal.after_passed-requires
after_passed-requires c =
    let args = c.args in
    in_range (lent_run args.lent.now args.carried) args.carried c.requires

pub after_failed-requires : goal.after_failed-requires
unfolding out_of_turn
after_failed-requires c =
    let event = c.in-Failed.is in
    let if2 = c.if-out_of_turn in
    let out-of-turn = c.out_of_turn in
    let args = c.args in
    let run = lent_run args.lent.now args.carried in
    let turn : out_of_turn (awaits run.place) Failed ≡ false = rw event at (sym out-of-turn.ensures ∙ if2.false) in
    back_ready run args.carried c.requires _ c.requires.carries.memory_copy.kept (memory_early run args.carried c.requires (not-false (awaits run.place) turn))

pub after_stopped-requires : goal.after_stopped-requires
unfolding out_of_turn
after_stopped-requires c =
    let event = c.in-Stopped.is in
    let if2 = c.if-out_of_turn in
    let out-of-turn = c.out_of_turn in
    let args = c.args in
    let run = lent_run args.lent.now args.carried in
    let turn = rw event at (sym out-of-turn.ensures ∙ if2.false) in
    back_ready run args.carried c.requires _ c.requires.carries.disk_copy.kept (disk_early run args.carried c.requires turn)

pub returns-then-over_total : goal.returns-then-over_total
unfolding finished
returns-then-over_total c =
    let args = c.args in
    let run = lent_run args.lent.now args.carried in
    let arrives : Arrives run args.event c.match-event.next = elim c.match-event.branch [
      | in-Done w ↦
          let event = w.in-Done.is in
          let turn = rw event at (sym c.out_of_turn.ensures ∙ c.if-out_of_turn.false) in
          rw (w.next-is, w.carrying-next.ensures, event) (done_arrives run args.carried c.requires w.after_done.result turn w.after_done.ensures)
      | in-Passed w ↦
          let event = w.in-Passed.is in
          let turn = rw event at (sym c.out_of_turn.ensures ∙ c.if-out_of_turn.false) in
          rw (w.next-is, w.over_mark-next.ensures, w.mark_at.ensures, event) (passed_arrives run args.carried c.requires w.after_passed.result turn w.after_passed.ensures)
      | in-Failed w ↦
          let event = w.in-Failed.is in
          let turn = rw event at (sym c.out_of_turn.ensures ∙ c.if-out_of_turn.false) in
          rw (w.next-is, w.carrying-next-in-Failed.ensures, event) (failed_arrives run args.carried c.requires w.after_failed.result turn w.after_failed.ensures)
      | in-Stopped w ↦
          let event = w.in-Stopped.is in
          let turn = rw event at (sym c.out_of_turn.ensures ∙ c.if-out_of_turn.false) in
          rw (w.next-is, w.carrying-next-in-Stopped.ensures, event) (stopped_arrives run args.carried c.requires w.in-Stopped.lost w.after_stopped.result turn w.after_stopped.ensures)
    ] in
    over_moves run args.event c.match-event.next (sym c.finished.ensures ∙ c.if-finished.false) (sym c.out_of_turn.ensures ∙ c.if-out_of_turn.false)
    (sym (c.over_weight.ensures run refl refl) ∙ c.if-over_weight.false) arrives (sym c.over_total.ensures ∙ c.if-over_total.true)

pub returns : goal.returns
unfolding finished
returns c =
    let args = c.args in
    let run = lent_run args.lent.now args.carried in
    let arrives : Arrives run args.event c.match-event.next = elim c.match-event.branch [
      | in-Done w ↦
          let event = w.in-Done.is in
          let turn = rw event at (sym c.out_of_turn.ensures ∙ c.if-out_of_turn.false) in
          rw (w.next-is, w.carrying-next.ensures, event) (done_arrives run args.carried c.requires w.after_done.result turn w.after_done.ensures)
      | in-Passed w ↦
          let event = w.in-Passed.is in
          let turn = rw event at (sym c.out_of_turn.ensures ∙ c.if-out_of_turn.false) in
          rw (w.next-is, w.over_mark-next.ensures, w.mark_at.ensures, event) (passed_arrives run args.carried c.requires w.after_passed.result turn w.after_passed.ensures)
      | in-Failed w ↦
          let event = w.in-Failed.is in
          let turn = rw event at (sym c.out_of_turn.ensures ∙ c.if-out_of_turn.false) in
          rw (w.next-is, w.carrying-next-in-Failed.ensures, event) (failed_arrives run args.carried c.requires w.after_failed.result turn w.after_failed.ensures)
      | in-Stopped w ↦
          let event = w.in-Stopped.is in
          let turn = rw event at (sym c.out_of_turn.ensures ∙ c.if-out_of_turn.false) in
          rw (w.next-is, w.carrying-next-in-Stopped.ensures, event) (stopped_arrives run args.carried c.requires w.in-Stopped.lost w.after_stopped.result turn w.after_stopped.ensures)
    ] in
    arrived_moves run args.event c.match-event.next (sym c.finished.ensures ∙ c.if-finished.false) (sym c.out_of_turn.ensures ∙ c.if-out_of_turn.false)
    (sym (c.over_weight.ensures run refl refl) ∙ c.if-over_weight.false) arrives (sym c.over_total.ensures ∙ c.if-over_total.false)
