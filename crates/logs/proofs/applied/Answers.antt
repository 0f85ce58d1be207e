use mathlib.Core.Path.{◌≡◌, refl, sym, ◌∙◌, ap}
use native.Mathlib.Omega.{arith}
use Rattle.std.proofs.Common.{Ok, None, rules}
use Rattle.refusals.specs.Checks.{told}
use Rattle.carried.proofs.Copies.{carries_own}
use Rattle.following.specs.Run.{standing}
use Rattle.following.specs.Working.Lent.{lent_run}
use Rattle.following.proofs.Unbroken.{event_keeps_sound}
use Rattle.logs.specs.Log.{record_count}
use Rattle.logs.specs.Working.Once.{applied_on}
use Rattle.logs.proofs.Once.{on_bad, on_refused, on_accepted, ends_refused, ends_told, ends_accepted, read_some, read_none}
use Rattle.logs.proofs.applied.Goals as goal

pub loop-i-init : goal.loop-i-init
unfolding applied_on
loop-i-init c = record { leads = refl; ready = c.requires }

pub record_at-requires : goal.record_at-requires
unfolding record_count
record_at-requires c = omega (arith, c.loop-i-test.true, c.div_ceil-i-end.ensures)

pub returns-in_default : goal.returns-in_default
unfolding record_count
returns-in_default c =
    let args = c.args in
    let loop = c.loop-i in
    let run = lent_run args.lent.now args.start in
    let none : c.event_of.result ≡ None = c.in_default.is in
    let bad = read_none _ (sym c.event_of.ensures ∙ none) in
    let answer =
    on_bad run args.log.now c.requires.unbroken loop.i _ loop.invariant.leads (rw (← c.record_at.ensures) bad) _ (omega (arith, c.loop-i-test.true, c.div_ceil-i-end.ensures)) in
    ends_refused run args.log.now _ _ _ answer (λ z. omega (arith, z))

pub step-requires : goal.step-requires
step-requires c = c.loop-i.invariant.ready

pub returns-in_err-carried : goal.returns-in_err-carried
unfolding record_count
returns-in_err-carried c =
    let args = c.args in
    let loop = c.loop-i in
    let run = lent_run args.lent.now args.start in
    let read = read_some _ c.in-Some.event (sym c.event_of.ensures ∙ c.in-Some.is) in
    let same : told c.from_residual.result ≡ told c.step.result = search rules in
    let number = same ∙ c.step.ensures.number in
    ends_told run args.log.now _ _ _ c.from_residual.result c.from_residual.ensures.0 (λ z. on_refused run args.log.now c.requires.unbroken loop.i _ loop.invariant.leads c.in-Some.event
    (rw (← c.record_at.ensures) read.0) (rw (← c.record_at.ensures) read.1) z _ (omega (arith, c.loop-i-test.true, c.div_ceil-i-end.ensures))) number

pub loop-i-preserved : goal.loop-i-preserved
loop-i-preserved c =
    let args = c.args in
    let loop = c.loop-i in
    let run = lent_run args.lent.now args.start in
    let state = standing run loop.carried.place in
    let read = read_some _ c.in-Some.event (sym c.event_of.ensures ∙ c.in-Some.is) in
    let passed : c.step.result ≡ Ok c.in_ok-carried.carried = search rules in
    let carries = rw passed at c.step.ensures.carries in
    let none = sym c.step.ensures.number ∙ ap told passed in
    record {
      leads =
          rw carries.place
          (on_accepted run args.log.now c.requires.unbroken loop.i state loop.invariant.leads c.in-Some.event
          (rw (← c.record_at.ensures) read.0) (rw (← c.record_at.ensures) read.1) none);
      ready =
          record {
            unbroken = rw carries.place (event_keeps_sound state c.in-Some.event loop.invariant.ready.unbroken none);
            carries = carries_own carries;
          };
    }

pub returns : goal.returns
unfolding record_count
returns c =
    let args = c.args in
    let loop = c.loop-i in
    let run = lent_run args.lent.now args.start in
    let e : loop.i ≡ record_count args.log.now = omega (arith, c.loop-i-test.false, loop.auto.i-end, c.div_ceil-i-end.ensures) in
    ends_accepted run args.log.now _ _ (rw e at loop.invariant.leads)
