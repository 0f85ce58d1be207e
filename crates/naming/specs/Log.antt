-- What a log gives from a run with names, by request 109: as document 01 has it for a run, with 21 asked of the names too.
use Rattle.std.specs.Prelude.{ℕ, zero, suc, cond, List, ◌∷◌, eqb, length}
use Rattle.refusals.specs.Numbers
use Rattle.refusals.specs.Refusals.{Condition, refusal, first}
use Rattle.events.specs.declared.Event.{Event}
use Rattle.following.specs.Run.{next_place, event_conditions}
use Rattle.following.specs.declared.Stepped.{Stepped}
use Rattle.logs.specs.Log.{record_count, record_at, bad_record, event_of}
use Rattle.names.specs.declared.Names.{Names}
use Rattle.named.specs.Named.{broken_named}
use Rattle.named.specs.declared.NamedRun.{NamedRun}
use Rattle.naming.specs.Calls.{at_place, answered, answer}
use Rattle.naming.specs.declared.NamedStepped.{NamedStepped}

-- refusals 21 to 25, in their order
abbrev pub event_refusals : NamedRun → Event → List Condition
event_refusals state event = refusal Numbers.broken (broken_named state) ∷ event_conditions state.run event

-- what an event gives
unfoldable pub step_of : NamedRun → Event → NamedStepped
step_of state event = answer (first (event_refusals state event)) (at_place state (next_place state.run event)) state

-- one record more: 12 is tested before 21 to 25, and nothing is read after a refusal
unfoldable pub recorded : NamedStepped → List ℕ → NamedStepped
recorded s r = cond (eqb s.number 0) (cond (bad_record r) (answered Numbers.bad_record s.state) (step_of s.state (event_of r))) s

-- the records before k, read and applied in turn from the state given
unfoldable pub applied : NamedRun → List ℕ → ℕ → NamedStepped
applied state log zero = answered Numbers.accepted state
applied state log (suc k) = recorded (applied state log k) (record_at log k)

-- the first refusal hands back the state from before the log
unfoldable pub or_before : NamedRun → NamedStepped → NamedStepped
or_before state s = cond (eqb s.number 0) s (answered s.number state)

-- 21, which is tested even for an empty log
unfoldable pub empty_log : NamedRun → NamedStepped
empty_log state = cond (broken_named state) (answered Numbers.broken state) (answered Numbers.accepted state)

-- what a log gives
unfoldable pub log_of : NamedRun → List ℕ → NamedStepped
log_of state log = cond (eqb (length log) 0) (empty_log state) (or_before state (applied state log (record_count log)))

-- the answer to a log of the run alone, with these names beside the run
abbrev pub beside : Names → Stepped → NamedStepped
beside names s = answered s.number (record { run = s.run; names = names })
