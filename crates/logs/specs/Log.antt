-- The log of a run: records of 5 bytes, refusal 12, and what a log gives.
use Rattle.std.specs.Prelude.{ℕ, zero, suc, ◌+◌, ◌-◌, ◌*◌, ◌/◌, Bool, not, ◌||◌, ◌&&◌, cond, List, ltb, eqb, length, take, drop, Option, Some, None}
use Rattle.refusals.specs.Numbers
use Rattle.fields.specs.Bytes.{byte_at, field_at}
use Rattle.rules.specs.Rules.{broken}
use Rattle.following.specs.Run.{step_of, accepted, refused}
use Rattle.state.specs.declared.Run.{Run}
use Rattle.events.specs.declared.Event.{Event}
use Rattle.events.specs.declared.Event.TheVariants.{Done, Passed, Failed, Stopped}
use Rattle.following.specs.declared.Stepped.{Stepped}

abbrev pub record_length : ℕ
record_length = 5

-- the codes of the four events
abbrev pub done_code : ℕ
done_code = 1

abbrev pub passed_code : ℕ
passed_code = 2

abbrev pub failed_code : ℕ
failed_code = 3

abbrev pub stopped_code : ℕ
stopped_code = 4

-- the number of records, a last one cut short among them
unfoldable pub record_count : List ℕ → ℕ
record_count log = (length log + (record_length - 1)) / record_length

-- the bytes of record i, from 0
unfoldable pub record_at : List ℕ → ℕ → List ℕ
record_at log i = take record_length (drop (record_length * i) log)

-- the code, then the lost ticks
abbrev pub code : List ℕ → ℕ
code r = byte_at r 0

abbrev pub lost_ticks : List ℕ → ℕ
lost_ticks r = field_at r 1

-- 12: a record is cut short, has an unknown code, or has lost ticks where 0 is due
unfoldable pub bad_record : List ℕ → Bool
bad_record r =
    ltb (length r) record_length
    || (ltb (code r) done_code
    || (ltb stopped_code (code r)
    || (not (eqb (code r) stopped_code) && not (eqb (lost_ticks r) 0))))

-- the event of a record
unfoldable pub event_of : List ℕ → Event
event_of r =
    cond (eqb (code r) done_code) Done
    (cond (eqb (code r) passed_code) Passed
    (cond (eqb (code r) failed_code) Failed (Stopped (lost_ticks r))))

-- the event of a record that 12 lets pass
unfoldable pub read_event : List ℕ → Option Event
read_event r = cond (bad_record r) None (Some (event_of r))

-- one record more: 12 is tested before 21 to 25, and nothing is read after a refusal
unfoldable pub recorded : Stepped → List ℕ → Stepped
recorded s r = cond (eqb s.number 0) (cond (bad_record r) (refused Numbers.bad_record s.run) (step_of s.run (event_of r))) s

-- the records before k, read and applied in turn from the state given
unfoldable pub applied : Run → List ℕ → ℕ → Stepped
applied run log zero = accepted run
applied run log (suc k) = recorded (applied run log k) (record_at log k)

-- the first refusal hands back the state from before the log
unfoldable pub or_before : Run → Stepped → Stepped
or_before run s = cond (eqb s.number 0) s (refused s.number run)

-- 21, which is tested even for an empty log
unfoldable pub empty_log : Run → Stepped
empty_log run = cond (broken run) (refused Numbers.broken run) (accepted run)

-- what a log gives
unfoldable pub log_of : Run → List ℕ → Stepped
log_of run log = cond (eqb (length log) 0) (empty_log run) (or_before run (applied run log (record_count log)))
