-- `logs::event_of` meets its contract: each return rewrites the definitions by the tests before it. Assumes nothing.
use Prim.Native.Nat.{ℕ, ◌<◌}
use mathlib.Core.Path.{◌≡◌, refl}
use Rattle.std.specs.Prelude.{Some, None}
use Rattle.events.specs.declared.Event.{Event}
use mathlib.Core.Bool.{Bool, true, false, cond, ◌||◌, or-true, false≢true}
use native.Mathlib.Decide.{dec_lt}
use native.Mathlib.Omega.{arith}
use borrow.Author.Tests.{lt-ltb, le-ltb, ne_eqb}
use lib.Dec.{ltb}
use Rattle.logs.specs.Log.{done_code, passed_code, failed_code, stopped_code, bad_record, event_of, read_event}
use Rattle.logs.proofs.event_of.Goals as goal

-- a code that is none of the four
unknown : (code : ℕ) → (code ≡ stopped_code → ⊥) → (code ≡ done_code → ⊥) → (code ≡ passed_code → ⊥) → (code ≡ failed_code → ⊥)
    → (ltb code done_code || ltb stopped_code code) ≡ true
unknown code s d p f = go (dec_lt code done_code)
  where
    go : Dec (code < done_code) → (ltb code done_code || ltb stopped_code code) ≡ true
    go (yes h) = rw (lt-ltb code done_code h)
    go (no h) = rw (lt-ltb stopped_code code (omega arith)) (or-true (ltb code done_code))

-- such a record is bad, whatever its ticks
unread : (event : Event) (a b d : Bool) → (a || b) ≡ true → None ≡ cond (a || (b || d)) None (Some event)
unread event true b d e = refl
unread event false true d e = refl
unread event false false d e = absurd (false≢true e)

pub returns-then-entry-lt-RECORD_LENGTH : goal.returns-then-entry-lt-RECORD_LENGTH
unfolding read_event bad_record
returns-then-entry-lt-RECORD_LENGTH c = rw (lt-ltb _ _ c.if-entry-lt-RECORD_LENGTH.true)

pub returns-then-code-eq-STOPPED : goal.returns-then-code-eq-STOPPED
unfolding read_event bad_record event_of
returns-then-code-eq-STOPPED c =
    rw (le-ltb _ _ c.if-entry-lt-RECORD_LENGTH.false, ← c.byte-code.ensures.is, c.if-code-eq-STOPPED.true, c.field-lost.ensures)

pub returns-then-lost-ne0 : goal.returns-then-lost-ne0
unfolding read_event bad_record
returns-then-lost-ne0 c =
    let code = c.byte-code.result in
    rw (
      le-ltb _ _ c.if-entry-lt-RECORD_LENGTH.false,
      ← c.byte-code.ensures.is,
      ne_eqb _ _ c.if-code-eq-STOPPED.false,
      ← c.field-lost.ensures,
      ne_eqb _ _ c.if-lost-ne0.true,
      or-true (ltb stopped_code code),
      or-true (ltb code done_code),
    )

pub returns-then-code-eq-DONE : goal.returns-then-code-eq-DONE
unfolding read_event bad_record event_of
returns-then-code-eq-DONE c =
    rw (le-ltb _ _ c.if-entry-lt-RECORD_LENGTH.false, ← c.byte-code.ensures.is, c.if-code-eq-DONE.true, ← c.field-lost.ensures, c.if-lost-ne0.false)

pub returns-then-code-eq-PASSED : goal.returns-then-code-eq-PASSED
unfolding read_event bad_record event_of
returns-then-code-eq-PASSED c =
    rw (le-ltb _ _ c.if-entry-lt-RECORD_LENGTH.false, ← c.byte-code.ensures.is, c.if-code-eq-PASSED.true, ← c.field-lost.ensures, c.if-lost-ne0.false)

pub returns-then-code-eq-FAILED : goal.returns-then-code-eq-FAILED
unfolding read_event bad_record event_of
returns-then-code-eq-FAILED c =
    rw (le-ltb _ _ c.if-entry-lt-RECORD_LENGTH.false, ← c.byte-code.ensures.is, c.if-code-eq-FAILED.true, ← c.field-lost.ensures, c.if-lost-ne0.false)

pub returns : goal.returns
unfolding read_event bad_record
returns c =
    let other =
    unknown c.byte-code.result c.if-code-eq-STOPPED.false c.if-code-eq-DONE.false c.if-code-eq-PASSED.false c.if-code-eq-FAILED.false in
    rw (le-ltb _ _ c.if-entry-lt-RECORD_LENGTH.false, ← c.byte-code.ensures.is) (unread _ (ltb c.byte-code.result done_code) (ltb stopped_code c.byte-code.result) _ other)
