-- Calls on a run with names, one after another.
use Rattle.std.specs.Prelude.{ℕ, cond, List, [], ◌∷◌, eqb}
use Rattle.refusals.specs.Numbers
use Rattle.named.specs.declared.NamedRun.{NamedRun}
use Rattle.naming.specs.Calls.{answered, name_of, drop_of, return_of}
use Rattle.naming.specs.Log.{log_of}
use Rattle.naming.specs.declared.NamedStepped.{NamedStepped}

-- a log, or a name that is given, dropped or returned to
pub data Call : Type 0 where
  logged : List ℕ → Call
  named : ℕ → Call
  dropped : ℕ → Call
  returned : ℕ → Call

-- what a call gives
unfoldable pub call_of : NamedRun → Call → NamedStepped
call_of state (logged log) = log_of state log
call_of state (named k) = name_of state k
call_of state (dropped k) = drop_of state k
call_of state (returned k) = return_of state k

-- calls in turn; nothing is called after a refusal
unfoldable pub in_turn : NamedRun → List Call → NamedStepped
in_turn state [] = answered Numbers.accepted state
in_turn state (c ∷ cs) = cond (eqb (call_of state c).number 0) (in_turn (call_of state c).state cs) (call_of state c)
