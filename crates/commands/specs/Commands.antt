-- The history of a run with names, by request 109: a list of commands, and what it tells without any state. 'The history in demand 2 and in 01's total of ticks is
-- this shortened one.' No definition of a call is used.
use Rattle.std.specs.Prelude.{ℕ, Bool, false, ◌||◌, cond, List, [], ◌∷◌, ◌++◌, eqb}
use Rattle.events.specs.declared.Event.{Event}

-- an event of the run, or a name that is given, dropped or returned to
pub data Command : Type 0 where
  happen : Event → Command
  name : ℕ → Command
  drop : ℕ → Command
  return : ℕ → Command

pub record Told : Type 0 where
  -- the present history of events
  pub present : List Event
  -- the names held, in the order of their first naming
  pub names : List ℕ
  -- for each of them, the history at its last naming
  pub remembered : ℕ → List Event

-- before the first command
abbrev pub nothing : Told
nothing = record { present = []; names = []; remembered = λ k. [] }

-- whether k is among these
unfoldable pub among : ℕ → List ℕ → Bool
among k [] = false
among k (j ∷ js) = eqb j k || among k js

-- these without k
unfoldable pub besides : ℕ → List ℕ → List ℕ
besides k [] = []
besides k (j ∷ js) = cond (eqb j k) (besides k js) (j ∷ besides k js)

-- an event extends the present history; naming k remembers it under k, in place of what k had; dropping k takes it from the names; returning to k makes what k has the present
-- history, and 'the names themselves are not rewound'
unfoldable pub tells : Told → Command → Told
tells t (happen e) = record { present = t.present ++ (e ∷ []); names = t.names; remembered = t.remembered }
tells t (name k) =
    record {
      present = t.present;
      names = cond (among k t.names) t.names (t.names ++ (k ∷ []));
      remembered = λ j. cond (eqb j k) t.present (t.remembered j);
    }
tells t (drop k) = record { present = t.present; names = besides k t.names; remembered = t.remembered }
tells t (return k) = record { present = t.remembered k; names = t.names; remembered = t.remembered }

unfoldable pub tells_from : Told → List Command → Told
tells_from t [] = t
tells_from t (c ∷ cs) = tells_from (tells t c) cs

-- what a list of commands tells
unfoldable pub told : List Command → Told
told commands = tells_from nothing commands
