-- What naming, dropping and returning give, by request 109, for every state and every name: refusals 21, 30 and 31, and the state that follows.
use Rattle.std.specs.Prelude.{ℕ, Bool, not, ◌&&◌, cond, List, [], ◌∷◌, eqb, Result, Ok, Err}
use Rattle.refusals.specs.Numbers
use Rattle.refusals.specs.Checks.{number}
use Rattle.refusals.specs.declared.Refusal.{Refusal}
use Rattle.refusals.specs.Refusals.{Condition, refusal, first}
use Rattle.state.specs.declared.Place.{Place}
use Rattle.following.specs.Run.{standing}
use Rattle.names.specs.Names.{name_limit, held_in, is_held, naming, dropping, place_under, holding}
use Rattle.names.specs.declared.Held.{Held}
use Rattle.names.specs.declared.Names.{Names}
use Rattle.named.specs.Named.{broken_named}
use Rattle.named.specs.declared.NamedRun.{NamedRun}
use Rattle.naming.specs.declared.NamedStepped.{NamedStepped}

-- the names held in a state, in the order of their first naming
abbrev pub held_by : NamedRun → List Held
held_by state = held_in state.names

-- the same run with other names held
abbrev pub with_held : NamedRun → List Held → NamedRun
with_held state hs = record { run = state.run; names = holding state.names hs }

-- the same names beside the run at another place
abbrev pub at_place : NamedRun → Place → NamedRun
at_place state place = record { run = standing state.run place; names = state.names }

-- other names beside the same run
abbrev pub with_names : NamedRun → Names → NamedRun
with_names state names = record { run = state.run; names = names }

-- where a call leads by what it finds; a refusal stays one
abbrev pub onward : {A : Type 0} → (A → NamedRun) → Result A Refusal → Result NamedRun Refusal
onward next (Ok found) = Ok (next found)
onward next (Err refusal) = Err refusal

-- an answer
abbrev pub answered : ℕ → NamedRun → NamedStepped
answered number state = record { number = number; state = state }

-- the answer that tells a state, or a refusal and the state from before
abbrev pub named_stepped : (before : NamedRun) → Result NamedRun Refusal → NamedStepped
named_stepped before (Ok state) = answered Numbers.accepted state
named_stepped before (Err refusal) = answered (number refusal) before

-- 0 and the next state, or the refusal and the state unchanged
unfoldable pub answer : ℕ → (next state : NamedRun) → NamedStepped
answer number next state = answered number (cond (eqb number 0) next state)

-- 30: 'a return to, or drop of, a name not held'
unfoldable pub not_held : NamedRun → ℕ → Bool
not_held state k = not (is_held k (held_by state))

-- 31: 'a new name while 16 are held'
unfoldable pub names_full : NamedRun → ℕ → Bool
names_full state k = not (is_held k (held_by state)) && eqb state.names.count name_limit

-- 21, then 31
abbrev pub name_conditions : NamedRun → ℕ → List Condition
name_conditions state k = refusal Numbers.broken (broken_named state) ∷ refusal Numbers.names_full (names_full state k) ∷ []

-- 21, then 30
abbrev pub held_conditions : NamedRun → ℕ → List Condition
held_conditions state k = refusal Numbers.broken (broken_named state) ∷ refusal Numbers.not_held (not_held state k) ∷ []

-- the present place is held under k
unfoldable pub name_of : NamedRun → ℕ → NamedStepped
name_of state k = answer (first (name_conditions state k)) (with_held state (naming k state.run.place (held_by state))) state

-- k is held no longer
unfoldable pub drop_of : NamedRun → ℕ → NamedStepped
drop_of state k = answer (first (held_conditions state k)) (with_held state (dropping k (held_by state))) state

-- 'After a return, position, awaited verification and all sums are those of the history up to the naming'; 'the names themselves are not rewound'
unfoldable pub return_of : NamedRun → ℕ → NamedStepped
return_of state k = answer (first (held_conditions state k)) (at_place state (place_under k (held_by state))) state
