-- A state with other entries past the names that it holds: what the theorems on unread entries compare.
use Rattle.std.specs.Prelude.{ℕ, ◌≤◌, ◌≡◌, List, get_or}
use Rattle.names.specs.Names.{no_held}
use Rattle.names.specs.declared.Held.{Held}
use Rattle.named.specs.declared.NamedRun.{NamedRun}
use Rattle.naming.specs.Calls.{held_by}
use Rattle.naming.specs.declared.NamedStepped.{NamedStepped}

-- the same state with these entries
abbrev pub with_entries : NamedRun → List Held → NamedRun
with_entries state entries = record { run = state.run; names = record { count = state.names.count; entries = entries } }

-- two answers that differ in entries past the names held at most
pub record SameButPast (s r : NamedStepped) : Type 0 where
  pub number : s.number ≡ r.number
  pub run : s.state.run ≡ r.state.run
  pub count : s.state.names.count ≡ r.state.names.count
  pub held_same : held_by s.state ≡ held_by r.state

-- entries past the names held, before and after, are those from before
abbrev pub Carried : (before after : NamedRun) → Type 0
Carried before after =
    (j : ℕ) → before.names.count ≤ j → after.names.count ≤ j → get_or after.names.entries j no_held ≡ get_or before.names.entries j no_held
