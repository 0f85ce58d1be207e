-- The names that a run holds, by request 109, and what naming, dropping and returning do to them.
use Rattle.std.specs.Prelude.{ℕ, suc, ◌+◌, ◌-◌, Bool, false, ◌||◌, cond, List, [], ◌∷◌, ◌++◌, eqb, length, get_or, take, drop, replicate}
use Rattle.state.specs.State.{beginning}
use Rattle.state.specs.declared.Place.{Place}
use Rattle.names.specs.declared.Held.{Held}
use Rattle.names.specs.declared.Names.{Names}

-- 'up to 16 are held'
abbrev pub name_limit : ℕ
name_limit = 16

-- a name and its place
abbrev pub held : ℕ → Place → Held
held k place = record { name = k; place = place }

-- an entry that holds nothing
abbrev pub no_held : Held
no_held = held 0 beginning

-- no name held
unfoldable pub no_names : Names
no_names = record { count = 0; entries = replicate name_limit no_held }

-- the names held, in the order of their first naming; entries past them are not read
abbrev pub held_in : Names → List Held
held_in names = take names.count names.entries

-- whether a name is held
unfoldable pub is_held : ℕ → List Held → Bool
is_held k [] = false
is_held k (h ∷ hs) = eqb h.name k || is_held k hs

-- how many entries stand before that of a name; all of them where it is not held
unfoldable pub slot_of : ℕ → List Held → ℕ
slot_of k [] = 0
slot_of k (h ∷ hs) = cond (eqb h.name k) 0 (suc (slot_of k hs))

-- an entry in place of that at a slot, or after the last one
unfoldable pub put_at : ℕ → Held → List Held → List Held
put_at slot h hs = take slot hs ++ (h ∷ drop (suc slot) hs)

-- the entries without that at a slot
unfoldable pub without : ℕ → List Held → List Held
without slot hs = take slot hs ++ drop (suc slot) hs

-- 'Naming again replaces': the place that k has now
unfoldable pub naming : (k : ℕ) → Place → List Held → List Held
naming k place hs = put_at (slot_of k hs) (held k place) hs

-- 'a name is held from its naming until it is dropped'
unfoldable pub dropping : (k : ℕ) → List Held → List Held
dropping k hs = without (slot_of k hs) hs

-- the place that k has
unfoldable pub place_under : (k : ℕ) → List Held → Place
place_under k hs = (get_or hs (slot_of k hs) no_held).place

-- these are held in place of those before; an entry that becomes free is 0, and entries past both are carried along
unfoldable pub holding : Names → List Held → Names
holding names hs =
    record {
      count = length hs;
      entries = hs ++ (replicate (names.count - length hs) no_held ++ drop (length hs + (names.count - length hs)) names.entries);
    }

-- an entry put, and one taken out
abbrev pub put : Names → ℕ → Held → Names
put names slot h = holding names (put_at slot h (held_in names))

abbrev pub taken_out : Names → ℕ → Names
taken_out names slot = holding names (without slot (held_in names))
