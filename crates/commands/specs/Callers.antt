-- What a caller holds: calls tried in turn, whether or not those before them were accepted; the state after them, and the commands of those that were accepted.
use Rattle.std.specs.Prelude.{◌≡◌, false, cond, List, [], ◌∷◌, ◌++◌, map, eqb}
use Rattle.chain.specs.Time.{Marks}
use Rattle.job.specs.declared.Job.{Job}
use Rattle.rules.specs.Rules.{total_of}
use Rattle.state.specs.declared.Run.{Run}
use Rattle.following.specs.Run.{standing}
use Rattle.history.specs.Events.{events_of}
use Rattle.history.specs.Counts.{place_of, ticks}
use Rattle.names.specs.Names.{held}
use Rattle.named.specs.Named.{broken_named}
use Rattle.named.specs.declared.NamedRun.{NamedRun}
use Rattle.naming.specs.Calls.{held_by}
use Rattle.naming.specs.Turns.{Call, call_of}
use Rattle.naming.specs.Turns.Call.{logged, named, dropped, returned}
use Rattle.commands.specs.Commands.{Command, Told}
use Rattle.commands.specs.Commands.Command.{happen, name, drop, return}

-- the commands of a call
unfoldable pub commands_of : Call → List Command
commands_of (logged log) = map happen (events_of log)
commands_of (named k) = name k ∷ []
commands_of (dropped k) = drop k ∷ []
commands_of (returned k) = return k ∷ []

-- the commands of all calls
unfoldable pub all_commands : List Call → List Command
all_commands [] = []
all_commands (c ∷ cs) = commands_of c ++ all_commands cs

unfoldable pub tried_calls : NamedRun → List Call → NamedRun
tried_calls state [] = state
tried_calls state (c ∷ cs) = tried_calls (call_of state c).state cs

unfoldable pub taken_calls : NamedRun → List Call → List Command
taken_calls state [] = []
taken_calls state (c ∷ cs) = cond (eqb (call_of state c).number 0) (commands_of c) [] ++ taken_calls (call_of state c).state cs

-- a state stands where these histories say: the run at the place of the present one, with its total of ticks, and just the names told, each with the place of the
-- history that it remembers; 21 accepts it
pub record Stands (job : Job) (f : Marks) (run : Run) (t : Told) (state : NamedRun) : Type 0 where
  pub present : state.run ≡ standing run (place_of job f t.present)
  pub held_are : held_by state ≡ map (λ k. held k (place_of job f (t.remembered k))) t.names
  pub total : total_of state.run.place.sums ≡ ticks job f t.present
  pub sound : broken_named state ≡ false
