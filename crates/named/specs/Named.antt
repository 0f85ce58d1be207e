-- What 21 asks of a run with the names that it holds, by request 109. The rules for the run itself and for a place are those of `rules`.
use Rattle.std.specs.Prelude.{Bool, false, ◌||◌, List, [], ◌∷◌, ltb}
use Rattle.chain.specs.Time.{Marks}
use Rattle.job.specs.declared.Job.{Job}
use Rattle.rules.specs.Rules.{marks_in, broken_place, broken}
use Rattle.names.specs.Names.{name_limit, held_in, is_held}
use Rattle.names.specs.declared.Held.{Held}
use Rattle.names.specs.declared.Names.{Names}
use Rattle.named.specs.declared.NamedRun.{NamedRun}

-- 'a name held twice'
unfoldable pub name_twice : List Held → Bool
name_twice [] = false
name_twice (h ∷ hs) = is_held h.name hs || name_twice hs

-- 'a held place that breaks 21's rules for position, awaited verification or sums'
unfoldable pub some_place_broken : Job → Marks → List Held → Bool
some_place_broken job f [] = false
some_place_broken job f (h ∷ hs) = broken_place job f h.place || some_place_broken job f hs

-- 'one with over 16 names or a name held twice', or with such a place
unfoldable pub bad_names : Job → Marks → Names → Bool
bad_names job f names = ltb name_limit names.count || (name_twice (held_in names) || some_place_broken job f (held_in names))

-- 21: the run breaks a rule of document 01, or its names do
unfoldable pub broken_named : NamedRun → Bool
broken_named state = broken state.run || bad_names state.run.job (marks_in state.run) state.names
