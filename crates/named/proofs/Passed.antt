-- What 21 leaves of a run with names: it accepts the run, and each rule for the names holds. Assumes nothing.
use Prim.Native.Nat.{◌≤◌}
use mathlib.Core.Path.{◌≡◌}
use mathlib.Core.Bool.{false}
use borrow.Author.Tests.{ltb-false, le-ltb}
use lib.Dec.{ltb}
use Rattle.lists.proofs.Lists.{or_fails}
use Rattle.rules.specs.Rules.{marks_in, broken}
use Rattle.names.specs.Names.{name_limit, held_in}
use Rattle.named.specs.Named.{name_twice, some_place_broken, bad_names, broken_named}
use Rattle.named.specs.declared.NamedRun.{NamedRun}

pub record NamedPassed (state : NamedRun) : Type 0 where
  pub run : broken state.run ≡ false
  pub few : state.names.count ≤ name_limit
  pub once : name_twice (held_in state.names) ≡ false
  pub places : some_place_broken state.run.job (marks_in state.run) (held_in state.names) ≡ false

pub named_passed : (state : NamedRun) → broken_named state ≡ false → NamedPassed state
unfolding broken_named bad_names
named_passed state right =
    let after_run = or_fails (broken state.run) _ right in
    let after-few = or_fails (ltb name_limit state.names.count) _ after_run.1 in
    let after-once = or_fails (name_twice (held_in state.names)) _ after-few.1 in
    record { run = after_run.0; few = ltb-false name_limit state.names.count after-few.0; once = after-once.0; places = after-once.1 }

-- and a state that keeps the rules passes
pub named_unbroken : (state : NamedRun) → NamedPassed state → broken_named state ≡ false
unfolding broken_named bad_names
named_unbroken state p = rw (p.run, le-ltb _ _ p.few, p.once) p.places

pub named_few : (state : NamedRun) → broken_named state ≡ false → state.names.count ≤ name_limit
named_few state right = (named_passed state right).few

pub named_right : (state : NamedRun) → broken_named state ≡ false → bad_names state.run.job (marks_in state.run) state.names ≡ false
unfolding broken_named
named_right state right = (or_fails (broken state.run) _ right).1
