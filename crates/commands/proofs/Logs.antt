-- Two logs in turn from a run with names are one log, as they are from a run. Assumes nothing.
use Prim.Native.Nat.{ℕ}
use mathlib.Core.Path.{◌≡◌, refl, sym, ◌∙◌, ap}
use mathlib.Core.Bool.{Bool, true, false, cond}
use mathlib.Core.List.{List, ◌++◌}
use lib.Dec.{eqb}
use Rattle.state.specs.declared.Run.{Run}
use Rattle.following.specs.Run.{refused}
use Rattle.following.specs.declared.Stepped.{Stepped}
use Rattle.logs.specs.Log as log
use Rattle.history.proofs.LogsInTurn as plain
use Rattle.names.specs.declared.Names.{Names}
use Rattle.named.specs.declared.NamedRun.{NamedRun}
use Rattle.named.proofs.Passed.{named_right}
use Rattle.naming.specs.Calls.{answered}
use Rattle.naming.specs.Log.{or_before, log_of, beside}
use Rattle.naming.specs.declared.NamedStepped.{NamedStepped}
use Rattle.naming.proofs.Once.{log_beside, log_right}
use Rattle.commands.proofs.Sound.{log_accepted}

before_beside : (names : Names) (run : Run) (s : Stepped) → beside names (log.or_before run s) ≡ or_before (record { run = run; names = names }) (beside names s)
unfolding or_before log.or_before
before_beside names run s = go (eqb s.number 0)
  where
    go : (b : Bool) → beside names (cond b s (refused s.number run)) ≡ cond b (beside names s) (answered s.number (record { run = run; names = names }))
    go true = refl
    go false = refl

pub two_logs : (state : NamedRun) (a b : List ℕ) → (log_of state a).number ≡ 0 → log_of state (a ++ b) ≡ or_before state (log_of (log_of state a).state b)
two_logs state a b z =
    let first = log_accepted state a z in
    let right = named_right state first.sound in
    let second : log_of (log_of state a).state b ≡ beside state.names (log.log_of (log.log_of state.run a).run b) =
    ap (λ (s : NamedStepped). log_of s.state b) first.is ∙ log_beside state.names (log.log_of state.run a).run b (log_right state.names state.run a right) in
    log_beside state.names state.run (a ++ b) right
    ∙ ap (beside state.names) ((plain.two_logs state.run a b).accepted_first first.number)
    ∙ before_beside state.names state.run (log.log_of (log.log_of state.run a).run b)
    ∙ ap (or_before state) (sym second)
