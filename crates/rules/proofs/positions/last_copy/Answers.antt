use mathlib.Core.Path.{◌≡◌, sym, ◌∙◌}
use native.Mathlib.Omega.{arith}
use Rattle.chain.proofs.Equations.{last_first}
use Rattle.rules.proofs.Copies.{last_at, last_beyond, last_end}
use Rattle.rules.proofs.positions.last_copy.Goals as goal
use Rattle.rules.proofs.positions.last_copy.Goals.{then-least-run, else-least-run}

pub loop-p-init : goal.loop-p-init
loop-p-init c = record { to = omega arith; value = sym (last_first _ _) }

pub loop-p-preserved : goal.loop-p-preserved
loop-p-preserved c =
    let marks = c.args.run.marks in
    let p = c.loop-p.p in
    elim c.if-least-run.branch [
      | then-least-run w ↦ record { to = omega arith; value = w.found-is ∙ sym (last_at _ marks p (omega arith) w.if-least-run.true) }
      | else-least-run w ↦ record { to = omega arith; value = w.found-is ∙ (c.loop-p.invariant.value ∙ sym (last_beyond _ marks p (omega arith) w.if-least-run.false)) }
    ]

pub returns : goal.returns
returns c = c.loop-p.invariant.value ∙ last_end _ _ _ c.loop-p.p (omega arith) (omega arith) (omega arith)
