use Prim.Native.Nat.{◌-◌}
use mathlib.Core.Path.{◌≡◌, refl, sym, ◌∙◌}
use native.Mathlib.Omega.{arith}
use borrow.Author.Rules.{rules}
use Rattle.job.specs.Working.Heaviest.{heaviest}
use Rattle.job.proofs.Heaviest.{heaviest_more, heaviest_kept}
use Rattle.job.proofs.checks.heaviest.Goals as goal
use Rattle.job.proofs.checks.heaviest.Goals.{then-most-w, else-most-w}

pub loop-j-init : goal.loop-j-init
unfolding heaviest
loop-j-init c = record { to = search rules; value = refl }

pub loop-j-preserved : goal.loop-j-preserved
loop-j-preserved c =
    let args = c.args in
    let loop = c.loop-j in
    elim c.if-most-w.branch [
      | then-most-w w ↦ record { to = omega arith; value = w.most-is ∙ sym (heaviest_more args.weights.now loop.j (omega arith)) }
      | else-most-w w ↦ record { to = omega arith; value = w.most-is ∙ loop.invariant.value ∙ sym (heaviest_kept args.weights.now loop.j (omega arith)) }
    ]

pub returns : goal.returns
returns c = let e : c.loop-j.j ≡ c.args.n = omega arith in rw (← e) c.loop-j.invariant.value
