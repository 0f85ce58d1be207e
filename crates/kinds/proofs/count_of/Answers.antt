use Prim.Native.Nat.{◌+◌, ◌-◌}
use mathlib.Core.Path.{◌≡◌, refl, sym, ◌∙◌, ap}
use native.Mathlib.Omega.{arith}
use Rattle.header.specs.Header.{sections}
use Rattle.kinds.specs.Kinds.{counted}
use Rattle.kinds.proofs.Indices.{counted_more, counted_same}
use Rattle.kinds.proofs.count_of.Goals as goal
use Rattle.kinds.proofs.count_of.Goals.{then-kind_of-k, else-kind_of-k}

pub loop-j-init : goal.loop-j-init
unfolding counted
loop-j-init c = record { within = omega arith; count = refl; few = omega arith }

pub loop-j-preserved : goal.loop-j-preserved
loop-j-preserved c =
    let kind-of = c.kind_of in
    let loop = c.loop-j in
    elim c.if-kind_of-k.branch [
      | then-kind_of-k w ↦ record {
        within = omega arith;
        count = w.n-is ∙ (ap (λ n. n + 1) loop.invariant.count ∙ counted_more _ _ loop.j (sym kind-of.ensures ∙ w.if-kind_of-k.true));
        few = omega arith;
      }
      | else-kind_of-k w ↦ record {
        within = omega arith;
        count = w.n-is ∙ (loop.invariant.count ∙ counted_same _ _ loop.j (λ e. w.if-kind_of-k.false (kind-of.ensures ∙ e)));
        few = omega arith;
      }
    ]

pub returns : goal.returns
returns c =
    let loop = c.loop-j in
    let e : sections c.args.s.now ≡ loop.j = omega arith in
    rw e loop.invariant.count
