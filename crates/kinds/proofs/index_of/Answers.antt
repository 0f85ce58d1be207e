use Prim.Native.Nat.{ℕ, suc, ◌-◌}
use mathlib.Core.Path.{◌≡◌, sym, ◌∙◌}
use native.Mathlib.Omega.{arith}
use Rattle.header.specs.Header.{sections}
use Rattle.header.proofs.Header.{two_sections}
use Rattle.header.proofs.Loop.{none_start, none_more}
use Rattle.kinds.specs.Kinds.{index_of}
use Rattle.kinds.proofs.Indices.{index_first, index_last}
use borrow.Author.Tests.{ne_eqb}
use Rattle.kinds.proofs.index_of.Goals as goal

pub loop-i-init : goal.loop-i-init
loop-i-init c = none_start _

pub returns-then-kind_of-k : goal.returns-then-kind_of-k
unfolding index_of
returns-then-kind_of-k c =
    let is-kind = sym c.kind_of.ensures ∙ c.if-kind_of-k.true in
    record { is = sym (index_first _ _ c.loop-i.i _ (omega arith) c.loop-i.invariant.none is-kind); range = omega arith }

pub loop-i-preserved : goal.loop-i-preserved
loop-i-preserved c =
    let other = rw c.kind_of.ensures at (ne_eqb _ _ c.if-kind_of-k.false) in
    none_more _ (omega arith) c.loop-i.invariant other

pub returns : goal.returns
unfolding index_of
returns c =
    let s = c.args.s.now in
    let e : sections s ≡ suc c.loop-i.i = omega (arith, two_sections s) in
    let last : c.section_count-last.result - 1 ≡ c.loop-i.i = omega (arith, two_sections s) in
    record { is = rw (last, e) (sym (index_last _ _ c.loop-i.i c.loop-i.invariant.none)); range = omega arith }

pub overflow_sub-last : goal.overflow_sub-last
overflow_sub-last c = omega (arith, two_sections c.args.s.now)
