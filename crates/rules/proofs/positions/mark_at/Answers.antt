-- `rules::positions::mark_at` meets its contract. A position after the start has the mark of the task that ends there, or 0 past the end. Assumes nothing.
use mathlib.Core.Path.{◌≡◌, sym, ◌∙◌}
use native.Mathlib.Omega.{arith}
use Prim.Native.Nat.{◌-◌, ◌≤◌}
use lib.ListN.{length, get_or, get_or-eq_default}
use Rattle.std.proofs.Common.{rules}
use Rattle.marks.proofs.Stretches.{mark_at}
use Rattle.rules.proofs.positions.mark_at.Goals as goal

pub returns-then-p-eq0 : goal.returns-then-p-eq0
returns-then-p-eq0 c =
    let if1 = c.if-p-eq0 in
    rw if1.true

pub returns-in-Some : goal.returns-in-Some
returns-in-Some c =
    let there : c.in-Some.field-0.now ≡ get_or c.args.marks.now (c.args.p - 1) 0 = search rules in
    there ∙ sym (mark_at c.args.marks.now c.args.p (omega arith))

pub returns-in-None : goal.returns-in-None
returns-in-None c =
    let past : length c.args.marks.now ≤ c.args.p - 1 = search rules in
    sym (get_or-eq_default c.args.marks.now 0 past) ∙ sym (mark_at c.args.marks.now c.args.p (omega arith))
