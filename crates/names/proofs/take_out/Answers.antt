use Prim.Native.Nat.{◌+◌, ◌-◌, ◌<◌}
use mathlib.Core.Path.{◌≡◌, refl, ◌∙◌, ap}
use native.Mathlib.Omega.{arith}
use lib.ListN.{length}
use Rattle.names.specs.Names.{name_limit}
use Rattle.names.proofs.Entries.{held_then, take_out_is, moved_none, moved_more, moved_all}
use Rattle.std.proofs.Common.{◌≡◌, length, arith}
use Rattle.names.proofs.take_out.Goals as goal

pub overflow_sub-last : goal.overflow_sub-last
overflow_sub-last c = omega (arith, c.requires.held)

pub loop-j-init : goal.loop-j-init
loop-j-init c =
    let names = c.args.names in
    let long : length names.entries ≡ name_limit = omega arith in
    moved_none names.entries _ _ (omega (arith, long, c.requires.few, c.requires.held)) (omega (arith, c.requires.held))

pub overflow_add-entries : goal.overflow_add-entries
overflow_add-entries c = omega (arith, c.requires.few)

pub offset_bounds-entries-j : goal.offset_bounds-entries-j
offset_bounds-entries-j c = omega (arith, c.requires.few)

pub bounds-entries-j : goal.bounds-entries-j
bounds-entries-j c = omega (arith, c.requires.few)

pub offset_bounds-entries-j-in-loop-j : goal.offset_bounds-entries-j-in-loop-j
offset_bounds-entries-j-in-loop-j c = omega (arith, c.requires.few)

pub bounds-entries-j-in-loop-j : goal.bounds-entries-j-in-loop-j
bounds-entries-j-in-loop-j c = omega (arith, c.requires.few)

pub loop-j-preserved : goal.loop-j-preserved
loop-j-preserved c =
    let loop = c.loop-j in
    let names = c.args.names in
    let long : length names.entries ≡ name_limit = omega arith in
    let room : names.count - 1 < length names.entries = omega (arith, long, c.requires.few, c.requires.held) in
    moved_more names.entries _ _ room loop.entries loop.j loop.invariant c.loop-j-test.true

pub offset_bounds-entries-last : goal.offset_bounds-entries-last
offset_bounds-entries-last c = omega (arith, c.requires.few)

pub bounds-entries-last : goal.bounds-entries-last
bounds-entries-last c = omega (arith, c.requires.few)

pub returns : goal.returns
returns c =
    let loop = c.loop-j in
    let names = c.args.names in
    let long : length names.entries ≡ name_limit = omega arith in
    let room : names.count - 1 < length names.entries = omega (arith, long, c.requires.few, c.requires.held) in
    let all = moved_all names.entries _ _ room loop.entries loop.j loop.invariant c.loop-j-test.false in
    let count : names.count - 1 + 1 ≡ names.count = omega (arith, c.requires.held) in
    rw c.no_held.ensures (ap (held_then (names.count - 1)) (all ∙ rw count refl) ∙ take_out_is names long c.requires.few _ c.requires.held)
