use mathlib.Core.Path.{◌≡◌, sym, ◌∙◌, ap}
use mathlib.Core.List.{List}
use native.Mathlib.Omega.{arith}
use lib.ListN.{length, take}
use Rattle.names.specs.Names.{name_limit, slot_of}
use Rattle.names.specs.declared.Held.{Held}
use Rattle.names.proofs.Slots.{long_held, name_held}
use Rattle.named.proofs.Once.{name_at, twice_found, firsts_more, once}
use Rattle.named.proofs.name_twice.Goals as goal

pub loop-j-init : goal.loop-j-init
loop-j-init c = record { to = omega arith; firsts = λ i h. absurd (omega (arith, h)) }

pub offset_bounds-entries-j : goal.offset_bounds-entries-j
offset_bounds-entries-j c = omega (arith, c.requires)

pub bounds-entries-j : goal.bounds-entries-j
bounds-entries-j c = omega (arith, c.requires)

pub slot_of-requires : goal.slot_of-requires
slot_of-requires c = c.requires

pub returns-then-slot_of-j : goal.returns-then-slot_of-j
returns-then-slot_of-j c =
    let loop = c.loop-j in
    let test = c.loop-j-test in
    let names = c.args.names in
    let long : length names.entries ≡ name_limit = omega arith in
    let few = long_held names.count names.entries long c.requires in
    let hs : List Held = take names.count names.entries in
    let same : slot_of (name_at hs loop.j) hs ≡ c.slot_of.result =
    ap (λ x. slot_of x hs) (name_held _ names.entries _ test.true) ∙ sym c.slot_of.ensures in
    sym (twice_found hs loop.j (rw few test.true) (rw same c.if-slot_of-j.true))

pub loop-j-preserved : goal.loop-j-preserved
loop-j-preserved c =
    let loop = c.loop-j in
    let test = c.loop-j-test in
    let names = c.args.names in
    let long : length names.entries ≡ name_limit = omega arith in
    let few = long_held names.count names.entries long c.requires in
    let hs : List Held = take names.count names.entries in
    let same : slot_of (name_at hs loop.j) hs ≡ c.slot_of.result =
    ap (λ x. slot_of x hs) (name_held _ names.entries _ test.true) ∙ sym c.slot_of.ensures in
    record { to = rw few (omega (arith, test.true)); firsts = firsts_more hs loop.j loop.invariant.firsts (rw same c.if-slot_of-j.false) }

pub returns : goal.returns
returns c =
    let loop = c.loop-j in
    let names = c.args.names in
    let hs : List Held = take names.count names.entries in
    let long : length names.entries ≡ name_limit = omega arith in
    let few = long_held names.count names.entries long c.requires in
    let all : loop.j ≡ length hs = omega (arith, few, loop.invariant.to, c.loop-j-test.false) in
    sym (once hs (rw (← all) loop.invariant.firsts))
