-- `naming::returned` meets its contract. Assumes nothing.
use mathlib.Core.Path.{sym, ◌∙◌}
use native.Mathlib.Omega.{arith}
use Rattle.std.proofs.Common.{◌≡◌, length}
use Rattle.names.specs.Names.{name_limit}
use Rattle.names.proofs.Slots.{place_held}
use Rattle.named.proofs.Passed.{named_few}
use Rattle.names.specs.Names.{place_under}
use Rattle.naming.proofs.Answers.{return_broken, ready_to_take, return_unheld, return_held}
use Rattle.naming.proofs.returned.Goals as goal

pub returns-then-broken_named : goal.returns-then-broken_named
returns-then-broken_named c = return_broken _ _ (sym c.broken_named.ensures ∙ c.if-broken_named.true)

pub slot_of-slot-requires : goal.slot_of-slot-requires
slot_of-slot-requires c = named_few _ (sym c.broken_named.ensures ∙ c.if-broken_named.false)

pub returns-then-slot-names : goal.returns-then-slot-names
returns-then-slot-names c =
    let state = c.args.state in
    let right = sym c.broken_named.ensures ∙ c.if-broken_named.false in
    let long : length state.names.entries ≡ name_limit = omega arith in
    return_unheld state _ right long (sym c.slot_of-slot.ensures ∙ c.if-slot-names.true)

pub offset_bounds-entries-slot : goal.offset_bounds-entries-slot
offset_bounds-entries-slot c =
    let state = c.args.state in
    let right = sym c.broken_named.ensures ∙ c.if-broken_named.false in
    let long : length state.names.entries ≡ name_limit = omega arith in
    let slot = c.slot_of-slot.ensures in
    let ready = ready_to_take state _ right long (λ e. c.if-slot-names.false (slot ∙ e)) in
    omega (arith, slot, ready.held, ready.few)

pub bounds-entries-slot : goal.bounds-entries-slot
bounds-entries-slot c =
    let state = c.args.state in
    let right = sym c.broken_named.ensures ∙ c.if-broken_named.false in
    let long : length state.names.entries ≡ name_limit = omega arith in
    let slot = c.slot_of-slot.ensures in
    let ready = ready_to_take state _ right long (λ e. c.if-slot-names.false (slot ∙ e)) in
    omega (arith, slot, ready.held, ready.few)

pub returns : goal.returns
unfolding place_under
returns c =
    let state = c.args.state in
    let asked = c.broken_named in
    let accepted = c.if-broken_named in
    let right = sym asked.ensures ∙ accepted.false in
    let long : length state.names.entries ≡ name_limit = omega arith in
    let slot = c.slot_of-slot.ensures in
    let ready = ready_to_take state _ right long (λ e. c.if-slot-names.false (slot ∙ e)) in
    return_held state _ right long (λ e. c.if-slot-names.false (slot ∙ e)) _ (rw slot (sym (place_held _ state.names.entries _ ready.held)))
