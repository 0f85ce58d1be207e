-- `naming::dropped` meets its contract. Assumes nothing.
use mathlib.Core.Path.{sym, ◌∙◌}
use Rattle.std.proofs.Common.{◌≡◌, length, arith}
use Rattle.names.specs.Names.{name_limit}
use Rattle.named.proofs.Passed.{named_few}
use Rattle.naming.proofs.Answers.{drop_broken, ready_to_take, drop_unheld, drop_held}
use Rattle.naming.proofs.dropped.Goals as goal

pub returns-then-broken_named : goal.returns-then-broken_named
returns-then-broken_named c = drop_broken _ _ (sym c.broken_named.ensures ∙ c.if-broken_named.true)

pub slot_of-slot-requires : goal.slot_of-slot-requires
slot_of-slot-requires c = named_few _ (sym c.broken_named.ensures ∙ c.if-broken_named.false)

pub returns-then-slot-names : goal.returns-then-slot-names
returns-then-slot-names c =
    let state = c.args.state in
    let right = sym c.broken_named.ensures ∙ c.if-broken_named.false in
    let long : length state.names.entries ≡ name_limit = omega arith in
    drop_unheld state _ right long (sym c.slot_of-slot.ensures ∙ c.if-slot-names.true)

pub take_out-held-requires : goal.take_out-held-requires
take_out-held-requires c =
    let state = c.args.state in
    let right = sym c.broken_named.ensures ∙ c.if-broken_named.false in
    let long : length state.names.entries ≡ name_limit = omega arith in
    let slot = c.slot_of-slot.ensures in
    rw slot (ready_to_take state _ right long (λ e. c.if-slot-names.false (slot ∙ e)))

pub returns : goal.returns
returns c =
    let state = c.args.state in
    let right = sym c.broken_named.ensures ∙ c.if-broken_named.false in
    let long : length state.names.entries ≡ name_limit = omega arith in
    let slot = c.slot_of-slot.ensures in
    rw (c.take_out-held.ensures, slot) (drop_held state _ right long (λ e. c.if-slot-names.false (slot ∙ e)))
