-- `naming::named` meets its contract. Assumes nothing.
use mathlib.Core.Path.{sym, ◌∙◌}
use Rattle.std.proofs.Common.{◌≡◌, length, arith}
use Rattle.names.specs.Names.{name_limit}
use Rattle.named.proofs.Passed.{named_few}
use Rattle.naming.proofs.Answers.{name_broken, ready_to_put, name_full, name_put}
use Rattle.naming.proofs.named.Goals as goal

pub returns-then-broken_named : goal.returns-then-broken_named
returns-then-broken_named c = name_broken _ _ (sym c.broken_named.ensures ∙ c.if-broken_named.true)

pub slot_of-slot-requires : goal.slot_of-slot-requires
slot_of-slot-requires c = named_few _ (sym c.broken_named.ensures ∙ c.if-broken_named.false)

pub returns-then-slot-eq-NAME_LIMIT : goal.returns-then-slot-eq-NAME_LIMIT
returns-then-slot-eq-NAME_LIMIT c =
    let state = c.args.state in
    let right = sym c.broken_named.ensures ∙ c.if-broken_named.false in
    let long : length state.names.entries ≡ name_limit = omega arith in
    name_full state _ right long (sym c.slot_of-slot.ensures ∙ c.if-slot-eq-NAME_LIMIT.true)

pub put-held-requires : goal.put-held-requires
put-held-requires c =
    let state = c.args.state in
    let right = sym c.broken_named.ensures ∙ c.if-broken_named.false in
    let long : length state.names.entries ≡ name_limit = omega arith in
    let slot = c.slot_of-slot.ensures in
    rw slot (ready_to_put state _ right long (λ e. c.if-slot-eq-NAME_LIMIT.false (slot ∙ e)))

pub returns : goal.returns
returns c =
    let state = c.args.state in
    let right = sym c.broken_named.ensures ∙ c.if-broken_named.false in
    let long : length state.names.entries ≡ name_limit = omega arith in
    let slot = c.slot_of-slot.ensures in
    rw (c.put-held.ensures, slot) (name_put state _ right long (λ e. c.if-slot-eq-NAME_LIMIT.false (slot ∙ e)))
