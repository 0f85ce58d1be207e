-- What the calls answer, case by case: 21 first, then 30 or 31, then the next state. Where a name stands among those held tells whether it is held. Assumes nothing.
use Prim.Native.Nat.{ℕ, ◌≤◌}
use mathlib.Core.Path.{◌≡◌, refl, sym, ◌∙◌}
use mathlib.Core.Bool.{Bool, true, false}
use native.Mathlib.Omega.{arith}
use borrow.Author.Tests.{eq-eqb, ne_eqb}
use lib.ListN.{length}
use Rattle.refusals.specs.Numbers
use Rattle.refusals.specs.Refusals.{first}
use Rattle.state.specs.declared.Place.{Place}
use Rattle.names.specs.Names.{name_limit, held, is_held, slot_of, naming, dropping, place_under, put, taken_out}
use Rattle.names.specs.Working.Ready.{ReadyToPut, ReadyToTake}
use Rattle.names.proofs.Slots.{long_held, slot_within, held_slot, unheld_slot}
use Rattle.named.specs.Named.{broken_named}
use Rattle.named.specs.declared.NamedRun.{NamedRun}
use Rattle.named.proofs.Passed.{named_few}
use Rattle.naming.specs.Calls.{held_by, at_place, answered, answer, not_held, names_full, name_of, drop_of, return_of}

-- a state that 21 turns down
module _ (state : NamedRun) (k : ℕ) (b : broken_named state ≡ true) where
  pub name_broken : answered Numbers.broken state ≡ name_of state k
  unfolding name_of first answer
  name_broken = rw b

  pub drop_broken : answered Numbers.broken state ≡ drop_of state k
  unfolding drop_of first answer
  drop_broken = rw b

  pub return_broken : answered Numbers.broken state ≡ return_of state k
  unfolding return_of first answer
  return_broken = rw b

-- a state that it accepts
module _ (state : NamedRun) (k : ℕ) (right : broken_named state ≡ false) (long : length state.names.entries ≡ name_limit) where
  few : state.names.count ≤ name_limit
  few = named_few state right

  count_held : length (held_by state) ≡ state.names.count
  count_held = long_held state.names.count state.names.entries long few

  -- whether it is held, by its slot
  held_if : (slot_of k (held_by state) ≡ state.names.count → ⊥) → is_held k (held_by state) ≡ true
  held_if h = go (is_held k (held_by state)) refl
    where
      go : (b : Bool) → is_held k (held_by state) ≡ b → is_held k (held_by state) ≡ true
      go true q = q
      go false q = absurd (h (unheld_slot k (held_by state) q ∙ count_held))

  unheld_if : slot_of k (held_by state) ≡ state.names.count → is_held k (held_by state) ≡ false
  unheld_if h = go (is_held k (held_by state)) refl
    where
      go : (b : Bool) → is_held k (held_by state) ≡ b → is_held k (held_by state) ≡ false
      go true q = absurd (omega (arith, held_slot k (held_by state) q, count_held, h))
      go false q = q

  within : slot_of k (held_by state) ≤ state.names.count
  within = omega (arith, slot_within k (held_by state), count_held)

  pub ready_to_put : (slot_of k (held_by state) ≡ name_limit → ⊥) → ReadyToPut state.names (slot_of k (held_by state))
  ready_to_put h = record { held = within; room = omega (arith, h, within, few); few = few }

  pub ready_to_take : (slot_of k (held_by state) ≡ state.names.count → ⊥) → ReadyToTake state.names (slot_of k (held_by state))
  ready_to_take h = record { held = omega (arith, h, within); few = few }

  -- 31
  pub name_full : slot_of k (held_by state) ≡ name_limit → answered Numbers.names_full state ≡ name_of state k
  unfolding name_of first answer names_full
  name_full h =
      let all : state.names.count ≡ name_limit = omega (arith, h, within, few) in
      rw (right, unheld_if (h ∙ sym all), eq-eqb _ _ all)

  not_full : (slot_of k (held_by state) ≡ name_limit → ⊥) → names_full state k ≡ false
  unfolding names_full
  not_full h = go (is_held k (held_by state)) refl
    where
      go : (b : Bool) → is_held k (held_by state) ≡ b → names_full state k ≡ false
      go true q = rw q
      go false q = rw (q, ne_eqb state.names.count name_limit (λ all. h (unheld_slot k (held_by state) q ∙ count_held ∙ all)))

  pub name_put : (slot_of k (held_by state) ≡ name_limit → ⊥)
      → answered Numbers.accepted (record { run = state.run; names = put state.names (slot_of k (held_by state)) (held k state.run.place) }) ≡ name_of state k
  unfolding name_of first answer naming
  name_put h = rw (right, not_full h)

  -- 30
  pub drop_unheld : slot_of k (held_by state) ≡ state.names.count → answered Numbers.not_held state ≡ drop_of state k
  unfolding drop_of first answer not_held
  drop_unheld h = rw (right, unheld_if h)

  pub return_unheld : slot_of k (held_by state) ≡ state.names.count → answered Numbers.not_held state ≡ return_of state k
  unfolding return_of first answer not_held
  return_unheld h = rw (right, unheld_if h)

  pub drop_held : (slot_of k (held_by state) ≡ state.names.count → ⊥)
      → answered Numbers.accepted (record { run = state.run; names = taken_out state.names (slot_of k (held_by state)) }) ≡ drop_of state k
  unfolding drop_of first answer not_held dropping
  drop_held h = rw (right, held_if h)

  pub return_held : (slot_of k (held_by state) ≡ state.names.count → ⊥) → (place : Place) → place ≡ place_under k (held_by state)
      → answered Numbers.accepted (at_place state place) ≡ return_of state k
  unfolding return_of first answer not_held
  return_held h place is = rw (right, held_if h, is)
