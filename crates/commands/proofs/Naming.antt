-- Naming, dropping and returning, entry by entry: the first entry has the name, or the rest is asked. Assumes nothing.
use Prim.Native.Nat.{ℕ, suc, ◌+◌, ◌≤◌}
use mathlib.Core.Path.{◌≡◌, refl, sym, ◌∙◌, ap}
use mathlib.Core.Bool.{true, false, true≢false, false≢true}
use mathlib.Core.List.{List, [], ◌∷◌}
use native.Mathlib.Decide.{ℕ_discrete}
use native.Mathlib.Omega.{arith}
use borrow.Author.Tests.{eq-eqb, ne_eqb}
use lib.Dec.{eqb}
use lib.ListN.{length, get_or}
use lib.Seq.{take-append_seam}
use Rattle.lists.proofs.Lists.{or_fails}
use Rattle.chain.specs.Time.{Marks}
use Rattle.job.specs.declared.Job.{Job}
use Rattle.rules.specs.Rules.{broken_place}
use Rattle.state.specs.declared.Place.{Place}
use Rattle.names.specs.Names.{held, no_held, held_in, is_held, slot_of, put_at, without, naming, dropping, place_under, holding}
use Rattle.names.specs.declared.Held.{Held}
use Rattle.names.specs.declared.Names.{Names}
use Rattle.names.proofs.Slots.{slot_first, slot_other}
use Rattle.named.specs.Named.{name_twice, some_place_broken}

-- those held are those that are put there
pub holding_holds : (names : Names) (hs : List Held) → held_in (holding names hs) ≡ hs
unfolding holding
holding_holds names hs = take-append_seam hs _

module _ (k : ℕ) (p : Place) where
  pub naming_none : naming k p [] ≡ held k p ∷ []
  unfolding naming put_at slot_of
  naming_none = refl

  pub naming_first : (h : Held) (hs : List Held) → h.name ≡ k → naming k p (h ∷ hs) ≡ held k p ∷ hs
  unfolding naming put_at
  naming_first h hs e = rw (slot_first k h hs e)

  pub naming_other : (h : Held) (hs : List Held) → (h.name ≡ k → ⊥) → naming k p (h ∷ hs) ≡ h ∷ naming k p hs
  unfolding naming put_at
  naming_other h hs e = rw (slot_other k h hs e)

module _ (k : ℕ) where
  pub dropping_none : dropping k [] ≡ []
  unfolding dropping without slot_of
  dropping_none = refl

  pub dropping_first : (h : Held) (hs : List Held) → h.name ≡ k → dropping k (h ∷ hs) ≡ hs
  unfolding dropping without
  dropping_first h hs e = rw (slot_first k h hs e)

  pub dropping_other : (h : Held) (hs : List Held) → (h.name ≡ k → ⊥) → dropping k (h ∷ hs) ≡ h ∷ dropping k hs
  unfolding dropping without
  dropping_other h hs e = rw (slot_other k h hs e)

  pub under_first : (h : Held) (hs : List Held) → h.name ≡ k → place_under k (h ∷ hs) ≡ h.place
  unfolding place_under
  under_first h hs e = ap (λ s. (get_or (h ∷ hs) s no_held).place) (slot_first k h hs e)

  pub under_other : (h : Held) (hs : List Held) → (h.name ≡ k → ⊥) → place_under k (h ∷ hs) ≡ place_under k hs
  unfolding place_under
  under_other h hs e = ap (λ s. (get_or (h ∷ hs) s no_held).place) (slot_other k h hs e)

  pub held_first : (h : Held) (hs : List Held) → h.name ≡ k → is_held k (h ∷ hs) ≡ true
  unfolding is_held
  held_first h hs e = rw (eq-eqb _ _ e)

  pub held_other : (h : Held) (hs : List Held) → (h.name ≡ k → ⊥) → is_held k (h ∷ hs) ≡ is_held k hs
  unfolding is_held
  held_other h hs e = rw (ne_eqb _ _ e)

-- a name that is not held is not among these
unheld_tail : (j : ℕ) (h : Held) (hs : List Held) → is_held j (h ∷ hs) ≡ false → is_held j hs ≡ false
unfolding is_held
unheld_tail j h hs e = (or_fails (eqb h.name j) (is_held j hs) e).1

unheld_name : (j : ℕ) (h : Held) (hs : List Held) → is_held j (h ∷ hs) ≡ false → h.name ≡ j → ⊥
unheld_name j h hs e same = true≢false (sym (held_first j h hs same) ∙ e)

unheld_more : (j : ℕ) (h : Held) (hs : List Held) → (h.name ≡ j → ⊥) → is_held j hs ≡ false → is_held j (h ∷ hs) ≡ false
unheld_more j h hs other e = held_other j h hs other ∙ e

-- once held, held once
pub once_head : (h : Held) (hs : List Held) → name_twice (h ∷ hs) ≡ false → is_held h.name hs ≡ false
unfolding name_twice
once_head h hs e = (or_fails (is_held h.name hs) (name_twice hs) e).0

pub once_tail : (h : Held) (hs : List Held) → name_twice (h ∷ hs) ≡ false → name_twice hs ≡ false
unfolding name_twice
once_tail h hs e = (or_fails (is_held h.name hs) (name_twice hs) e).1

once_more : (h : Held) (hs : List Held) → is_held h.name hs ≡ false → name_twice hs ≡ false → name_twice (h ∷ hs) ≡ false
unfolding name_twice
once_more h hs e f = rw e f

once_one : (h : Held) → name_twice (h ∷ []) ≡ false
unfolding name_twice is_held
once_one h = refl

none_held : (k : ℕ) → is_held k [] ≡ false
unfolding is_held
none_held k = refl

module _ (k : ℕ) (p : Place) where
  -- no other name is held by naming k
  naming_unheld : (j : ℕ) (hs : List Held) → (k ≡ j → ⊥) → is_held j hs ≡ false → is_held j (naming k p hs) ≡ false
  naming_unheld j [] other e = rw (naming_none k p) (unheld_more j (held k p) [] other e)
  naming_unheld j (h ∷ hs) other e = go (ℕ_discrete h.name k) (naming_unheld j hs other (unheld_tail j h hs e))
    where
      go : Dec (h.name ≡ k) → is_held j (naming k p hs) ≡ false → is_held j (naming k p (h ∷ hs)) ≡ false
      go (yes z) ih = rw (naming_first k p h hs z) (unheld_more j (held k p) hs other (unheld_tail j h hs e))
      go (no z) ih = rw (naming_other k p h hs z) (unheld_more j h (naming k p hs) (unheld_name j h hs e) ih)

  pub naming_once : (hs : List Held) → name_twice hs ≡ false → name_twice (naming k p hs) ≡ false
  naming_once [] e = rw (naming_none k p) (once_one (held k p))
  naming_once (h ∷ hs) e = go (ℕ_discrete h.name k) (naming_once hs (once_tail h hs e))
    where
      go : Dec (h.name ≡ k) → name_twice (naming k p hs) ≡ false → name_twice (naming k p (h ∷ hs)) ≡ false
      go (yes z) ih = rw (naming_first k p h hs z) (once_more (held k p) hs (rw (← z) (once_head h hs e)) (once_tail h hs e))
      go (no z) ih = rw (naming_other k p h hs z) (once_more h (naming k p hs) (naming_unheld h.name hs (λ q. z (sym q)) (once_head h hs e)) ih)

module _ (k : ℕ) where
  dropping_unheld : (j : ℕ) (hs : List Held) → is_held j hs ≡ false → is_held j (dropping k hs) ≡ false
  dropping_unheld j [] e = rw (dropping_none k) e
  dropping_unheld j (h ∷ hs) e = go (ℕ_discrete h.name k) (dropping_unheld j hs (unheld_tail j h hs e))
    where
      go : Dec (h.name ≡ k) → is_held j (dropping k hs) ≡ false → is_held j (dropping k (h ∷ hs)) ≡ false
      go (yes z) ih = rw (dropping_first k h hs z) (unheld_tail j h hs e)
      go (no z) ih = rw (dropping_other k h hs z) (unheld_more j h (dropping k hs) (unheld_name j h hs e) ih)

  pub dropping_once : (hs : List Held) → name_twice hs ≡ false → name_twice (dropping k hs) ≡ false
  dropping_once [] e = rw (dropping_none k) e
  dropping_once (h ∷ hs) e = go (ℕ_discrete h.name k) (dropping_once hs (once_tail h hs e))
    where
      go : Dec (h.name ≡ k) → name_twice (dropping k hs) ≡ false → name_twice (dropping k (h ∷ hs)) ≡ false
      go (yes z) ih = rw (dropping_first k h hs z) (once_tail h hs e)
      go (no z) ih = rw (dropping_other k h hs z) (once_more h (dropping k hs) (dropping_unheld h.name hs (once_head h hs e)) ih)

-- held places that keep the rules
module _ (job : Job) (f : Marks) where
  places_head : (h : Held) (hs : List Held) → some_place_broken job f (h ∷ hs) ≡ false → broken_place job f h.place ≡ false
  unfolding some_place_broken
  places_head h hs e = (or_fails (broken_place job f h.place) _ e).0

  places_tail : (h : Held) (hs : List Held) → some_place_broken job f (h ∷ hs) ≡ false → some_place_broken job f hs ≡ false
  unfolding some_place_broken
  places_tail h hs e = (or_fails (broken_place job f h.place) _ e).1

  places_more : (h : Held) (hs : List Held) → broken_place job f h.place ≡ false → some_place_broken job f hs ≡ false → some_place_broken job f (h ∷ hs) ≡ false
  unfolding some_place_broken
  places_more h hs e r = rw e r

  pub naming_places : (k : ℕ) (p : Place) (hs : List Held) → broken_place job f p ≡ false → some_place_broken job f hs ≡ false → some_place_broken job f (naming k p hs) ≡ false
  naming_places k p [] own e = rw (naming_none k p) (places_more (held k p) [] own e)
  naming_places k p (h ∷ hs) own e = go (ℕ_discrete h.name k) (naming_places k p hs own (places_tail h hs e))
    where
      go : Dec (h.name ≡ k) → some_place_broken job f (naming k p hs) ≡ false → some_place_broken job f (naming k p (h ∷ hs)) ≡ false
      go (yes z) ih = rw (naming_first k p h hs z) (places_more (held k p) hs own (places_tail h hs e))
      go (no z) ih = rw (naming_other k p h hs z) (places_more h (naming k p hs) (places_head h hs e) ih)

  pub dropping_places : (k : ℕ) (hs : List Held) → some_place_broken job f hs ≡ false → some_place_broken job f (dropping k hs) ≡ false
  dropping_places k [] e = rw (dropping_none k) e
  dropping_places k (h ∷ hs) e = go (ℕ_discrete h.name k) (dropping_places k hs (places_tail h hs e))
    where
      go : Dec (h.name ≡ k) → some_place_broken job f (dropping k hs) ≡ false → some_place_broken job f (dropping k (h ∷ hs)) ≡ false
      go (yes z) ih = rw (dropping_first k h hs z) (places_tail h hs e)
      go (no z) ih = rw (dropping_other k h hs z) (places_more h (dropping k hs) (places_head h hs e) ih)

  pub under_right : (k : ℕ) (hs : List Held) → is_held k hs ≡ true → some_place_broken job f hs ≡ false → broken_place job f (place_under k hs) ≡ false
  under_right k [] q e = absurd (false≢true (sym (none_held k) ∙ q))
  under_right k (h ∷ hs) q e = go (ℕ_discrete h.name k) (λ q. under_right k hs q (places_tail h hs e))
    where
      go : Dec (h.name ≡ k) → (is_held k hs ≡ true → broken_place job f (place_under k hs) ≡ false) → broken_place job f (place_under k (h ∷ hs)) ≡ false
      go (yes z) ih = rw (under_first k h hs z) (places_head h hs e)
      go (no z) ih = rw (under_other k h hs z) (ih (sym (held_other k h hs z) ∙ q))

-- how many are held
pub naming_held_long : (k : ℕ) (p : Place) (hs : List Held) → is_held k hs ≡ true → length (naming k p hs) ≡ length hs
naming_held_long k p [] q = absurd (false≢true (sym (none_held k) ∙ q))
naming_held_long k p (h ∷ hs) q = go (ℕ_discrete h.name k) (naming_held_long k p hs)
  where
    go : Dec (h.name ≡ k) → (is_held k hs ≡ true → length (naming k p hs) ≡ length hs) → length (naming k p (h ∷ hs)) ≡ suc (length hs)
    go (yes z) ih = rw (naming_first k p h hs z)
    go (no z) ih = rw (naming_other k p h hs z) (ap suc (ih (sym (held_other k h hs z) ∙ q)))

pub naming_long : (k : ℕ) (p : Place) (hs : List Held) → length (naming k p hs) ≤ length hs + 1
naming_long k p [] = rw (naming_none k p) (omega arith)
naming_long k p (h ∷ hs) = go (ℕ_discrete h.name k) (naming_long k p hs)
  where
    go : Dec (h.name ≡ k) → length (naming k p hs) ≤ length hs + 1 → length (naming k p (h ∷ hs)) ≤ suc (length hs) + 1
    go (yes z) ih = rw (naming_first k p h hs z) (omega arith)
    go (no z) ih = rw (naming_other k p h hs z) (omega (arith, ih))

pub dropping_long : (k : ℕ) (hs : List Held) → length (dropping k hs) ≤ length hs
dropping_long k [] = rw (dropping_none k) (omega arith)
dropping_long k (h ∷ hs) = go (ℕ_discrete h.name k) (dropping_long k hs)
  where
    go : Dec (h.name ≡ k) → length (dropping k hs) ≤ length hs → length (dropping k (h ∷ hs)) ≤ suc (length hs)
    go (yes z) ih = rw (dropping_first k h hs z) (omega arith)
    go (no z) ih = rw (dropping_other k h hs z) (omega (arith, ih))
