-- A name is held twice where an entry's name has a slot before it, and once where none has. Assumes nothing.
use Prim.Native.Nat.{ℕ, zero, suc, ◌+◌, ◌≤◌, ◌<◌}
use mathlib.Core.Path.{◌≡◌, refl, sym}
use mathlib.Core.Bool.{Bool, true, false, ◌||◌}
use mathlib.Core.List.{List, [], ◌∷◌}
use native.Mathlib.Decide.{ℕ_discrete}
use native.Mathlib.Omega.{arith}
use lib.ListN.{length, get_or}
use Rattle.names.specs.Names.{no_held, is_held, slot_of}
use Rattle.names.specs.declared.Held.{Held}
use Rattle.names.proofs.Slots.{slot_first, slot_other, held_slot, slot_name, entry_held}
use Rattle.named.specs.Named.{name_twice}

or_right : (a b : Bool) → b ≡ true → (a || b) ≡ true
or_right true b e = refl
or_right false b e = e

-- the name of an entry
abbrev pub name_at : List Held → ℕ → ℕ
name_at hs j = (get_or hs j no_held).name

pub twice_found : (hs : List Held) (j : ℕ) → j < length hs → slot_of (name_at hs j) hs < j → name_twice hs ≡ true
unfolding name_twice
twice_found [] j h s = absurd (omega (arith, h))
twice_found (x ∷ hs) zero h s = absurd (omega (arith, s))
twice_found (x ∷ hs) (suc i) h s = go (ℕ_discrete x.name (name_at hs i)) (twice_found hs i (omega (arith, h)))
  where
    go : Dec (x.name ≡ name_at hs i) → (slot_of (name_at hs i) hs < i → name_twice hs ≡ true) → (is_held x.name hs || name_twice hs) ≡ true
    go (yes z) ih = rw (z, entry_held hs i (omega (arith, h)))
    go (no z) ih = or_right (is_held x.name hs) (name_twice hs) (ih (omega (arith, s, slot_other (name_at hs i) x hs z)))

-- The loop's invariant: the names of the first j entries have no slot before them.
abbrev pub Firsts : List Held → ℕ → Type 0
Firsts hs j = (i : ℕ) → i < j → i ≤ slot_of (name_at hs i) hs

pub firsts_more : (hs : List Held) (j : ℕ) → Firsts hs j → j ≤ slot_of (name_at hs j) hs → Firsts hs (j + 1)
firsts_more hs j before here i h = go (ℕ_discrete i j)
  where
    go : Dec (i ≡ j) → i ≤ slot_of (name_at hs i) hs
    go (yes z) = rw z here
    go (no z) = before i (omega (arith, h, z))

pub once : (hs : List Held) → Firsts hs (length hs) → name_twice hs ≡ false
unfolding name_twice
once [] f = refl
once (x ∷ hs) f = go (is_held x.name hs) refl (once hs (λ i h. tail i h (ℕ_discrete x.name (name_at hs i))))
  where
    tail : (i : ℕ) → i < length hs → Dec (x.name ≡ name_at hs i) → i ≤ slot_of (name_at hs i) hs
    tail i h (yes z) = absurd (omega (arith, f (suc i) (omega (arith, h)), slot_first (name_at hs i) x hs z))
    tail i h (no z) = omega (arith, f (suc i) (omega (arith, h)), slot_other (name_at hs i) x hs z)

    go : (b : Bool) → is_held x.name hs ≡ b → name_twice hs ≡ false → (b || name_twice hs) ≡ false
    go true q ih =
        let i = slot_of x.name hs in
        let found = held_slot x.name hs q in
        let same : slot_of (name_at hs i) (x ∷ hs) ≡ 0 = slot_first (name_at hs i) x hs (sym (slot_name x.name hs q)) in
        absurd (omega (arith, f (suc i) (omega (arith, found)), same))
    go false q ih = ih
