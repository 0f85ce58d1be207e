-- Where a name stands among those held: the search passes the entries before it. Assumes nothing.
use Prim.Native.Nat.{ℕ, zero, suc, ◌+◌, ◌≤◌, ◌<◌}
use mathlib.Core.Path.{◌≡◌, refl, ap}
use mathlib.Core.Bool.{Bool, true, false, cond, ◌||◌, true≢false, false≢true}
use mathlib.Core.List.{List, [], ◌∷◌}
use native.Mathlib.Decide.{ℕ_discrete}
use native.Mathlib.Omega.{arith}
use borrow.Author.Tests.{eq-eqb, ne_eqb}
use lib.Dec.{eqb}
use lib.ListN.{length, get_or, take, drop}
use lib.Seq.{drop-cons, drop-length, get_or-take, length-take-le}
use Rattle.names.specs.Names.{name_limit, no_held, is_held, slot_of}
use Rattle.names.specs.declared.Held.{Held}

-- the names held are as many as their count says
pub long_held : (n : ℕ) (l : List Held) → length l ≡ name_limit → n ≤ name_limit → length (take n l) ≡ n
long_held n l e h = length-take-le n l (rw e h)

-- the name of an entry that is held
pub name_held : (n : ℕ) (l : List Held) (j : ℕ) → j < n → (get_or (take n l) j no_held).name ≡ (get_or l j no_held).name
name_held n l j h = ap (λ (x : Held). x.name) (get_or-take n l j no_held h)

-- its place
pub place_held : (n : ℕ) (l : List Held) (j : ℕ) → j < n → (get_or (take n l) j no_held).place ≡ (get_or l j no_held).place
place_held n l j h = ap (λ (x : Held). x.place) (get_or-take n l j no_held h)

-- the first entry has the name, or another
pub slot_first : (k : ℕ) (h : Held) (hs : List Held) → h.name ≡ k → slot_of k (h ∷ hs) ≡ 0
unfolding slot_of
slot_first k h hs e = rw (eq-eqb _ _ e)

pub slot_other : (k : ℕ) (h : Held) (hs : List Held) → (h.name ≡ k → ⊥) → slot_of k (h ∷ hs) ≡ suc (slot_of k hs)
unfolding slot_of
slot_other k h hs e = rw (ne_eqb _ _ e)

pub slot_within : (k : ℕ) (hs : List Held) → slot_of k hs ≤ length hs
unfolding slot_of
slot_within k [] = omega arith
slot_within k (h ∷ hs) = go (eqb h.name k) (slot_within k hs)
  where
    go : (b : Bool) → slot_of k hs ≤ length hs → cond b 0 (suc (slot_of k hs)) ≤ suc (length hs)
    go true ih = omega arith
    go false ih = omega (arith, ih)

-- a name that is held has a slot among those held, and one that is not has none
pub held_slot : (k : ℕ) (hs : List Held) → is_held k hs ≡ true → slot_of k hs < length hs
unfolding slot_of is_held
held_slot k [] e = absurd (false≢true e)
held_slot k (h ∷ hs) e = go (eqb h.name k) e (held_slot k hs)
  where
    go : (b : Bool) → (b || is_held k hs) ≡ true → (is_held k hs ≡ true → slot_of k hs < length hs) → cond b 0 (suc (slot_of k hs)) < suc (length hs)
    go true q ih = omega arith
    go false q ih = omega (arith, ih q)

pub unheld_slot : (k : ℕ) (hs : List Held) → is_held k hs ≡ false → slot_of k hs ≡ length hs
unfolding slot_of is_held
unheld_slot k [] e = refl
unheld_slot k (h ∷ hs) e = go (eqb h.name k) e (unheld_slot k hs)
  where
    go : (b : Bool) → (b || is_held k hs) ≡ false → (is_held k hs ≡ false → slot_of k hs ≡ length hs) → cond b 0 (suc (slot_of k hs)) ≡ suc (length hs)
    go true q ih = absurd (true≢false q)
    go false q ih = ap suc (ih q)

-- the entry at its slot has the name
pub slot_name : (k : ℕ) (hs : List Held) → is_held k hs ≡ true → (get_or hs (slot_of k hs) no_held).name ≡ k
unfolding is_held
slot_name k [] e = absurd (false≢true e)
slot_name k (h ∷ hs) e = go (ℕ_discrete h.name k) (slot_name k hs)
  where
    go : Dec (h.name ≡ k) → (is_held k hs ≡ true → (get_or hs (slot_of k hs) no_held).name ≡ k) → (get_or (h ∷ hs) (slot_of k (h ∷ hs)) no_held).name ≡ k
    go (yes z) ih = rw (slot_first k h hs z) z
    go (no z) ih = rw (slot_other k h hs z) (ih (rw (ne_eqb _ _ z) at e))

-- an entry's name is held
pub entry_held : (hs : List Held) (i : ℕ) → i < length hs → is_held (get_or hs i no_held).name hs ≡ true
unfolding is_held
entry_held [] i h = absurd (omega (arith, h))
entry_held (x ∷ hs) zero h = rw (eq-eqb x.name x.name refl)
entry_held (x ∷ hs) (suc i) h = go (eqb x.name (get_or hs i no_held).name) (entry_held hs i (omega (arith, h)))
  where
    go : (b : Bool) → is_held (get_or hs i no_held).name hs ≡ true → (b || is_held (get_or hs i no_held).name hs) ≡ true
    go true ih = refl
    go false ih = ih

-- The loop's invariant: the first j entries have other names.
pub record Passed (k : ℕ) (hs : List Held) (j : ℕ) : Type 0 where
  pub to : j ≤ length hs
  pub slot : slot_of k hs ≡ j + slot_of k (drop j hs)

pub passed_none : (k : ℕ) (hs : List Held) → Passed k hs 0
passed_none k hs = record { to = omega arith; slot = omega arith }

pub passed_here : (k : ℕ) (hs : List Held) (j : ℕ) → Passed k hs j → j < length hs → (get_or hs j no_held).name ≡ k → j ≡ slot_of k hs
passed_here k hs j p h e =
    let first : slot_of k (drop j hs) ≡ 0 = rw (drop-cons hs j no_held h) (slot_first k _ _ e) in
    omega (arith, p.slot, first)

pub passed_more : (k : ℕ) (hs : List Held) (j : ℕ) → Passed k hs j → j < length hs → ((get_or hs j no_held).name ≡ k → ⊥) → Passed k hs (j + 1)
passed_more k hs j p h e =
    let other : slot_of k (drop j hs) ≡ suc (slot_of k (drop (suc j) hs)) = rw (drop-cons hs j no_held h) (slot_other k _ _ e) in
    let next : j + 1 ≡ suc j = omega arith in
    rw next (record { to = h; slot = omega (arith, p.slot, other) })

pub passed_all : (k : ℕ) (hs : List Held) (j : ℕ) → Passed k hs j → length hs ≤ j → length hs ≡ slot_of k hs
unfolding slot_of
passed_all k hs j p h =
    let same : j ≡ length hs = omega (arith, p.to) in
    let none : drop j hs ≡ [] = rw same (drop-length hs) in
    let left : slot_of k (drop j hs) ≡ 0 = rw none refl in
    omega (arith, p.slot, left)
