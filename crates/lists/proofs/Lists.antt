-- Laws of `some`, a test over the numbers below n, and of `tabulate`, the list of a function. Assumes nothing.
use Prim.Native.Nat.{ℕ, zero, suc, ◌+◌, ◌<◌}
use mathlib.Core.Path.{◌≡◌, refl, sym, ◌∙◌}
use mathlib.Core.Bool.{Bool, true, false, ◌||◌, ◌&&◌, cond, or-true, true≢false, false≢true}
use mathlib.Core.Logic.{◌⊎◌, inl, inr}
use mathlib.Core.List.{[], ◌∷◌, ◌++◌}
use native.Mathlib.Nat.{eq-or-lt_of_le, le_of_suc-le-suc}
use native.Mathlib.Decide.{ℕ_discrete, dec_lt}
use native.Mathlib.Numerals.{add-one}
use native.Mathlib.Omega.{arith}
use borrow.Author.Tests.{lt-ltb, le-ltb}
use lib.Dec.{ltb}
use lib.ListN.{length, get_or, set, length-append, length-set, get_or-append}
use lib.Seq.{ext_get_or, get_or-set_same, get_or-set_other, get_or_at}
use Rattle.lists.specs.Lists.{some, tabulate}

-- a test of two parts fails only where both do
pub or_fails : (a b : Bool) → (a || b) ≡ false → (a ≡ false) × (b ≡ false)
or_fails true b e = absurd (true≢false e)
or_fails false b e = (refl, e)

-- and one holds only where both do
pub and_holds : (a b : Bool) → (a && b) ≡ true → (a ≡ true) × (b ≡ true)
and_holds true b e = (refl, e)
and_holds false b e = absurd (false≢true e)

-- a number below n that passes is enough
pub some_holds : (n : ℕ) (p : ℕ → Bool) (j : ℕ) → j < n → p j ≡ true → some n p ≡ true
unfolding some
some_holds zero p j h e = absurd (omega arith)
some_holds (suc n) p j h e = go (eq-or-lt_of_le (le_of_suc-le-suc h)) (some_holds n p j)
  where
    go : (j ≡ n) ⊎ (j < n) → (j < n → p j ≡ true → some n p ≡ true) → (some n p || p n) ≡ true
    go (inl q) ih = rw (← q, e) (or-true (some j p))
    go (inr q) ih = rw (ih q e)

-- and where the test over all of them holds, there is one
pub record Passing (n : ℕ) (p : ℕ → Bool) : Type 0 where
  pub at : ℕ
  pub below : at < n
  pub passes : p at ≡ true

pub some_found : (n : ℕ) (p : ℕ → Bool) → some n p ≡ true → Passing n p
unfolding some
some_found zero p e = absurd (false≢true e)
some_found (suc n) p e = go (some n p) refl e (some_found n p)
  where
    go : (b : Bool) → some n p ≡ b → (b || p n) ≡ true → (some n p ≡ true → Passing n p) → Passing (suc n) p
    go true q z ih = let found = ih q in record { at = found.at; below = omega (arith, found.below); passes = found.passes }
    go false q z ih = record { at = n; below = omega arith; passes = z }

-- one number more that fails
pub some_more : (n : ℕ) (p : ℕ → Bool) → some n p ≡ false → p n ≡ false → some (n + 1) p ≡ false
unfolding some
some_more n p e q = rw (add-one, e) q

-- where none passes, each fails
pub some_fails : (n : ℕ) (p : ℕ → Bool) → some n p ≡ false → (j : ℕ) → j < n → p j ≡ false
unfolding some
some_fails zero p e j h = absurd (omega arith)
some_fails (suc n) p e j h = go (eq-or-lt_of_le (le_of_suc-le-suc h)) (some_fails n p (or_fails (some n p) (p n) e).0 j)
  where
    go : (j ≡ n) ⊎ (j < n) → (j < n → p j ≡ false) → p j ≡ false
    go (inl q) ih = rw q (or_fails (some n p) (p n) e).1
    go (inr q) ih = ih q

pub length_tabulate : (n : ℕ) (f : ℕ → ℕ) → length (tabulate n f) ≡ n
unfolding tabulate
length_tabulate zero f = refl
length_tabulate (suc n) f = omega (arith, length-append (tabulate n f) (f n ∷ []), length_tabulate n f)

pub get_d_tabulate : (n : ℕ) (f : ℕ → ℕ) (j : ℕ) → j < n → get_or (tabulate n f) j 0 ≡ f j
unfolding tabulate
get_d_tabulate zero f j h = absurd (omega arith)
get_d_tabulate (suc n) f j h = go (eq-or-lt_of_le (le_of_suc-le-suc h)) (get_d_tabulate n f j)
  where
    go : (j ≡ n) ⊎ (j < n) → (j < n → get_or (tabulate n f) j 0 ≡ f j) → get_or (tabulate n f ++ (f n ∷ [])) j 0 ≡ f j
    go (inl q) ih = rw q (get_or_at (tabulate n f) (f n) [] 0 n (length_tabulate n f))
    go (inr q) ih = get_or-append (tabulate n f) (f n ∷ []) 0 j (rw (length_tabulate n f) q) ∙ ih q

-- the lists of two functions that agree below n
pub tabulate_same : (n : ℕ) (f g : ℕ → ℕ) → ((i : ℕ) → i < n → f i ≡ g i) → tabulate n f ≡ tabulate n g
unfolding tabulate
tabulate_same zero f g e = refl
tabulate_same (suc n) f g e = rw (tabulate_same n f g (λ i h. e i (omega arith)), e n (omega arith))

-- storing g at j turns the list of f into that of g, where the two agree elsewhere
set_tabulate : (n : ℕ) (f g : ℕ → ℕ) (j : ℕ) → j < n → ((i : ℕ) → (i ≡ j → ⊥) → f i ≡ g i) → set (tabulate n f) j (g j) ≡ tabulate n g
set_tabulate n f g j h same =
    ext_get_or 0 _ _ (length-set (tabulate n f) j (g j) ∙ length_tabulate n f ∙ sym (length_tabulate n g)) at
  where
    at : (i : ℕ) → i < length (set (tabulate n f) j (g j)) → get_or (set (tabulate n f) j (g j)) i 0 ≡ get_or (tabulate n g) i 0
    at i k = go (ℕ_discrete i j) (rw (length-set, length_tabulate) at k)
      where
        go : Dec (i ≡ j) → i < n → get_or (set (tabulate n f) j (g j)) i 0 ≡ get_or (tabulate n g) i 0
        go (yes q) l = rw (q, get_or-set_same (tabulate n f) j (g j) 0 (rw (length_tabulate n f) h), get_d_tabulate n g j h)
        go (no q) l = get_or-set_other (tabulate n f) j i (g j) 0 q ∙ get_d_tabulate n f i l ∙ same i q ∙ sym (get_d_tabulate n g i l)

-- where each fails, none passes
pub some_none : (n : ℕ) (p : ℕ → Bool) → ((j : ℕ) → j < n → p j ≡ false) → some n p ≡ false
unfolding some
some_none zero p e = refl
some_none (suc n) p e = rw (some_none n p (λ j h. e j (omega arith))) (e n (omega arith))

-- the first j values of g and 0 past them: storing the next value is one value more
module _ (room : ℕ) (g : ℕ → ℕ) where
  abbrev firsts : ℕ → ℕ → ℕ
  firsts n i = cond (ltb i n) (g i) 0

  pub store_next : (j : ℕ) → j < room → set (tabulate room (λ i. cond (ltb i j) (g i) 0)) j (g j) ≡ tabulate room (λ i. cond (ltb i (j + 1)) (g i) 0)
  store_next j h = rw (← here) (set_tabulate room (firsts j) (firsts (j + 1)) j h same)
    where
      here : firsts (j + 1) j ≡ g j
      here = rw (lt-ltb j (j + 1) (omega arith))

      same : (i : ℕ) → (i ≡ j → ⊥) → firsts j i ≡ firsts (j + 1) i
      same i q = go (dec_lt i j)
        where
          go : Dec (i < j) → firsts j i ≡ firsts (j + 1) i
          go (yes l) = rw (lt-ltb i j l, lt-ltb i (j + 1) (omega arith))
          go (no l) = rw (le-ltb i j (omega arith), le-ltb i (j + 1) (omega arith))
