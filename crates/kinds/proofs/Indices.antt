-- Which section is of a kind. Where just one is, it is found, and it is the only one; so that two sheets whose kinds agree in all sections but one agree in that
-- one too. Assumes nothing.
use Prim.Native.Nat.{ℕ, zero, suc, ◌+◌, ◌≤◌, ◌<◌}
use mathlib.Core.Path.{◌≡◌, refl, sym, ◌∙◌}
use mathlib.Core.Bool.{Bool, true, false, cond, ◌||◌, true≢false}
use mathlib.Core.List.{List}
use mathlib.Core.Logic.{◌⊎◌, inl, inr, ◌≢◌}
use native.Mathlib.Nat.{eq-or-lt_of_le, le_of_suc-le-suc}
use native.Mathlib.Decide.{ℕ_discrete}
use native.Mathlib.Numerals.{add-one}
use native.Mathlib.Omega.{arith}
use borrow.Author.Tests.{eq-eqb, ne_eqb, eqb-true, not-false, not-true}
use lib.Dec.{eqb}
use Rattle.lists.specs.Lists.{some}
use Rattle.lists.proofs.Lists.{some_holds, some_found, some_fails}
use Rattle.header.specs.Header.{sections}
use Rattle.header.proofs.Header.{two_sections}
use Rattle.kinds.specs.Kinds.{kind, is_kind, has_kind, index_in, index_of, counted, not_one, one_of_each}

module _ (s : List ℕ) (k : ℕ) where
  -- one section more that is not of the kind, or that is the first
  pub index_last : (m : ℕ) → some m (is_kind s k) ≡ false → index_in s k (suc m) ≡ m
  unfolding index_in
  index_last m e = rw e refl

  pub index_first : (i m : ℕ) → i < m → some i (is_kind s k) ≡ false → kind s i ≡ k → index_in s k m ≡ i
  unfolding index_in
  index_first i zero h none e = absurd (omega arith)
  index_first i (suc m) h none e = go (eq-or-lt_of_le (le_of_suc-le-suc h)) (λ q. index_first i m q none e)
    where
      go : (i ≡ m) ⊎ (i < m) → (i < m → index_in s k m ≡ i) → cond (some m (is_kind s k)) (index_in s k m) m ≡ i
      go (inl q) before = rw (← q, none) refl
      go (inr q) before = rw (some_holds m (is_kind s k) i q (eq-eqb _ _ e)) (before q)

  in_lt : (m : ℕ) → 0 < m → index_in s k m < m
  unfolding index_in
  in_lt zero h = absurd (omega arith)
  in_lt (suc m) h = go (some m (is_kind s k)) refl (in_lt m)
    where
      go : (b : Bool) → some m (is_kind s k) ≡ b → (0 < m → index_in s k m < m) → cond b (index_in s k m) m < suc m
      go true e before = omega (arith, before (omega (arith, (some_found m (is_kind s k) e).below)))
      go false e before = omega arith

  pub index_lt : index_of s k < sections s
  unfolding index_of
  index_lt = in_lt (sections s) (omega (arith, two_sections s))

  in_kind : (m : ℕ) → some m (is_kind s k) ≡ true → kind s (index_in s k m) ≡ k
  unfolding index_in some
  in_kind zero e = absurd (true≢false (sym e))
  in_kind (suc m) e = go (some m (is_kind s k)) refl e (in_kind m)
    where
      go : (b : Bool) → some m (is_kind s k) ≡ b → (b || is_kind s k m) ≡ true → (some m (is_kind s k) ≡ true → kind s (index_in s k m) ≡ k)
          → kind s (cond b (index_in s k m) m) ≡ k
      go true q z before = before q
      go false q z before = eqb-true _ _ z

  -- where a section is of the kind, that one is
  pub index_kind : has_kind s k ≡ true → kind s (index_of s k) ≡ k
  unfolding has_kind index_of
  index_kind e = in_kind (sections s) e

  pub has_index : eqb (kind s (index_of s k)) k ≡ has_kind s k
  unfolding has_kind
  has_index = go (some (sections s) (is_kind s k)) refl
    where
      go : (b : Bool) → some (sections s) (is_kind s k) ≡ b → eqb (kind s (index_of s k)) k ≡ some (sections s) (is_kind s k)
      go true e = eq-eqb _ _ (index_kind e) ∙ sym e
      go false e = some_fails (sections s) (is_kind s k) e (index_of s k) index_lt ∙ sym e

  -- one section more, of the kind or of another
  pub counted_more : (i : ℕ) → kind s i ≡ k → counted s k i + 1 ≡ counted s k (i + 1)
  unfolding counted
  counted_more i e = rw (add-one i, eq-eqb _ _ e)

  pub counted_same : (i : ℕ) → kind s i ≢ k → counted s k i ≡ counted s k (i + 1)
  unfolding counted
  counted_same i e = rw (add-one i, ne_eqb _ _ e) (omega arith)

  -- a section of the kind counts
  counted_at : (i m : ℕ) → i < m → kind s i ≡ k → 0 < counted s k m
  unfolding counted
  counted_at i zero h e = absurd (omega arith)
  counted_at i (suc m) h e = go (eq-or-lt_of_le (le_of_suc-le-suc h)) (λ q. counted_at i m q e)
    where
      go : (i ≡ m) ⊎ (i < m) → (i < m → 0 < counted s k m) → 0 < counted s k m + cond (is_kind s k m) 1 0
      go (inl q) before = rw (← q, eq-eqb _ _ e) (omega arith)
      go (inr q) before = omega (arith, before q)

  -- and what counts is there
  counted_found : (m : ℕ) → 0 < counted s k m → some m (is_kind s k) ≡ true
  unfolding counted some
  counted_found zero h = absurd (omega arith)
  counted_found (suc m) h = go (some m (is_kind s k)) refl (counted_found m)
    where
      go : (b : Bool) → some m (is_kind s k) ≡ b → (0 < counted s k m → some m (is_kind s k) ≡ true) → (b || is_kind s k m) ≡ true
      go true e before = refl
      go false e before = last (is_kind s k m) refl
        where
          last : (b : Bool) → is_kind s k m ≡ b → is_kind s k m ≡ true
          last true q = q
          last false q = absurd (true≢false (sym (before (omega (arith, rw q at h))) ∙ e))

  -- two that count are one and the same where one does
  counted_once : (i j m : ℕ) → i < m → j < m → kind s i ≡ k → kind s j ≡ k → counted s k m ≤ 1 → i ≡ j
  unfolding counted
  counted_once i j zero h l p q few = absurd (omega arith)
  counted_once i j (suc m) h l p q few = go (eq-or-lt_of_le (le_of_suc-le-suc h)) (eq-or-lt_of_le (le_of_suc-le-suc l)) (λ a b. counted_once i j m a b p q)
    where
      last : kind s m ≡ k → counted s k m ≡ 0
      last e = omega (arith, rw (eq-eqb _ _ e) at few)

      go : (i ≡ m) ⊎ (i < m) → (j ≡ m) ⊎ (j < m) → (i < m → j < m → counted s k m ≤ 1 → i ≡ j) → i ≡ j
      go (inl a) (inl b) before = a ∙ sym b
      go (inl a) (inr b) before = absurd (omega (arith, last (rw a at p), counted_at j m b q))
      go (inr a) (inl b) before = absurd (omega (arith, last (rw b at q), counted_at i m a p))
      go (inr a) (inr b) before = before a b (omega (arith, few))

-- one kind of which there is not one section is enough
pub not_one_of_each : (s : List ℕ) {count : ℕ} (j : ℕ) → j < sections s → count ≡ counted s (j + 1) (sections s) → count ≢ 1 → false ≡ one_of_each s
unfolding one_of_each not_one
not_one_of_each s j h e differ = rw (some_holds (sections s) (not_one s) j h (rw (← e, ne_eqb _ _ differ) refl)) refl

-- what one section of each kind means
module _ (s : List ℕ) (each : one_of_each s ≡ true) where
  counted_one : (j : ℕ) → j < sections s → counted s (j + 1) (sections s) ≡ 1
  unfolding one_of_each not_one
  counted_one j h = eqb-true _ _ (not-false (eqb (counted s (j + 1) (sections s)) 1) (some_fails (sections s) (not_one s) (not-true _ each) j h))

  -- each kind is there
  pub kind_found : (j : ℕ) → j < sections s → has_kind s (j + 1) ≡ true
  unfolding has_kind
  kind_found j h = counted_found s (j + 1) (sections s) (omega (arith, counted_one j h))

  -- and in one section alone
  pub kind_once : (j : ℕ) → j < sections s → (a b : ℕ) → a < sections s → b < sections s → kind s a ≡ j + 1 → kind s b ≡ j + 1 → a ≡ b
  kind_once j h a b l m p q = counted_once s (j + 1) a b (sections s) l m p q (omega (arith, counted_one j h))

  -- which is the one of its index
  pub kind_index : (j : ℕ) → j < sections s → (i : ℕ) → i < sections s → kind s i ≡ j + 1 → i ≡ index_of s (j + 1)
  kind_index j h i l e = kind_once j h i (index_of s (j + 1)) l (index_lt s (j + 1)) e (index_kind s (j + 1) (kind_found j h))

-- two sheets of one number of sections, one of each kind: where all kinds but that of section i agree, that does too
pub kinds_agree : (s t : List ℕ) → one_of_each s ≡ true → one_of_each t ≡ true → sections s ≡ sections t → (i j : ℕ) → i < sections s
    → j < sections s → kind s i ≡ j + 1 → ((k : ℕ) → k < sections s → k ≢ i → kind s k ≡ kind t k) → kind s i ≡ kind t i
kinds_agree s t each each' same i j h l e others = go (ℕ_discrete at i)
  where
    at : ℕ
    at = index_of t (j + 1)

    there : kind t at ≡ j + 1
    there = index_kind t (j + 1) (kind_found t each' j (omega (arith, same)))

    within : at < sections s
    within = rw same (index_lt t (j + 1))

    go : Dec (at ≡ i) → kind s i ≡ kind t i
    go (yes q) = e ∙ sym (rw q at there)
    go (no q) = absurd (q (kind_once s each j l at i within h (others at within q ∙ there) e))
