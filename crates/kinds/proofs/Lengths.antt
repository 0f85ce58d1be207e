-- What check 6 leaves of each section: one of each kind, and the length of its kind. Assumes nothing.
use Prim.Native.Nat.{ℕ, ◌<◌}
use mathlib.Core.Path.{◌≡◌, refl, ◌∙◌, sym, ap}
use mathlib.Core.Bool.{true, false, not, or-true}
use mathlib.Core.List.{List}
use mathlib.Core.Logic.{◌⊎◌, inl, inr}
use native.Mathlib.Decide.{ℕ_discrete}
use native.Mathlib.Omega.{arith}
use borrow.Author.Tests.{eqb-true, ne_eqb, not-false}
use lib.Dec.{eqb}
use Rattle.lists.proofs.Lists.{or_fails, some_holds, some_fails}
use Rattle.header.specs.Header.{tasks, sections, size}
use Rattle.header.proofs.Header.{two_sections}
use Rattle.kinds.specs.Kinds.{kind, platform_kind, weights_kind, platform_length, weights_length, length_of, has_kind, index_of, one_of_each, wrong_length, bad_kinds}
use Rattle.kinds.proofs.Indices.{index_lt, index_kind, kind_found}

-- the lengths of the kinds
pub platform_long : (n : ℕ) → length_of platform_kind n ≡ platform_length
unfolding length_of
platform_long n = refl

pub weights_long : (n : ℕ) → length_of weights_kind n ≡ weights_length n
unfolding length_of
weights_long n = refl

-- and no others
pub known_kind : (k n : ℕ) → 0 < length_of k n → (k ≡ platform_kind) ⊎ (k ≡ weights_kind)
unfolding length_of
known_kind k n h = go (ℕ_discrete k platform_kind) (ℕ_discrete k weights_kind)
  where
    go : Dec (k ≡ platform_kind) → Dec (k ≡ weights_kind) → (k ≡ platform_kind) ⊎ (k ≡ weights_kind)
    go (yes e) d = inl e
    go (no e) (yes q) = inr q
    go (no e) (no q) = absurd (omega (arith, rw (ne_eqb k platform_kind e, ne_eqb k weights_kind q) at h))

-- one wrong length is enough
pub wrong_is_bad : (s : List ℕ) (i : ℕ) → i < sections s → wrong_length s i ≡ true → true ≡ bad_kinds s
unfolding bad_kinds
wrong_is_bad s i h e = rw (some_holds (sections s) (wrong_length s) i h e) (sym (or-true (not (one_of_each s))))

module _ (s : List ℕ) (passed : bad_kinds s ≡ false) where
  pub one_of_each_lem : one_of_each s ≡ true
  unfolding bad_kinds
  one_of_each_lem = not-false (one_of_each s) (or_fails (not (one_of_each s)) _ passed).0

  pub right_length : (i : ℕ) → i < sections s → size s i ≡ length_of (kind s i) (tasks s)
  unfolding bad_kinds wrong_length
  right_length i h =
      eqb-true _ _ (not-false (eqb (size s i) (length_of (kind s i) (tasks s))) (some_fails (sections s) (wrong_length s) (or_fails (not (one_of_each s)) _ passed).1 i h))

  -- every sheet has a platform and weights
  pub has_platform : has_kind s platform_kind ≡ true
  has_platform = kind_found s one_of_each_lem 0 (omega (arith, two_sections s))

  pub has_weights : has_kind s weights_kind ≡ true
  has_weights = kind_found s one_of_each_lem 1 (omega (arith, two_sections s))

  -- a section that the sheet has has the length of its kind
  pub size_of_kind : (k : ℕ) → has_kind s k ≡ true → size s (index_of s k) ≡ length_of k (tasks s)
  size_of_kind k e = right_length (index_of s k) (index_lt s k) ∙ ap (λ x. length_of x (tasks s)) (index_kind s k e)
