-- Lookup by kind: one law for each of its answers, and that the stretch lies within the sheet. Assumes nothing.
use Prim.Native.Nat.{ℕ, ◌+◌, ◌-◌, ◌≤◌, ◌<◌}
use mathlib.Core.Path.{◌≡◌, sym}
use mathlib.Core.Bool.{Bool, true, cond, not}
use mathlib.Core.List.{List, [], ◌∷◌}
use native.Mathlib.Decide.{ℕ_discrete}
use native.Mathlib.Omega.{arith}
use borrow.Author.Tests.{eq-eqb, ne_eqb}
use lib.Dec.{eqb}
use lib.ListN.{length, take, drop}
use Rattle.refusals.specs.Numbers
use Rattle.refusals.specs.Refusals.{refusal, first}
use Rattle.refusals.proofs.Refusals.{first_stands, first_goes_on, first_none}
use Rattle.kinds.specs.Kinds.{has_kind, index_of}
use Rattle.header.specs.Header.{offset, size, section}
use Rattle.layout.specs.Layout.{layout_conditions}
use Rattle.sheet.specs.Lookup.{lookup_refusal, found_of}
use Rattle.layout.proofs.Sections.{layout_numbered, section_ends}

-- a part from a start to an end is so many bytes from the start
pub part_is : (l : List ℕ) (size : ℕ) {a e start : ℕ} → a ≡ start → e ≡ a + size → take (e - a) (drop a l) ≡ take size (drop start l)
part_is l size {a} {e} {start} p q = let d : e - a ≡ size = omega arith in rw (d, p)

module _ (s : List ℕ) (k : ℕ) where
  pub lookup_refused : 0 < first (layout_conditions s) → first (layout_conditions s) ≡ lookup_refusal s k
  unfolding lookup_refusal
  lookup_refused p = sym (first_stands (layout_conditions s) _ p)

  -- a right layout leaves only whether the sheet has the kind
  pub lookup_of : first (layout_conditions s) ≡ 0 → (known : Bool) → has_kind s k ≡ known
      → cond (not known) Numbers.bad_kinds 0 ≡ lookup_refusal s k
  unfolding lookup_refusal first
  lookup_of clear known e =
      rw (
        first_goes_on (layout_conditions s) (refusal Numbers.bad_kinds (not (has_kind s k)) ∷ []) (layout_numbered s) clear,
        e,
      )

  pub found_refused : (number : ℕ) → number ≡ lookup_refusal s k → (number ≡ 0 → ⊥) → record { number = number; start = 0; size = 0 } ≡ found_of s k
  unfolding found_of
  found_refused number e h = rw (← e, ne_eqb number 0 h)

  pub found_section : (start size' : ℕ) → 0 ≡ lookup_refusal s k → start ≡ offset s (index_of s k) → size' ≡ size s (index_of s k)
      → record { number = 0; start = start; size = size' } ≡ found_of s k
  unfolding found_of
  found_section start size' e a b = rw (← e, a, b)

  layout_clear : lookup_refusal s k ≡ 0 → first (layout_conditions s) ≡ 0
  unfolding lookup_refusal
  layout_clear h = first_none (layout_conditions s) _ h

  -- the stretch lies within the sheet
  pub lookup_within : (found_of s k).start + (found_of s k).size ≤ length s
  unfolding found_of
  lookup_within = go (ℕ_discrete (lookup_refusal s k) 0)
    where
      go : Dec (lookup_refusal s k ≡ 0) → cond (eqb (lookup_refusal s k) 0) (offset s (index_of s k)) 0 + cond (eqb (lookup_refusal s k) 0) (size s (index_of s k)) 0 ≤ length s
      go (yes h) = rw (eq-eqb _ _ h) (section_ends s (layout_clear h) k)
      go (no h) = rw (ne_eqb _ _ h) (omega arith)

  -- of a right layout, a kind that it has gives that section
  pub lookup_section : first (layout_conditions s) ≡ 0 → has_kind s k ≡ true
      → take (found_of s k).size (drop (found_of s k).start s) ≡ section s (index_of s k)
  unfolding found_of section
  lookup_section clear known = rw (eq-eqb (lookup_refusal s k) 0 (sym (lookup_of clear true known)))

  -- and so it tells where that section starts
  pub lookup_start : first (layout_conditions s) ≡ 0 → has_kind s k ≡ true → (found_of s k).start ≡ offset s (index_of s k)
  unfolding found_of
  lookup_start clear known = rw (eq-eqb (lookup_refusal s k) 0 (sym (lookup_of clear true known)))
