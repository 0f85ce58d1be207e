-- Lookup by kind: which stretch of the caller's own sheet it hands back.
use Rattle.std.specs.Prelude.{ℕ, ◌+◌, ◌≡◌, cond, not, List, [], ◌∷◌, ◌++◌, eqb, take, drop}
use Rattle.std.specs.Borrow.{Bor}
use Rattle.refusals.specs.Numbers
use Rattle.refusals.specs.Refusals.{Condition, refusal, first}
use Rattle.kinds.specs.Kinds.{has_kind, index_of}
use Rattle.header.specs.Header.{offset, size}
use Rattle.layout.specs.Layout.{layout_conditions}
use Rattle.sheet.specs.declared.Found.{Found}

-- checks 1 to 6; a kind that the sheet lacks gives 6
abbrev pub lookup_conditions : List ℕ → ℕ → List Condition
lookup_conditions s k = layout_conditions s ++ (refusal Numbers.bad_kinds (not (has_kind s k)) ∷ [])

unfoldable pub lookup_refusal : List ℕ → ℕ → ℕ
lookup_refusal s k = first (lookup_conditions s k)

-- where the stretch starts and how long it is; a refused lookup hands back the empty stretch at byte 0
unfoldable pub found_of : List ℕ → ℕ → Found
found_of s k =
    record {
      number = lookup_refusal s k;
      start = cond (eqb (lookup_refusal s k) 0) (offset s (index_of s k)) 0;
      size = cond (eqb (lookup_refusal s k) 0) (size s (index_of s k)) 0;
    }

-- the whole view r of the lent sheet s: its bytes, and that they lie in the caller's own sheet at that place
pub record View (s : Bor (List ℕ)) (k : ℕ) (r : Bor (List ℕ)) : Type 0 where
  pub bytes : r.now ≡ take (found_of s.now k).size (drop (found_of s.now k).start s.now)
  pub block : r.ref_ptr.0 ≡ s.ref_ptr.0
  pub byte : r.ref_ptr.1 ≡ s.ref_ptr.1 + (found_of s.now k).start
