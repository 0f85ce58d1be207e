-- What an accepted sheet is made of. Past 28 its sections stand end to end (`stray_contiguous`), so that what stands before section m is the header and the
-- sections up to it; before the end of the sheet stand all of them. Assumes nothing.
use Prim.Native.Nat.{ℕ, zero, suc, ◌+◌, ◌≤◌, ◌<◌}
use mathlib.Core.Path.{◌≡◌, refl, sym, ◌∙◌}
use mathlib.Core.Bool.{true}
use mathlib.Core.List.{List, ◌++◌, append_assoc, append-nil}
use native.Mathlib.Omega.{arith}
use borrow.Author.Tests.{le-leb, not-false}
use lib.ListN.{length, take, drop}
use lib.Seq.{take_all, take-add}
use Rattle.lists.proofs.Lists.{some_fails}
use Rattle.refusals.specs.Refusals.{first}
use Rattle.header.specs.Header.{sections, least_offset, size, section}
use Rattle.extents.specs.Extents.{end_before, covered, stray_byte}
use Rattle.extents.proofs.Extents.{first_start_lem, next_start}
use Rattle.extents.proofs.Stray.{EndToEnd, end_to_end, last_end}
use Rattle.layout.specs.Layout.{layout_conditions}
use Rattle.layout.specs.Whole.{header, sections_to, Whole}
use Rattle.layout.proofs.Sections.{layout_passed}

module _ (s : List ℕ) (clear : first (layout_conditions s) ≡ 0) where
  pub follow : EndToEnd s
  follow = end_to_end s (layout_passed s clear).extents (layout_passed s clear).no_stray

  pub ends : length s ≡ end_before s (sections s)
  ends = last_end s (layout_passed s clear).extents (layout_passed s clear).no_stray

  -- what stands before section m
  parts_to : (m : ℕ) → m ≤ sections s → take (end_before s m) s ≡ header s ++ sections_to s m
  unfolding sections_to section
  parts_to zero h = rw (first_start_lem s) (sym (append-nil (header s)))
  parts_to (suc m) h =
      let start = follow m (omega arith) in
      rw (next_start s m, start, take-add (end_before s m) (size s m) s, parts_to m (omega arith))
      (append_assoc (header s) (sections_to s m) (take (size s m) (drop (end_before s m) s)))

  all_parts : s ≡ header s ++ sections_to s (sections s)
  all_parts = sym (take_all (end_before s (sections s)) s (omega (arith, ends))) ∙ parts_to (sections s) (omega arith)

  each_covered : (i : ℕ) → least_offset s ≤ i → i < length s → covered s i ≡ true
  unfolding stray_byte
  each_covered i from before =
      let fails = some_fails (length s) _ (layout_passed s clear).no_stray i before in
      not-false _ (rw (le-leb (least_offset s) i from) at fails)

  -- an accepted sheet is its header and its sections
  pub accepted_whole : Whole s
  accepted_whole = record { all_covered = each_covered; parts = all_parts }

-- sheets with the same sections
sections_same : (s t : List ℕ) (m : ℕ) → ((i : ℕ) → i < m → section s i ≡ section t i) → sections_to s m ≡ sections_to t m
unfolding sections_to
sections_same s t zero same = refl
sections_same s t (suc m) same = rw (sections_same s t m (λ i h. same i (omega arith)), same m (omega arith)) refl

-- two accepted sheets with the same header and the same sections are the same
pub same_parts : (s t : List ℕ) → first (layout_conditions s) ≡ 0 → first (layout_conditions t) ≡ 0 → header s ≡ header t
    → ((i : ℕ) → i < sections s → section s i ≡ section t i) → s ≡ t
unfolding sections
same_parts s t clear-s clear-t headers same =
    (accepted_whole s clear-s).parts
    ∙ (rw (headers, sections_same s t (sections s) same) refl ∙ sym (accepted_whole t clear-t).parts)
