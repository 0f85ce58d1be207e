-- What request 105 changed. Checks 1 to 5, offsets and lengths are read from the header and the sheet's length alone, so that what is written in a byte from 20
-- on moves none of them; a byte that is outside a section moves none of its bytes either. Assumes nothing.
use Prim.Native.Nat.{ℕ, zero, suc, ◌+◌, ◌-◌, ◌*◌, ◌≤◌, ◌<◌}
use mathlib.Core.Path.{◌≡◌, refl, sym, ◌∙◌}
use mathlib.Core.Bool.{Bool, true, false}
use mathlib.Core.List.{List, ◌∷◌, ◌++◌}
use mathlib.Core.Logic.{◌⊎◌, inl, inr}
use native.Mathlib.Decide.{dec_lt}
use native.Mathlib.Nat.{eq-zero-or-pos}
use native.Mathlib.Omega.{arith}
use borrow.Author.Tests.{le-leb, ltb-false}
use lib.Dec.{lit<}
use lib.ListN.{take, drop, set, length-set}
use lib.Seq.{get_or-set_other, drop-set-lt, drop-set-add, take-set-le}
use Rattle.lists.specs.Lists.{some}
use Rattle.refusals.specs.Numbers
use Rattle.refusals.specs.Refusals.{Condition, refusal, first, has, distinct, Numbered}
use Rattle.refusals.proofs.Refusals.{first_stands, first_goes_on, first_other, first_after}
use Rattle.fields.specs.Bytes.{byte_at, field_at, field_length}
use Rattle.fields.proofs.Bytes.{field_agrees}
use Rattle.header.specs.Header.{
  tasks,
  tasks_most,
  sections,
  pairs_start,
  pair_length,
  least_offset,
  offset,
  size,
  section,
  bad_length,
  bad_form,
  bad_tasks,
  bad_sections,
}
use Rattle.extents.specs.Extents.{end_before, bad_extent, bad_extents, in_section, stray_byte}
use Rattle.extents.specs.Stray.{IsStray, HasStray}
use Rattle.extents.proofs.Extents.{placed, first_start_lem, next_start}
use Rattle.extents.proofs.Stray.{stray_holds, stray_found}
use Rattle.kinds.specs.Kinds.{kind, is_kind, index_in, index_of, counted, not_one, one_of_each, wrong_length, bad_kinds}
use Rattle.kinds.proofs.Indices.{index_lt}
use Rattle.layout.specs.Layout.{layout_conditions}
use Rattle.layout.specs.Whole.{conditions_to5, conditions_before, BeforeAndNow, stray_number}

pub to5_numbered : (s : List ℕ) → Numbered (conditions_to5 s)
unfolding has distinct
to5_numbered s = refl

module _ (s : List ℕ) (after : List Condition) where
  abbrev kinds : List Condition
  kinds = refusal Numbers.bad_kinds (bad_kinds s) ∷ after

  abbrev stray_or_kinds : List Condition
  stray_or_kinds = refusal Numbers.stray_byte (stray_byte s) ∷ kinds

  -- without a stray byte the new condition decides nothing
  not_stray : stray_byte s ≡ false → first (layout_conditions s ++ after) ≡ first (conditions_before s ++ after)
  unfolding first
  not_stray e = rw e refl

  -- with one it decides where 1 to 5 do not
  stray_given : stray_byte s ≡ true → first stray_or_kinds ≡ Numbers.stray_byte
  unfolding first
  stray_given e = rw e refl

  -- 28 is the number of no other condition, so that it says that 1 to 5 pass and a byte is stray
  stray_only : has Numbers.stray_byte after ≡ false → first (layout_conditions s ++ after) ≡ Numbers.stray_byte → (first (conditions_to5 s) ≡ 0) × HasStray s
  unfolding first has
  stray_only none e = go (eq-zero-or-pos (first (conditions_to5 s)))
    where
      by_stray : first stray_or_kinds ≡ Numbers.stray_byte → (b : Bool) → stray_byte s ≡ b → HasStray s
      by_stray q true h = stray_found s h
      by_stray q false h = absurd (first_other Numbers.stray_byte kinds (lit< tt) none (rw h at q))

      go : (first (conditions_to5 s) ≡ 0) ⊎ (0 < first (conditions_to5 s)) → (first (conditions_to5 s) ≡ 0) × HasStray s
      go (inl clear) = (clear, by_stray (sym (first_goes_on (conditions_to5 s) stray_or_kinds (to5_numbered s) clear) ∙ e) (stray_byte s) refl)
      go (inr h) = absurd (first_other Numbers.stray_byte (conditions_to5 s) (lit< tt) refl (sym (first_stands (conditions_to5 s) stray_or_kinds h) ∙ e))

  pub before_and_now : BeforeAndNow s after
  before_and_now =
      record {
        earlier = λ h. first_stands (conditions_to5 s) stray_or_kinds h ∙ sym (first_stands (conditions_to5 s) kinds h);
        as_before = λ e front. first_after front _ _ (not_stray e);
        refused = λ found clear.
            first_goes_on (conditions_to5 s) stray_or_kinds (to5_numbered s) clear ∙ stray_given (stray_holds s found.at found.stray);
        only = stray_only;
      }

  -- a sheet with a stray byte is refused, whatever is checked after 6
  pub stray_number_lem : (i : ℕ) → IsStray s i → first (layout_conditions s ++ after) ≡ stray_number s
  unfolding first
  stray_number_lem i stray = rw (stray_holds s i stray) refl

-- a test of the numbers below n, where each of them passes alike
some_same : (n : ℕ) (p q : ℕ → Bool) → ((j : ℕ) → j < n → p j ≡ q j) → some n p ≡ some n q
unfolding some
some_same zero p q e = refl
some_same (suc n) p q e = rw (some_same n p q (λ j h. e j (omega arith)), e n (omega arith)) refl

-- a sheet with another byte at i, from 20 on: header, length and places are as they were
module _ (s : List ℕ) (i b : ℕ) (from : least_offset s ≤ i) where
  abbrev edited : List ℕ
  edited = set s i b

  byte_kept : (a : ℕ) → a < i → byte_at edited a ≡ byte_at s a
  byte_kept a h = get_or-set_other s i a b 0 (λ e. omega arith)

  field_kept : (a : ℕ) → a + field_length ≤ i → field_at edited a ≡ field_at s a
  field_kept a h = field_agrees edited s a (λ j l. byte_kept j (omega arith))

  -- what the form decides
  sections_kept : sections edited ≡ sections s
  unfolding sections
  sections_kept = refl

  most_kept : tasks_most edited ≡ tasks_most s
  unfolding tasks_most
  most_kept = refl

  pub tasks_kept : tasks edited ≡ tasks s
  unfolding tasks
  tasks_kept = byte_kept 1 (omega arith)

  pub offset_kept : (k : ℕ) → k < sections s → offset edited k ≡ offset s k
  unfolding offset
  offset_kept k h = field_kept (pairs_start + pair_length * k) (omega arith)

  size_kept : (k : ℕ) → k < sections s → size edited k ≡ size s k
  unfolding size
  size_kept k h = field_kept (pairs_start + field_length + pair_length * k) (omega arith)

  end_kept : (k : ℕ) → k ≤ sections s → end_before edited k ≡ end_before s k
  end_kept zero h = rw (first_start_lem edited, first_start_lem s, sections_kept) refl
  end_kept (suc k) h = rw (next_start edited k, next_start s k, offset_kept k (omega arith), size_kept k (omega arith)) refl

  extent_kept : (k : ℕ) → k < sections s → bad_extent edited k ≡ bad_extent s k
  unfolding bad_extent
  extent_kept k h = rw (offset_kept k h, size_kept k h, sections_kept, end_kept k (omega arith), length-set s i b) refl

  extents_kept : bad_extents edited ≡ bad_extents s
  unfolding bad_extents
  extents_kept = rw sections_kept (some_same (sections s) (bad_extent edited) (bad_extent s) extent_kept)

  -- so are checks 1 to 5
  pub to5_kept : conditions_to5 edited ≡ conditions_to5 s
  unfolding bad_length bad_form bad_tasks bad_sections
  to5_kept =
      rw (
        length-set s i b,
        tasks_kept,
        most_kept,
        sections_kept,
        extents_kept,
        byte_kept 0 (omega arith),
        byte_kept 2 (omega arith),
        byte_kept 3 (omega arith),
      ) refl

  in_section_kept : (k j : ℕ) → k < sections s → in_section edited k j ≡ in_section s k j
  unfolding in_section
  in_section_kept k j h = rw (offset_kept k h, size_kept k h) refl

  module _ (stray : IsStray s i) where
    pub stays : IsStray edited i
    stays =
        record {
          from = rw sections_kept from;
          before = omega (arith, length-set s i b, stray.before);
          in_none = λ k h. in_section_kept k i (rw sections_kept at h) ∙ stray.in_none k (rw sections_kept at h);
        }

    -- it is outside each section: before it or past it
    outside : (k : ℕ) → k < sections s → offset s k ≤ i → offset s k + size s k ≤ i
    unfolding in_section
    outside k h l = ltb-false i (offset s k + size s k) (rw (le-leb (offset s k) i l) at (stray.in_none k h))

    -- so the bytes of each section are as they were
    pub section_kept : (k : ℕ) → k < sections s → section edited k ≡ section s k
    unfolding section
    section_kept k h = rw (offset_kept k h, size_kept k h) (go (dec_lt i (offset s k)))
      where
        go : Dec (i < offset s k) → take (size s k) (drop (offset s k) edited) ≡ take (size s k) (drop (offset s k) s)
        go (yes l) = rw (drop-set-lt (offset s k) s i b l) refl
        go (no l) =
            let at : offset s k + (i - offset s k) ≡ i = omega arith in
            let dropped = rw at at (drop-set-add (offset s k) s (i - offset s k) b) in
            rw dropped (take-set-le (size s k) (drop (offset s k) s) (i - offset s k) b (omega (arith, outside k h (omega arith))))

    module _ (extents : bad_extents s ≡ false) where
      kind_kept : (k : ℕ) → k < sections s → kind edited k ≡ kind s k
      unfolding kind
      kind_kept k h =
          rw (offset_kept k h)
          (get_or-set_other s i (offset s k) b 0 (λ e. omega (arith, outside k h (omega arith), (placed s extents k h).some_byte)))

      some_kept : (k m : ℕ) → m ≤ sections s → some m (is_kind edited k) ≡ some m (is_kind s k)
      some_kept k m h = some_same m (is_kind edited k) (is_kind s k) (λ j l. rw (kind_kept j (omega arith)) refl)

      index_in_kept : (k m : ℕ) → m ≤ sections s → index_in edited k m ≡ index_in s k m
      unfolding index_in
      index_in_kept k zero h = refl
      index_in_kept k (suc m) h = rw (some_kept k m (omega arith), index_in_kept k m (omega arith)) refl

      pub index_kept : (k : ℕ) → index_of edited k ≡ index_of s k
      unfolding index_of
      index_kept k = rw sections_kept (index_in_kept k (sections s) (omega arith))

      counted_kept : (k m : ℕ) → m ≤ sections s → counted edited k m ≡ counted s k m
      unfolding counted
      counted_kept k zero h = refl
      counted_kept k (suc m) h = rw (counted_kept k m (omega arith), kind_kept m (omega arith)) refl

      one_kept : (j : ℕ) → j < sections s → not_one edited j ≡ not_one s j
      unfolding not_one
      one_kept j h = rw (sections_kept, counted_kept (j + 1) (sections s) (omega arith)) refl

      length_kept : (j : ℕ) → j < sections s → wrong_length edited j ≡ wrong_length s j
      unfolding wrong_length
      length_kept j h = rw (size_kept j h, kind_kept j h, tasks_kept) refl

      pub kinds_kept : bad_kinds edited ≡ bad_kinds s
      unfolding bad_kinds one_of_each
      kinds_kept =
          rw (
            sections_kept,
            some_same (sections s) (not_one edited) (not_one s) one_kept,
            some_same (sections s) (wrong_length edited) (wrong_length s) length_kept,
          ) refl

      pub place_kept : (k : ℕ) → (offset edited (index_of edited k) ≡ offset s (index_of s k)) × (size edited (index_of edited k) ≡ size s (index_of s k))
      place_kept k = rw (index_kept k) (offset_kept (index_of s k) (index_lt s k), size_kept (index_of s k) (index_lt s k))
