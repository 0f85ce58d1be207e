-- A sheet that is written as a list of sections, as many as its form has and none empty, has these sections, where the pairs say, and no byte besides them.
-- Assumes nothing.
use Prim.Native.Nat.{ℕ, zero, suc, ◌+◌, ◌*◌, ◌≤◌, ◌<◌}
use mathlib.Core.Path.{◌≡◌, refl, sym, ◌∙◌, ap}
use mathlib.Core.Bool.{false}
use mathlib.Core.List.{List, [], ◌∷◌, ◌++◌}
use native.Mathlib.Omega.{arith}
use borrow.Author.Tests.{eq-eqb, ne_eqb, le-ltb}
use lib.ListN.{length, get_or, drop, length-append, get_or-append}
use lib.Seq.{get_or-take, get_or-drop}
use Rattle.lists.proofs.Lists.{some_none}
use Rattle.fields.specs.Bytes.{byte_at, field_at, field_length}
use Rattle.fields.specs.Written.{fields}
use Rattle.fields.proofs.Bytes.{field_agrees}
use Rattle.fields.proofs.Written.{length_fields, field_after, fields_read}
use Rattle.header.specs.Header.{form, sections, pairs_start, pair_length, offset, size, section, bad_form, bad_sections, tasks}
use Rattle.extents.specs.Extents.{end_before, bad_extent, bad_extents, stray_byte, apart, contiguous}
use Rattle.extents.proofs.Extents.{first_start_lem, next_start}
use Rattle.extents.proofs.Stray.{stray_contiguous}
use Rattle.kinds.specs.Kinds.{kind}
use Rattle.writing.specs.Form.{pairs, header, lengths, together, form_of}
use Rattle.writing.specs.Working.Starts.{start_in}
use Rattle.writing.proofs.Starts.{length_lengths, length_pairs, start_first, start_next, start_mono, pair_start, pair_size, section_there, together_end}

-- fields in front of other bytes
fields_front : (l rest : List ℕ) (j : ℕ) → j < length l → field_at (fields l ++ rest) (field_length * j) ≡ get_or l j 0
fields_front l rest j h =
    field_agrees (fields l ++ rest) (fields l) (field_length * j)
    (λ k q. get_or-append (fields l) rest 0 k (omega (arith, length_fields l))) ∙ fields_read l j h

-- the end of the header of m sections
abbrev pub header_end : ℕ → ℕ
header_end m = pairs_start + pair_length * m

module _ (n : ℕ) (xs : List (List ℕ)) where
  abbrev sizes : List ℕ
  sizes = lengths xs

  abbrev starts : ℕ → ℕ
  starts i = start_in (header_end (length sizes)) sizes i

  pub header_long : length (header n sizes) ≡ header_end (length sizes)
  header_long = omega (arith, length_fields (pairs (header_end (length sizes)) sizes), length_pairs (header_end (length sizes)) sizes)

  pair_read : (j : ℕ) → j < 2 * length sizes → field_at (form_of n xs) (pairs_start + field_length * j) ≡ get_or (pairs (header_end (length sizes)) sizes) j 0
  unfolding form_of
  pair_read j h =
      field_after (form ∷ n ∷ length sizes ∷ 0 ∷ []) (fields (pairs (header_end (length sizes)) sizes) ++ together xs) (field_length * j)
      ∙ fields_front (pairs (header_end (length sizes)) sizes) (together xs) j (omega (arith, length_pairs (header_end (length sizes)) sizes))

  pub form_offset : (i : ℕ) → i < length sizes → offset (form_of n xs) i ≡ starts i
  unfolding offset
  form_offset i h =
      let place : pairs_start + pair_length * i ≡ pairs_start + field_length * (2 * i) = omega arith in
      rw place (pair_read (2 * i) (omega arith) ∙ pair_start (header_end (length sizes)) sizes i h)

  pub form_size : (i : ℕ) → i < length sizes → size (form_of n xs) i ≡ get_or sizes i 0
  unfolding size
  form_size i h =
      let place : pairs_start + field_length + pair_length * i ≡ pairs_start + field_length * (2 * i + 1) = omega arith in
      rw place (pair_read (2 * i + 1) (omega arith) ∙ pair_size (header_end (length sizes)) sizes i h)

  pub form_section : (i : ℕ) → i < length sizes → section (form_of n xs) i ≡ get_or xs i []
  unfolding section form_of
  form_section i h =
      rw (form_offset i h, form_size i h) (rw header_long at (section_there (header n sizes) xs i (omega (arith, length_lengths xs))))

  pub form_end : length (form_of n xs) ≡ starts (length sizes)
  unfolding form_of
  form_end =
      rw (length-append (header n sizes) (together xs), header_long, length_lengths xs) (together_end (header_end (length xs)) xs)

  pub form_tasks : tasks (form_of n xs) ≡ n
  unfolding tasks form_of
  form_tasks = refl

  pub right_form : bad_form (form_of n xs) ≡ false
  unfolding bad_form form_of
  right_form = refl

  -- as many sections as the form has, and each with its kind byte
  module _ (all : length sizes ≡ sections (form_of n xs)) (some_byte : (i : ℕ) → i < length sizes → 0 < get_or sizes i 0) where
    pub right_sections : bad_sections (form_of n xs) ≡ false
    unfolding bad_sections form_of
    right_sections = rw (eq-eqb (length sizes) (sections (form_of n xs)) all) refl

    ends : (i : ℕ) → i ≤ length sizes → end_before (form_of n xs) i ≡ starts i
    ends zero h = first_start_lem (form_of n xs) ∙ (rw (← all) (sym (start_first (header_end (length sizes)) sizes)))
    ends (suc i) h =
        next_start (form_of n xs) i
        ∙ (rw (form_offset i (omega arith), form_size i (omega arith)) (sym (start_next (header_end (length sizes)) sizes i (omega arith))))

    right_extent : (i : ℕ) → i < length sizes → bad_extent (form_of n xs) i ≡ false
    unfolding bad_extent
    right_extent i h =
        rw (
          ends i (omega arith),
          form_offset i h,
          form_size i h,
          ← all,
          form_end,
          ne_eqb (get_or sizes i 0) 0 (λ e. omega (arith, some_byte i h)),
          le-ltb (starts i) (header_end (length sizes)) (omega (arith, start_mono (header_end (length sizes)) sizes 0 i (omega arith) (omega arith), start_first (header_end (length sizes)) sizes)),
          le-ltb (starts i) (starts i) (omega arith),
          le-ltb (starts (length sizes)) (starts i + get_or sizes i 0)
              (omega (arith, start_next (header_end (length sizes)) sizes i h, start_mono (header_end (length sizes)) sizes (suc i) (length sizes) (omega arith) (omega arith))),
        ) refl

    pub right_extents : bad_extents (form_of n xs) ≡ false
    unfolding bad_extents
    right_extents = some_none (sections (form_of n xs)) (bad_extent (form_of n xs)) (λ i h. right_extent i (omega (arith, all)))

    -- the sections follow one another, so that no byte is stray
    follows : (i : ℕ) → i < sections (form_of n xs) → apart (form_of n xs) i ≡ false
    unfolding apart
    follows i h = let l : i < length sizes = omega (arith, all) in rw (form_offset i l, ends i (omega arith), eq-eqb (starts i) (starts i) refl) refl

    pub no_stray : stray_byte (form_of n xs) ≡ false
    unfolding contiguous
    no_stray =
        stray_contiguous (form_of n xs) right_extents
        ∙ rw (
          some_none (sections (form_of n xs)) (apart (form_of n xs)) follows,
          ← all,
          ends (length sizes) (omega arith),
          form_end,
          eq-eqb (starts (length sizes)) (starts (length sizes)) refl,
        ) refl

    pub form_kind : (i : ℕ) → i < length sizes → kind (form_of n xs) i ≡ byte_at (get_or xs i []) 0
    unfolding kind section
    form_kind i h =
        let s : List ℕ = form_of n xs in
        let start : offset s i + 0 ≡ offset s i = omega arith in
        let long : 0 < size s i = omega (arith, form_size i h, some_byte i h) in
        sym (rw start at (get_or-take (size s i) (drop (offset s i) s) 0 0 long ∙ get_or-drop (offset s i) s 0 0)) ∙ ap (λ l. byte_at l 0) (form_section i h)
