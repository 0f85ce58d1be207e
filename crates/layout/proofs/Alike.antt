-- Two accepted layouts of bytes with the same task count, and the same kinds in the same order, have the same header: it is four bytes that checks 2 to 4 and the
-- task count fix, and the places that follow from the lengths of the kinds. And one changed byte does not change the order of the kinds. Assumes nothing.
use Prim.Native.Nat.{ℕ, zero, suc, ◌+◌, ◌-◌, ◌*◌, ◌/◌, ◌%◌, ◌≤◌, ◌<◌}
use mathlib.Core.Path.{◌≡◌, refl, sym, ◌∙◌}
use mathlib.Core.Bool.{not}
use mathlib.Core.List.{List}
use mathlib.Core.Logic.{◌⊎◌, inl, inr, ◌≢◌}
use native.Mathlib.Decide.{ℕ_discrete, dec_lt}
use native.Mathlib.Omega.{arith}
use borrow.Author.Tests.{eqb-true, not-false}
use lib.Dec.{eqb}
use lib.ListN.{length, drop, set, length-drop}
use lib.Seq.{length-take-le, get_or-take, get_or-drop, get_or-set_other}
use Rattle.lists.proofs.Lists.{or_fails}
use Rattle.refusals.specs.Refusals.{first}
use Rattle.fields.specs.Bytes.{byte_at, field_at, field_length, AreBytes}
use Rattle.fields.proofs.Bytes.{field_agrees, piece_bytes, fields_same}
use Rattle.header.specs.Header.{form, tasks, sections, pairs_start, pair_length, least_offset, offset, size, section, bad_form, bad_sections}
use Rattle.extents.specs.Extents.{end_before}
use Rattle.extents.proofs.Extents.{placed, first_start_lem, next_start, end_mono, end_from}
use Rattle.kinds.specs.Kinds.{kind, platform_kind, weights_kind, length_of}
use Rattle.kinds.proofs.Indices.{kinds_agree}
use Rattle.kinds.proofs.Lengths.{known_kind, one_of_each_lem, right_length}
use Rattle.header.proofs.Header.{two_sections}
use Rattle.layout.specs.Layout.{layout_conditions}
use Rattle.layout.specs.Whole.{header}
use Rattle.layout.proofs.Sections.{layout_passed, section_within}
use Rattle.layout.proofs.Before.{offset_kept}
use Rattle.layout.proofs.Whole.{follow, ends}

-- one accepted layout
module _ (s : List ℕ) (clear : first (layout_conditions s) ≡ 0) where
  -- the header's bytes and fields are the sheet's
  header_byte : (i : ℕ) → i < least_offset s → byte_at (header s) i ≡ byte_at s i
  header_byte i h = get_or-take (least_offset s) s i 0 h

  header_field : (a : ℕ) → a + field_length ≤ least_offset s → field_at (header s) a ≡ field_at s a
  header_field a h = field_agrees (header s) s a (λ j l. header_byte j (omega arith))

  length_header : length (header s) ≡ least_offset s
  length_header =
      length-take-le (least_offset s) s (omega (arith, ends s clear, end_from s (layout_passed s clear).extents (sections s) (omega arith)))

  -- bytes that checks 2 and 4 fix
  form_byte : byte_at s 0 ≡ form
  unfolding bad_form
  form_byte = eqb-true _ _ (not-false (eqb (byte_at s 0) form) (or_fails _ _ (layout_passed s clear).form).0)

  zero_byte : byte_at s 3 ≡ 0
  unfolding bad_form
  zero_byte = eqb-true _ _ (not-false (eqb (byte_at s 3) 0) (or_fails (not (eqb (byte_at s 0) form)) _ (layout_passed s clear).form).1)

  sections_byte : byte_at s 2 ≡ sections s
  unfolding bad_sections
  sections_byte = eqb-true _ _ (not-false (eqb (byte_at s 2) (sections s)) (layout_passed s clear).sections)

  -- a section, kind byte first, of its kind's length
  module _ (i : ℕ) (h : i < sections s) where
    pub kind_length : size s i ≡ length_of (kind s i) (tasks s)
    kind_length = right_length s (layout_passed s clear).kinds i h

    pub some_byte : 0 < size s i
    some_byte = (placed s (layout_passed s clear).extents i h).some_byte

    pub kind_known : (kind s i ≡ platform_kind) ⊎ (kind s i ≡ weights_kind)
    kind_known = known_kind (kind s i) (tasks s) (omega (arith, kind_length, some_byte))

    pub length_section : length (section s i) ≡ size s i
    unfolding section
    length_section = length-take-le (size s i) (drop (offset s i) s) (omega (arith, length-drop (offset s i) s, section_within s clear i h))

    pub first_byte : byte_at (section s i) 0 ≡ kind s i
    unfolding section kind
    first_byte =
        let start : offset s i + 0 ≡ offset s i = omega arith in
        get_or-take (size s i) (drop (offset s i) s) 0 0 some_byte ∙ rw start at (get_or-drop (offset s i) s 0 0)

  -- sections begin in different places
  starts_differ : (i j : ℕ) → i < sections s → j < sections s → i ≢ j → offset s i ≢ offset s j
  starts_differ i j h l differ e = go (dec_lt i j)
    where
      later : (a b : ℕ) → a < sections s → b < sections s → a < b → offset s a < offset s b
      later a b p q less =
          omega (
            arith,
            some_byte a p,
            next_start s a,
            end_mono s (layout_passed s clear).extents (suc a) b (omega arith) (omega arith),
            (placed s (layout_passed s clear).extents b q).sorted,
          )

      go : Dec (i < j) → ⊥
      go (yes less) = omega (arith, later i j h l less, e)
      go (no more) = omega (arith, later j i l h (omega arith), e)

module _ (s t : List ℕ) (clear-s : first (layout_conditions s) ≡ 0) (clear-t : first (layout_conditions t) ≡ 0) where
  pub same_sections : sections s ≡ sections t
  unfolding sections
  same_sections = refl

  -- the last kind that is not known to agree does
  last_kind : (i : ℕ) → i < sections s → ((k : ℕ) → k < sections s → k ≢ i → kind s k ≡ kind t k) → kind s i ≡ kind t i
  last_kind i h others = go (kind_known s clear-s i h)
    where
      agree : (j : ℕ) → j < sections s → kind s i ≡ j + 1 → kind s i ≡ kind t i
      agree j l e =
          kinds_agree s t (one_of_each_lem s (layout_passed s clear-s).kinds) (one_of_each_lem t (layout_passed t clear-t).kinds) same_sections i j h l e others

      go : (kind s i ≡ platform_kind) ⊎ (kind s i ≡ weights_kind) → kind s i ≡ kind t i
      go (inl e) = agree 0 (omega (arith, two_sections s)) e
      go (inr e) = agree 1 (omega (arith, two_sections s)) e

  -- of two sections, the same kind first means the same kinds
  pub same_order : kind s 0 ≡ kind t 0 → (i : ℕ) → i < sections s → kind s i ≡ kind t i
  unfolding sections
  same_order e zero h = e
  same_order e (suc zero) h = last_kind 1 h others
    where
      others : (k : ℕ) → k < sections s → k ≢ 1 → kind s k ≡ kind t k
      others zero l differ = e
      others (suc zero) l differ = absurd (differ refl)
      others (suc (suc k)) l differ = absurd (omega arith)
  same_order e (suc (suc i)) h = absurd (omega arith)

  module _ (same_tasks : tasks s ≡ tasks t) where
    -- sections of the same kinds end in the same places
    same_size : (i : ℕ) → i < sections s → kind s i ≡ kind t i → size s i ≡ size t i
    same_size i h e = kind_length s clear-s i h ∙ (rw (e, same_tasks) refl ∙ sym (kind_length t clear-t i (rw same_sections at h)))

    next_end : (m : ℕ) → m < sections s → end_before s m ≡ end_before t m → kind s m ≡ kind t m → end_before s (suc m) ≡ end_before t (suc m)
    next_end m h e k =
        rw (next_start s m, next_start t m, follow s clear-s m h, follow t clear-t m (rw same_sections at h), e, same_size m h k) refl

    -- a byte of the header may differ: the kinds stand behind it, one after the other
    pub kinds_behind : ((a : ℕ) → least_offset s ≤ a → byte_at s a ≡ byte_at t a) → (i : ℕ) → i < sections s → kind s i ≡ kind t i
    unfolding kind
    kinds_behind same i h = at i h (reached i (omega arith))
      where
        at : (m : ℕ) → m < sections s → end_before s m ≡ end_before t m → byte_at s (offset s m) ≡ byte_at t (offset t m)
        at m l e =
            rw (follow s clear-s m l, follow t clear-t m (rw same_sections at l), ← e)
            (same (end_before s m) (end_from s (layout_passed s clear-s).extents m (omega arith)))

        reached : (m : ℕ) → m ≤ sections s → end_before s m ≡ end_before t m
        reached zero l = rw (first_start_lem s, first_start_lem t, same_sections) refl
        reached (suc m) l = next_end m (omega arith) (reached m (omega arith)) (at m (omega arith) (reached m (omega arith)))

    module _ (bytes-s : AreBytes s) (bytes-t : AreBytes t) (kinds : (i : ℕ) → i < sections s → kind s i ≡ kind t i) where
      same_ends : (m : ℕ) → m ≤ sections s → end_before s m ≡ end_before t m
      same_ends zero h = rw (first_start_lem s, first_start_lem t, same_sections) refl
      same_ends (suc m) h = next_end m (omega arith) (same_ends m (omega arith)) (kinds m (omega arith))

      same_offset : (i : ℕ) → i < sections s → offset s i ≡ offset t i
      same_offset i h = follow s clear-s i h ∙ (same_ends i (omega arith) ∙ sym (follow t clear-t i (rw same_sections at h)))

      pub header_same : header s ≡ header t
      unfolding offset size tasks
      header_same =
          fields_same (header s) (header t) (piece_bytes s bytes-s (least_offset s) 0) (piece_bytes t bytes-t (least_offset t) 0) pairs_start (2 * sections s)
          (omega (arith, length_header s clear-s)) (omega (arith, length_header t clear-t, same_sections)) lead (λ j h. field (j / 2) j (j % 2) (omega arith) (omega arith) h)
        where
          lead : (i : ℕ) → i < 4 → byte_at (header s) i ≡ byte_at (header t) i
          lead i h = header_byte s clear-s i (omega arith) ∙ (at i h ∙ sym (header_byte t clear-t i (omega arith)))
            where
              at : (i : ℕ) → i < 4 → byte_at s i ≡ byte_at t i
              at zero h = form_byte s clear-s ∙ sym (form_byte t clear-t)
              at (suc zero) h = same_tasks
              at (suc (suc zero)) h = sections_byte s clear-s ∙ (same_sections ∙ sym (sections_byte t clear-t))
              at (suc (suc (suc zero))) h = zero_byte s clear-s ∙ sym (zero_byte t clear-t)
              at (suc (suc (suc (suc i)))) h = absurd (omega arith)

          field : (i j r : ℕ) → j ≡ 2 * i + r → r < 2 → j < 2 * sections s
              → field_at (header s) (pairs_start + field_length * j) ≡ field_at (header t) (pairs_start + field_length * j)
          field i j r e l h =
              header_field s clear-s (pairs_start + field_length * j) (omega arith)
              ∙ (at r l e ∙ sym (header_field t clear-t (pairs_start + field_length * j) (omega (arith, same_sections))))
            where
              at : (r : ℕ) → r < 2 → j ≡ 2 * i + r → field_at s (pairs_start + field_length * j) ≡ field_at t (pairs_start + field_length * j)
              at zero l e =
                  let place : pairs_start + field_length * j ≡ pairs_start + pair_length * i = omega arith in
                  rw place (same_offset i (omega arith))
              at (suc zero) l e =
                  let place : pairs_start + field_length * j ≡ pairs_start + field_length + pair_length * i = omega arith in
                  rw place (same_size i (omega arith) (kinds i (omega arith)))
              at (suc (suc r)) l e = absurd (omega arith)

-- one changed byte does not change the order of the kinds
module _ (s : List ℕ) (i b : ℕ) (clear : first (layout_conditions s) ≡ 0) (clear' : first (layout_conditions (set s i b)) ≡ 0) where
  pub kinds_stay : tasks s ≡ tasks (set s i b) → (k : ℕ) → k < sections s → kind s k ≡ kind (set s i b) k
  unfolding kind
  kinds_stay same_tasks k h = go (dec_lt i (least_offset s))
    where
      other : least_offset s ≤ i → (k : ℕ) → k < sections s → offset s k ≢ i → byte_at s (offset s k) ≡ byte_at (set s i b) (offset (set s i b) k)
      other from k h differ = rw (offset_kept s i b from k h) (sym (get_or-set_other s i (offset s k) b 0 differ))

      at : least_offset s ≤ i → Dec (offset s k ≡ i) → byte_at s (offset s k) ≡ byte_at (set s i b) (offset (set s i b) k)
      at from (no differ) = other from k h differ
      at from (yes e) = last_kind s (set s i b) clear clear' k h (λ j l differ. other from j l (λ q. starts_differ s clear j k l h differ (q ∙ sym e)))

      go : Dec (i < least_offset s) → byte_at s (offset s k) ≡ byte_at (set s i b) (offset (set s i b) k)
      go (yes before) =
          kinds_behind s (set s i b) clear clear' same_tasks (λ a from. sym (get_or-set_other s i a b 0 (λ e. omega arith))) k h
      go (no from) = at (omega arith) (ℕ_discrete (offset s k) i)
