-- An accepted sheet of bytes is determined by its values and by the order of its kinds. A field says its four bytes; the sections of an accepted sheet are a kind
-- byte and the fields of its values; and the header says no more than the task count and the lengths of the kinds (`header_same`). Assumes nothing.
use Prim.Native.Nat.{ℕ, zero, suc, ◌+◌, ◌*◌, ◌^◌, ◌≤◌, ◌<◌}
use mathlib.Core.Path.{◌≡◌, refl, sym, ◌∙◌, ap}
use mathlib.Core.List.{List}
use mathlib.Core.Logic.{◌⊎◌, inl, inr}
use native.Mathlib.Omega.{arith}
use borrow.Author.Tests.{lt-ltb}
use lib.ListN.{get_or, set}
use Rattle.lists.proofs.Lists.{get_d_tabulate}
use Rattle.refusals.specs.Numbers
use Rattle.refusals.specs.Refusals.{first}
use Rattle.units.specs.Limits.{task_limit}
use Rattle.job.specs.declared.Platform.{Platform}
use Rattle.job.specs.declared.Job.{Job}
use Rattle.fields.specs.Bytes.{byte_at, field_length, AreBytes}
use Rattle.fields.proofs.Bytes.{piece_bytes, fields_same, bytes_set}
use Rattle.header.specs.Header.{tasks, sections, offset, size, section}
use Rattle.header.proofs.Header.{two_sections}
use Rattle.kinds.specs.Kinds.{kind, platform_kind, weights_kind, index_of}
use Rattle.kinds.proofs.Indices.{kind_index}
use Rattle.kinds.proofs.Lengths.{platform_long, weights_long, one_of_each_lem}
use Rattle.layout.specs.Layout.{layout_conditions}
use Rattle.layout.proofs.Sections.{layout_passed, layout_tasks}
use Rattle.layout.proofs.Whole.{same_parts}
use Rattle.layout.proofs.Alike.{kind_length, kind_known, length_section, first_byte, same_sections, same_order, header_same, kinds_stay}
use Rattle.sheet.specs.Reading.{section_field, platform_of, weights_of, job_of, sheet_refusal, reading_of}
use Rattle.sheet.specs.Reading.{JobReading}
use Rattle.sheet.proofs.Readings.{sheet_layout, reading_number, reading_job}

-- the seven fields of a platform
platform_fields_lem : (p q : List ℕ) → platform_of p ≡ platform_of q → (i : ℕ) → i < 7 → section_field p i ≡ section_field q i
unfolding platform_of
platform_fields_lem p q e zero h = ap (λ (r : Platform). r.failstop) e
platform_fields_lem p q e (suc zero) h = ap (λ (r : Platform). r.silent) e
platform_fields_lem p q e (suc (suc zero)) h = ap (λ (r : Platform). r.cd) e
platform_fields_lem p q e (suc (suc (suc zero))) h = ap (λ (r : Platform). r.cm) e
platform_fields_lem p q e (suc (suc (suc (suc zero)))) h = ap (λ (r : Platform). r.v) e
platform_fields_lem p q e (suc (suc (suc (suc (suc zero))))) h = ap (λ (r : Platform). r.rd) e
platform_fields_lem p q e (suc (suc (suc (suc (suc (suc zero)))))) h = ap (λ (r : Platform). r.rm) e
platform_fields_lem p q e (suc (suc (suc (suc (suc (suc (suc i))))))) h = absurd (omega arith)

-- the fields of n weights
weights_fields : (p q : List ℕ) (n : ℕ) → n ≤ task_limit → weights_of p n ≡ weights_of q n → (i : ℕ) → i < n → section_field p i ≡ section_field q i
unfolding weights_of
weights_fields p q n few e i h = sym (at p) ∙ (ap (λ l. get_or l i 0) e ∙ at q)
  where
    at : (l : List ℕ) → get_or (weights_of l n) i 0 ≡ section_field l i
    at l = get_d_tabulate task_limit _ i (omega arith) ∙ rw (lt-ltb i n h) refl

-- a section of a kind is the one of that kind's index
module _ (s : List ℕ) (clear : first (layout_conditions s) ≡ 0) (i : ℕ) (h : i < sections s) where
  index_is : (j : ℕ) → j < 2 → kind s i ≡ j + 1 → i ≡ index_of s (j + 1)
  index_is j few e = kind_index s (one_of_each_lem s (layout_passed s clear).kinds) j (omega (arith, two_sections s)) i h e

  platform_size : kind s i ≡ platform_kind → size s i ≡ 1 + field_length * 7
  platform_size e = kind_length s clear i h ∙ (rw e (platform_long (tasks s)))

  weights_size : kind s i ≡ weights_kind → size s i ≡ 1 + field_length * tasks s
  weights_size e = kind_length s clear i h ∙ (rw e (weights_long (tasks s)))

module _ (s t : List ℕ) (bytes-s : AreBytes s) (bytes-t : AreBytes t) (clear-s : first (layout_conditions s) ≡ 0) (clear-t : first (layout_conditions t) ≡ 0) where
  -- two sections of one kind with the same n fields
  fields_alike : (i n : ℕ) → i < sections s → size s i ≡ 1 + field_length * n → size t i ≡ 1 + field_length * n → kind s i ≡ kind t i
      → ((j : ℕ) → j < n → section_field (section s i) j ≡ section_field (section t i) j) → section s i ≡ section t i
  unfolding section
  fields_alike i n h size-s size-t kinds fields =
      fields_same (section s i) (section t i) (piece_bytes s bytes-s (size s i) (offset s i)) (piece_bytes t bytes-t (size t i) (offset t i)) 1 n
      (length_section s clear-s i h ∙ size-s) (length_section t clear-t i h' ∙ size-t) lead fields
    where
      h' : i < sections t
      h' = rw (same_sections s t clear-s clear-t) at h

      lead : (j : ℕ) → j < 1 → byte_at (section s i) j ≡ byte_at (section t i) j
      lead j l =
          let z : j ≡ 0 = omega arith in
          rw z (first_byte s clear-s i h ∙ (kinds ∙ sym (first_byte t clear-t i h')))

  module _ (values : job_of s ≡ job_of t) where
    same_tasks : tasks s ≡ tasks t
    unfolding job_of
    same_tasks = ap (λ (job : Job). job.tasks) values

    module _ (kinds : (i : ℕ) → i < sections s → kind s i ≡ kind t i) where
      -- each section by its kind
      section_alike : (i : ℕ) → i < sections s → section s i ≡ section t i
      unfolding job_of
      section_alike i h = go (kind_known s clear-s i h)
        where
          h' : i < sections t
          h' = rw (same_sections s t clear-s clear-t) at h

          go : (kind s i ≡ platform_kind) ⊎ (kind s i ≡ weights_kind) → section s i ≡ section t i
          go (inl e) =
              let e' = sym (kinds i h) ∙ e in
              let platforms = rw (← (index_is s clear-s i h 0 (omega arith) e), ← (index_is t clear-t i h' 0 (omega arith) e')) at
              (ap (λ (job : Job). job.platform) values) in
              fields_alike i 7 h (platform_size s clear-s i h e) (platform_size t clear-t i h' e') (kinds i h)
              (platform_fields_lem (section s i) (section t i) platforms)
          go (inr e) =
              let e' = sym (kinds i h) ∙ e in
              let weights = rw (← (index_is s clear-s i h 1 (omega arith) e), ← (index_is t clear-t i h' 1 (omega arith) e'), ← same_tasks) at
              (ap (λ (job : Job). job.weights) values) in
              fields_alike i (tasks s) h (weights_size s clear-s i h e) (weights_size t clear-t i h' e' ∙ rw same_tasks refl) (kinds i h)
              (weights_fields (section s i) (section t i) (tasks s) (layout_tasks s clear-s).few_tasks weights)

      same_values : s ≡ t
      same_values = same_parts s t clear-s clear-t (header_same s t clear-s clear-t same_tasks bytes-s bytes-t kinds) section_alike

-- two accepted sheets with the same reading have the same values
module _ (s t : List ℕ) (accepted : (reading_of s).number ≡ Numbers.accepted) (same : reading_of s ≡ reading_of t) where
  accepted_first : sheet_refusal s ≡ 0
  accepted_first = sym (reading_number s) ∙ accepted

  accepted_second : sheet_refusal t ≡ 0
  accepted_second = sym (reading_number t) ∙ (sym (ap (λ (r : JobReading). r.number) same) ∙ accepted)

  read_alike : job_of s ≡ job_of t
  read_alike = sym (reading_job s accepted_first) ∙ (ap (λ (r : JobReading). r.job) same ∙ reading_job t accepted_second)

-- two accepted sheets of bytes that read alike, the same kind first, are the same: there is nothing else in which they could differ
pub same_reading : (s t : List ℕ) → AreBytes s → AreBytes t → (reading_of s).number ≡ Numbers.accepted → reading_of s ≡ reading_of t
    → kind s 0 ≡ kind t 0 → s ≡ t
same_reading s t bytes-s bytes-t accepted same first_kind =
    let clear-s = sheet_layout s (accepted_first s t accepted same) in
    let clear-t = sheet_layout t (accepted_second s t accepted same) in
    same_values s t bytes-s bytes-t clear-s clear-t (read_alike s t accepted same) (same_order s t clear-s clear-t first_kind)

-- no byte of an accepted sheet can change and leave its reading as it was
pub one_byte : (s : List ℕ) (i b : ℕ) → AreBytes s → b < 2 ^ 8 → (reading_of s).number ≡ Numbers.accepted → reading_of (set s i b) ≡ reading_of s
    → set s i b ≡ s
one_byte s i b bytes h accepted same =
    let clear = sheet_layout s (accepted_first s (set s i b) accepted (sym same)) in
    let clear' = sheet_layout (set s i b) (accepted_second s (set s i b) accepted (sym same)) in
    let values = read_alike s (set s i b) accepted (sym same) in
    let kinds = kinds_stay s i b clear clear' (same_tasks s (set s i b) bytes (bytes_set s i b bytes h) clear clear' values) in
    sym (same_values s (set s i b) bytes (bytes_set s i b bytes h) clear clear' values kinds)
