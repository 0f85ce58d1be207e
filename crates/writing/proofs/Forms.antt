-- A sheet that is written in form 1 is read as it was written: layout, sections and values. The sections stand where a list of sections puts them (`Sheets`).
-- Assumes nothing.
use Prim.Native.Nat.{ℕ, zero, suc, ◌+◌, ◌*◌, ◌≤◌, ◌<◌}
use mathlib.Core.Path.{◌≡◌, refl, sym, ◌∙◌, ap}
use mathlib.Core.Bool.{false, cond}
use mathlib.Core.List.{List, [], ◌∷◌}
use native.Mathlib.Omega.{arith}
use native.Mathlib.Decide.{dec_lt}
use borrow.Author.Tests.{lt-ltb, le-ltb, eq-eqb}
use lib.Dec.{lit<, ltb}
use lib.ListN.{length, get_or, get_or-eq_default}
use Rattle.lists.specs.Lists.{some, tabulate}
use Rattle.lists.proofs.Lists.{tabulate_same}
use Rattle.refusals.specs.Numbers
use Rattle.refusals.specs.Refusals.{first}
use Rattle.units.specs.Limits.{task_limit}
use Rattle.job.specs.Job.{weight_at}
use Rattle.job.specs.Checks.{bad_count, job_conditions}
use Rattle.job.proofs.Ranges.{count_range}
use Rattle.job.specs.declared.Platform.{Platform}
use Rattle.job.specs.declared.Job.{Job}
use Rattle.fields.specs.Bytes.{field_length}
use Rattle.fields.specs.Written.{field_bytes, fields}
use Rattle.fields.proofs.Written.{length_fields, field_after, fields_read}
use Rattle.header.specs.Header.{tasks, tasks_most, sections, offset, size, section, shortest_sheet, longest_sheet, bad_length, bad_tasks}
use Rattle.extents.specs.Extents.{stray_byte}
use Rattle.kinds.specs.Kinds.{
  kind,
  platform_kind,
  weights_kind,
  platform_length,
  weights_length,
  length_of,
  index_in,
  index_of,
  counted,
  not_one,
  one_of_each,
  wrong_length,
  bad_kinds,
}
use Rattle.layout.specs.Layout.{layout_conditions}
use Rattle.sheet.specs.Reading.{section_field, platform_of, weights_of, job_of, reading_of}
use Rattle.sheet.proofs.Readings.{sheet_goes_on, reading_given}
use Rattle.writing.specs.Form.{lengths, form_of, form_one, platform_start, weights_start, platform_fields, platform_section, weights_section}
use Rattle.writing.specs.Working.Starts.{start_in}
use Rattle.writing.proofs.Sheets as sheets

module _ (p : Platform) (w : List ℕ) where
  -- the two sections
  abbrev parts : List (List ℕ)
  parts = platform_section p ∷ weights_section w ∷ []

  abbrev Section : ℕ → Type 0
  Section i = i < length (lengths parts)

  platform_there : Section 0
  unfolding lengths
  platform_there = lit< tt

  weights_there : Section 1
  unfolding lengths
  weights_there = lit< tt

  all : length (lengths parts) ≡ sections (form_of (length w) parts)
  unfolding lengths sections
  all = refl

  some_byte : (i : ℕ) → Section i → 0 < get_or (lengths parts) i 0
  unfolding lengths
  some_byte zero h = omega arith
  some_byte (suc zero) h = omega arith
  some_byte (suc (suc i)) h = absurd (omega arith)

  platform_offset : offset (form_one p w) 0 ≡ platform_start
  unfolding form_one lengths start_in
  platform_offset = sheets.form_offset (length w) parts 0 platform_there

  weights_offset : offset (form_one p w) 1 ≡ weights_start
  unfolding form_one lengths start_in fields field_bytes
  weights_offset = sheets.form_offset (length w) parts 1 weights_there

  platform_size : size (form_one p w) 0 ≡ platform_length
  unfolding form_one lengths fields field_bytes
  platform_size = sheets.form_size (length w) parts 0 platform_there

  weights_size : size (form_one p w) 1 ≡ weights_length (length w)
  unfolding form_one lengths
  weights_size = sheets.form_size (length w) parts 1 weights_there ∙ omega (arith, length_fields w)

  platform_section_lem : section (form_one p w) 0 ≡ platform_section p
  unfolding form_one
  platform_section_lem = sheets.form_section (length w) parts 0 platform_there

  weights_section_lem : section (form_one p w) 1 ≡ weights_section w
  unfolding form_one
  weights_section_lem = sheets.form_section (length w) parts 1 weights_there

  platform_kind_lem : kind (form_one p w) 0 ≡ platform_kind
  unfolding form_one
  platform_kind_lem = sheets.form_kind (length w) parts all some_byte 0 platform_there

  weights_kind_lem : kind (form_one p w) 1 ≡ weights_kind
  unfolding form_one
  weights_kind_lem = sheets.form_kind (length w) parts all some_byte 1 weights_there

  platform_first : index_of (form_one p w) platform_kind ≡ 0
  unfolding index_of index_in sections some
  platform_first = rw platform_kind_lem refl

  weights_second : index_of (form_one p w) weights_kind ≡ 1
  unfolding index_of index_in sections some
  weights_second = rw platform_kind_lem refl

  -- the sections stand where the form says
  pub platform_at : offset (form_one p w) (index_of (form_one p w) platform_kind) ≡ platform_start
  platform_at = rw platform_first platform_offset

  pub weights_at : offset (form_one p w) (index_of (form_one p w) weights_kind) ≡ weights_start
  weights_at = rw weights_second weights_offset

  form_tasks : tasks (form_one p w) ≡ length w
  unfolding form_one
  form_tasks = sheets.form_tasks (length w) parts

  pub form_length : length (form_one p w) ≡ weights_start + weights_length (length w)
  unfolding form_one lengths start_in fields field_bytes
  form_length = sheets.form_end (length w) parts ∙ omega (arith, length_fields w)

-- the fields of a section that is a kind and fields
section_read : (k : ℕ) (l : List ℕ) (j : ℕ) → j < length l → section_field (k ∷ fields l) j ≡ get_or l j 0
section_read k l j h = field_after (k ∷ []) (fields l) (field_length * j) ∙ fields_read l j h

platform_read : (p : Platform) → platform_of (platform_section p) ≡ p
unfolding platform_of
platform_read p = rw (at 0 (lit< tt), at 1 (lit< tt), at 2 (lit< tt), at 3 (lit< tt), at 4 (lit< tt), at 5 (lit< tt), at 6 (lit< tt)) refl
  where
    at : (j : ℕ) → j < 7 → section_field (platform_section p) j ≡ get_or (platform_fields p) j 0
    at j h = section_read platform_kind (platform_fields p) j h

weights_read : (w : List ℕ) → weights_of (weights_section w) (length w) ≡ tabulate task_limit (weight_at w)
unfolding weights_of
weights_read w = tabulate_same task_limit _ _ (λ j h. at j (dec_lt j (length w)))
  where
    at : (j : ℕ) → Dec (j < length w) → cond (ltb j (length w)) (section_field (weights_section w) j) 0 ≡ weight_at w j
    at j (yes h) = rw (lt-ltb j (length w) h) (section_read weights_kind w j h)
    at j (no h) = rw (le-ltb j (length w) (omega arith)) (sym (get_or-eq_default w 0 (omega arith)))

-- the values of a sheet written in form 1
abbrev pub form_job : Platform → List ℕ → Job
form_job p w = record { tasks = length w; platform = p; weights = tabulate task_limit (weight_at w) }

module _ (p : Platform) (w : List ℕ) where
  form_job_lem : job_of (form_one p w) ≡ form_job p w
  unfolding job_of
  form_job_lem =
      rw (form_tasks p w, platform_first p w, weights_second p w, platform_section_lem p w, weights_section_lem p w, platform_read p, weights_read w) refl

  right_kinds : bad_kinds (form_one p w) ≡ false
  unfolding bad_kinds one_of_each not_one counted wrong_length length_of sections some
  right_kinds =
      rw (
        platform_kind_lem p w,
        weights_kind_lem p w,
        platform_size p w,
        weights_size p w,
        form_tasks p w,
        eq-eqb (weights_length (length w)) (weights_length (length w)) refl,
      ) refl

  module _ (count : bad_count (length w) ≡ false) where
    few : length w ≤ task_limit
    few = (count_range (length w) count).few_tasks

    right_length : bad_length (form_one p w) ≡ false
    unfolding bad_length
    right_length =
        rw (
          form_length p w,
          le-ltb (weights_start + weights_length (length w)) shortest_sheet (omega arith),
          le-ltb longest_sheet (weights_start + weights_length (length w)) (omega (arith, few)),
        ) refl

    right_count : bad_tasks (form_one p w) ≡ false
    unfolding bad_tasks tasks_most bad_count
    right_count = rw (form_tasks p w) count

    pub no_stray : stray_byte (form_one p w) ≡ false
    unfolding form_one
    no_stray = sheets.no_stray (length w) (parts p w) (all p w) (some_byte p w)

    form_layout : first (layout_conditions (form_one p w)) ≡ 0
    unfolding first form_one
    form_layout =
        rw (
          right_length,
          sheets.right_form (length w) (parts p w),
          right_count,
          sheets.right_sections (length w) (parts p w) (all p w) (some_byte p w),
          sheets.right_extents (length w) (parts p w) (all p w) (some_byte p w),
          no_stray,
          right_kinds,
        ) refl

    -- reading accepts it where its values pass checks 7 and 8, and gives just those values
    pub form_reads : first (job_conditions (form_job p w)) ≡ 0 → reading_of (form_one p w) ≡ record { number = Numbers.accepted; job = form_job p w }
    form_reads values =
        let accepted = sym (sheet_goes_on (form_one p w) form_layout) ∙ (ap (λ (job : Job). first (job_conditions job)) form_job_lem ∙ values) in
        sym (reading_given (form_one p w) (form_job p w) (sym accepted) (sym form_job_lem))
