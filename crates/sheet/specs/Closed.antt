-- Request 105: what a byte in no section could be before, and is now.
use Rattle.std.specs.Prelude.{ℕ, ◌≡◌, false, List, ◌++◌}
use Rattle.refusals.specs.Refusals.{Condition, first}
use Rattle.job.specs.declared.Job.{Job}
use Rattle.header.specs.Header.{offset, size}
use Rattle.kinds.specs.Kinds.{index_of}
use Rattle.extents.specs.Extents.{bad_extents}
use Rattle.layout.specs.Layout.{layout_conditions}
use Rattle.layout.specs.Whole.{conditions_before, stray_number}
use Rattle.sheet.specs.Reading.{job_of}

-- a sheet s, and t, which differs from it in a stray byte alone
pub record Closed (s t : List ℕ) : Type 0 where
  -- before the request no answer told them apart: the same number, whatever was asked of the values after 6; and, unless 5 holds, the same values, and a
  -- section of each kind in the same place
  pub number_before : (after : Job → List Condition) → first (conditions_before t ++ after (job_of t)) ≡ first (conditions_before s ++ after (job_of s))
  pub values_before : bad_extents s ≡ false → job_of t ≡ job_of s
  pub place_before : bad_extents s ≡ false → (k : ℕ)
      → (offset t (index_of t k) ≡ offset s (index_of s k)) × (size t (index_of t k) ≡ size s (index_of s k))
  -- now both are refused, by the same number, whatever is checked after 6
  pub refused : (after : List Condition) → first (layout_conditions s ++ after) ≡ stray_number s
  pub refused_too : (after : List Condition) → first (layout_conditions t ++ after) ≡ stray_number s
