-- A byte that no section covers moves neither a check from 1 to 5 nor a section (`Before`), so that no value moves; and now 28 refuses both sheets.
-- Assumes nothing.
use Prim.Native.Nat.{ℕ, ◌<◌}
use mathlib.Core.Path.{◌≡◌, refl, sym, ◌∙◌, ap}
use mathlib.Core.Bool.{true, false}
use mathlib.Core.List.{List, [], ◌∷◌, ◌++◌}
use mathlib.Core.Logic.{◌⊎◌, inl, inr}
use native.Mathlib.Nat.{eq-zero-or-pos}
use native.Mathlib.Omega.{arith}
use lib.ListN.{set}
use Rattle.refusals.specs.Numbers
use Rattle.refusals.specs.Refusals.{Condition, refusal, first}
use Rattle.refusals.proofs.Refusals.{first_clear, first_stands}
use Rattle.job.specs.declared.Job.{Job}
use Rattle.kinds.specs.Kinds.{platform_kind, weights_kind, index_of, bad_kinds}
use Rattle.extents.specs.Extents.{bad_extents}
use Rattle.extents.specs.Stray.{IsStray}
use Rattle.layout.specs.Whole.{conditions_to5, conditions_before}
use Rattle.kinds.proofs.Indices.{index_lt}
use Rattle.layout.proofs.Before.{to5_numbered, stray_number_lem, tasks_kept, to5_kept, stays, section_kept, index_kept, kinds_kept, place_kept}
use Rattle.sheet.specs.Reading.{job_of}
use Rattle.sheet.specs.Closed.{Closed}

module _ (s : List ℕ) (i b : ℕ) (stray : IsStray s i) where
  abbrev edited : List ℕ
  edited = set s i b

  values_kept : bad_extents s ≡ false → job_of edited ≡ job_of s
  unfolding job_of
  values_kept extents =
      rw (
        tasks_kept s i b stray.from,
        index_kept s i b stray.from stray extents platform_kind,
        index_kept s i b stray.from stray extents weights_kind,
        section_kept s i b stray.from stray (index_of s platform_kind) (index_lt s platform_kind),
        section_kept s i b stray.from stray (index_of s weights_kind) (index_lt s weights_kind),
      ) refl

  -- where one of 1 to 5 holds, it decides; otherwise the kinds and the values are the same
  number_kept : (after : Job → List Condition) → first (conditions_before edited ++ after (job_of edited)) ≡ first (conditions_before s ++ after (job_of s))
  number_kept after = go (eq-zero-or-pos (first (conditions_to5 s)))
    where
      later : List ℕ → List Condition
      later t = refusal Numbers.bad_kinds (bad_kinds t) ∷ after (job_of t)

      same : conditions_to5 edited ≡ conditions_to5 s
      same = to5_kept s i b stray.from

      go : (first (conditions_to5 s) ≡ 0) ⊎ (0 < first (conditions_to5 s)) → first (conditions_to5 edited ++ later edited) ≡ first (conditions_to5 s ++ later s)
      go (inl clear) =
          let extents : bad_extents s ≡ false = first_clear (conditions_to5 s) (to5_numbered s) clear 4 in
          rw (values_kept extents, kinds_kept s i b stray.from stray extents) (ap (λ cs. first (cs ++ later s)) same)
      go (inr h) =
          first_stands (conditions_to5 edited) (later edited) (omega (arith, h, ap first same))
          ∙ (ap first same ∙ sym (first_stands (conditions_to5 s) (later s) h))

  -- a byte that no section covers: before, it could change and no answer told; now the answer is the first of 1 to 5 that holds, else 28
  pub stray_closed : Closed s (set s i b)
  stray_closed =
      record {
        number_before = number_kept;
        values_before = values_kept;
        place_before = place_kept s i b stray.from stray;
        refused = λ after. stray_number_lem s after i stray;
        refused_too = λ after.
            stray_number_lem edited after i (stays s i b stray.from stray)
            ∙ ap (λ cs. first (cs ++ (refusal Numbers.stray_byte true ∷ []))) (to5_kept s i b stray.from);
      }
