-- The values of an accepted sheet stand in its sections, and two accepted sheets give two jobs with a weight for each task. Assumes nothing.
use Prim.Native.Nat.{ℕ, ◌≤◌}
use mathlib.Core.Path.{◌≡◌, refl}
use mathlib.Core.List.{List}
use lib.ListN.{length, take, drop}
use Rattle.lists.proofs.Lists.{length_tabulate}
use Rattle.header.specs.Header.{tasks, offset, section}
use Rattle.kinds.specs.Kinds.{platform_kind, weights_kind, weights_length, index_of}
use Rattle.layout.proofs.Sections.{layout_weights}
use Rattle.sheet.specs.Reading.{platform_of, weights_of, job_of, sheet_refusal}
use Rattle.sheet.proofs.Readings.{sheet_layout, sheet_sound}
use Rattle.joining.specs.Working.Ready.{Both}

-- the values of an accepted sheet: its weights are the fields from where their section starts
pub sheet_job : (s : List ℕ) → sheet_refusal s ≡ 0 → job_of s ≡ record {
  tasks = tasks s;
  platform = platform_of (section s (index_of s platform_kind));
  weights = weights_of (take (weights_length (tasks s)) (drop (offset s (index_of s weights_kind)) s)) (tasks s);
}
unfolding job_of section
sheet_job s e = rw (layout_weights s (sheet_layout s e)) refl

-- an accepted sheet has a weight for each task
pub sheet_held : (s : List ℕ) → sheet_refusal s ≡ 0 → (job_of s).tasks ≤ length (job_of s).weights
unfolding job_of weights_of
sheet_held s e = rw (length_tabulate) (sheet_sound s e).few_tasks

-- two accepted sheets give two such jobs
pub both_accepted : (s t : List ℕ) → sheet_refusal s ≡ 0 → sheet_refusal t ≡ 0 → Both (job_of s) (job_of t)
both_accepted s t e f =
    record {
      few_first = (sheet_sound s e).few_tasks;
      few_second = (sheet_sound t f).few_tasks;
      held_first = sheet_held s e;
      held_second = sheet_held t f;
    }
