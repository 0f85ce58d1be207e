-- What reading a sheet gives: its values, or the first of checks 1 to 8 that holds.
use Rattle.std.specs.Prelude.{ℕ, ◌+◌, ◌*◌, cond, List, ◌++◌, ltb, eqb, Result}
use Rattle.lists.specs.Lists.{tabulate}
use Rattle.refusals.specs.Refusals.{Condition, first}
use Rattle.refusals.specs.Checks.{Tells}
use Rattle.refusals.specs.declared.Refusal.{Refusal}
use Rattle.units.specs.Limits.{task_limit}
use Rattle.job.specs.Job.{zero_job}
use Rattle.job.specs.Checks.{job_conditions}
use Rattle.job.specs.declared.Platform.{Platform}
use Rattle.job.specs.declared.Job.{Job}
use Rattle.fields.specs.Bytes.{field_at, field_length}
use Rattle.kinds.specs.Kinds.{platform_kind, weights_kind, index_of}
use Rattle.header.specs.Header.{tasks, offset, section}
use Rattle.layout.specs.Layout.{layout_conditions}

-- field i of a section, from 0: they follow its kind byte
abbrev pub section_field : List ℕ → ℕ → ℕ
section_field p i = field_at p (1 + field_length * i)

-- the seven fields of a platform section, in 01's order
unfoldable pub platform_of : List ℕ → Platform
platform_of p =
    record {
      failstop = section_field p 0;
      silent = section_field p 1;
      cd = section_field p 2;
      cm = section_field p 3;
      v = section_field p 4;
      rd = section_field p 5;
      rm = section_field p 6;
    }

-- the weights of a weights section of n tasks, in order, and 0 past task n
unfoldable pub weights_of : List ℕ → ℕ → List ℕ
weights_of p n = tabulate task_limit (λ j. cond (ltb j n) (section_field p j) 0)

-- the values of a sheet that passes checks 1 to 6
unfoldable pub job_of : List ℕ → Job
job_of s =
    record {
      tasks = tasks s;
      platform = platform_of (section s (index_of s platform_kind));
      weights = weights_of (section s (index_of s weights_kind)) (tasks s);
    }

-- checks 1 to 8
abbrev pub sheet_conditions : List ℕ → List Condition
sheet_conditions s = layout_conditions s ++ job_conditions (job_of s)

-- the first of checks 1 to 8 that holds, or 0
unfoldable pub sheet_refusal : List ℕ → ℕ
sheet_refusal s = first (sheet_conditions s)

-- a reading in numbers: 0 and the values, or the number of a refusal and values that are all 0
pub record JobReading : Type 0 where
  pub number : ℕ
  pub job : Job

-- a refused reading: its number, and values that are all 0
abbrev pub refused_reading : ℕ → JobReading
refused_reading number = record { number = number; job = zero_job }

-- what reading gives: 0 and the values, or the first refusal that holds
unfoldable pub reading_of : List ℕ → JobReading
reading_of s = record { number = sheet_refusal s; job = cond (eqb (sheet_refusal s) 0) (job_of s) zero_job }

-- what reading the sheet s tells: its values, or the number of the first of checks 1 to 8 that holds
abbrev pub Reads : List ℕ → Result Job Refusal → Type 0
Reads s r = Tells r (reading_of s).number (reading_of s).job
