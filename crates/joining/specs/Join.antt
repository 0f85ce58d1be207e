-- Request 101: what joining two sheets gives, for every two lists of bytes and every lent buffer.
use Rattle.std.specs.Prelude.{ℕ, ◌+◌, ◌≡◌, Bool, false, cond, not, List, [], ◌∷◌, ◌++◌, ltb, eqb, length, get_or, take}
use Rattle.lists.specs.Lists.{some, tabulate}
use Rattle.refusals.specs.Numbers
use Rattle.refusals.specs.Refusals.{Condition, refusal, first}
use Rattle.units.specs.Limits.{cost_limit, task_limit}
use Rattle.job.specs.Job.{weight_at, total}
use Rattle.job.specs.declared.Platform.{Platform}
use Rattle.job.specs.declared.Job.{Job}
use Rattle.kinds.specs.Kinds.{platform_kind, weights_kind, weights_length, index_of}
use Rattle.header.specs.Header.{offset}
use Rattle.extents.specs.Extents.{stray_byte}
use Rattle.sheet.specs.Reading.{job_of, sheet_conditions, sheet_refusal, reading_of}
use Rattle.writing.specs.Form.{platform_start, weights_start, platform_fields, form_one, written}
use Rattle.joining.specs.declared.Joined.{Joined}

-- the weights of a sheet's tasks, in order
abbrev pub task_weights : Job → List ℕ
task_weights job = take job.tasks job.weights

-- 'first sheet's weights, then the second's'
abbrev pub joined_weights : Job → Job → List ℕ
joined_weights a b = task_weights a ++ task_weights b

-- 'with one platform section', 'in form 1'
unfoldable pub joined_sheet : Job → Job → List ℕ
joined_sheet a b = form_one a.platform (joined_weights a b)

-- the values that the joined sheet stands for; weights past the last task are 0
unfoldable pub joined_job : Job → Job → Job
joined_job a b =
    record {
      tasks = a.tasks + b.tasks;
      platform = a.platform;
      weights = tabulate task_limit (weight_at (joined_weights a b));
    }

-- field i of the two differs
abbrev pub differs : Platform → Platform → ℕ → Bool
differs p q i = not (eqb (get_or (platform_fields p) i 0) (get_or (platform_fields q) i 0))

-- the seven platform fields do not differ
unfoldable pub same_platform : Platform → Platform → Bool
same_platform p q = not (some (length (platform_fields p)) (differs p q))

-- 3, of both sheets together: more than 64 tasks
unfoldable pub too_many : Job → Job → Bool
too_many a b = ltb task_limit (a.tasks + b.tasks)

-- 7, of both together: a joined total of weights above 2^30
unfoldable pub too_heavy : Job → Job → Bool
too_heavy a b = ltb cost_limit (total a.weights a.tasks + total b.weights b.tasks)

-- 11: a buffer of `room` bytes is shorter than the joined sheet
unfoldable pub too_short : Job → Job → (room : ℕ) → Bool
too_short a b room = ltb room (length (joined_sheet a b))

-- what is asked of two sheets that are accepted each: 26, 3, 7, 11
abbrev pub both_conditions : Job → Job → (room : ℕ) → List Condition
both_conditions a b room =
    refusal Numbers.other_platform (not (same_platform a.platform b.platform))
    ∷ refusal Numbers.bad_count (too_many a b)
    ∷ refusal Numbers.bad_value (too_heavy a b)
    ∷ refusal Numbers.short_buffer (too_short a b room)
    ∷ []

-- checks 1 to 8 of the first sheet s, then of the second sheet t, then of the two
abbrev pub join_conditions : (s t : List ℕ) → (room : ℕ) → List Condition
join_conditions s t room = sheet_conditions s ++ (sheet_conditions t ++ both_conditions (job_of s) (job_of t) room)

-- the first of them that holds, or 0
unfoldable pub join_refusal : (s t : List ℕ) → (room : ℕ) → ℕ
join_refusal s t room = first (join_conditions s t room)

-- the answer r and the buffer after, where `decided` is the number that the checks give. Refused: length 0 and no byte written.
-- Accepted: the first bytes are the sheet's, as many as it has, and later bytes are never touched
pub record Writes (decided : ℕ) (sheet before after : List ℕ) (r : Joined) : Type 0 where
  pub number : r.number ≡ decided
  pub size : r.length ≡ cond (eqb decided Numbers.accepted) (length sheet) 0
  pub buffer : after ≡ cond (eqb decided Numbers.accepted) (written sheet before) before

-- the answer to the sheets s and t, with the lent buffer before and after
abbrev pub Joins : (s t before after : List ℕ) → Joined → Type 0
Joins s t before after r = Writes (join_refusal s t (length before)) (joined_sheet (job_of s) (job_of t)) before after r

-- a refused join: this number, length 0 and no byte written
pub record JoinRefused (number : ℕ) (before after : List ℕ) (r : Joined) : Type 0 where
  pub numbered : r.number ≡ number
  pub no_length : r.length ≡ 0
  pub untouched : after ≡ before

-- what an accepted join of s and t means for the bytes written: 'Reading the joined sheet gives just those values'
pub record JoinReads (s t sheet : List ℕ) : Type 0 where
  -- both were accepted
  pub first_read : sheet_refusal s ≡ Numbers.accepted
  pub second_read : sheet_refusal t ≡ Numbers.accepted
  -- so is the sheet, and its values are the first sheet's weights, then the second's, and the first's platform, which is the second's too
  pub reading : reading_of sheet ≡ record { number = Numbers.accepted; job = joined_job (job_of s) (job_of t) }
  pub one_platform : (job_of s).platform ≡ (job_of t).platform
  -- 'platform at 20, weights at 49', and nothing after them
  pub platform_at : offset sheet (index_of sheet platform_kind) ≡ platform_start
  pub weights_at : offset sheet (index_of sheet weights_kind) ≡ weights_start
  pub ends : length sheet ≡ weights_start + weights_length ((job_of s).tasks + (job_of t).tasks)
  -- 'no gaps': each byte from 20 on is in a section
  pub no_stray : stray_byte sheet ≡ false
