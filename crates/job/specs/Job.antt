-- The values of a job sheet, over plain numbers: its tasks, the weight of a stretch, and which stretches are allowed.
use Rattle.std.specs.Prelude.{ℕ, zero, suc, ◌+◌, ◌-◌, ◌*◌, Bool, List, leb, get_or, replicate}
use Rattle.units.specs.Unit.{up, exponent_limit}
use Rattle.units.specs.Limits.{task_limit}
use Rattle.job.specs.declared.Platform.{Platform}
use Rattle.job.specs.declared.Job.{Job}

-- the values with every field 0, which a refusal gives
unfoldable pub zero_job : Job
zero_job =
    record {
      tasks = 0;
      platform = record { failstop = 0; silent = 0; cd = 0; cm = 0; v = 0; rd = 0; rm = 0 };
      weights = replicate task_limit 0;
    }

-- the weight of task j + 1
abbrev pub weight_at : List ℕ → ℕ → ℕ
weight_at w j = get_or w j 0

-- the weight of the first n tasks
unfoldable pub total : List ℕ → ℕ → ℕ
total w zero = 0
total w (suc n) = total w n + weight_at w n

-- W, the weight of the stretch from position u to position v
unfoldable pub between : List ℕ → ℕ → ℕ → ℕ
between w u v = total w v - total w u

-- y_f and y_s: the rate times W, divided by 2^24, rounded up. A rate r means r / 2^48 errors per tick, so r × W / 2^24 is in units of 2^-24
abbrev pub exponent : ℕ → ℕ → ℕ
exponent rate W = up (rate * W)

-- the stretch of weight W is allowed: y_s + y_f <= 2^26
unfoldable pub is_allowed : Platform → ℕ → Bool
is_allowed p W = leb (exponent p.silent W + exponent p.failstop W) exponent_limit

-- the stretch from u to v is allowed
unfoldable pub stretch_allowed : Job → ℕ → ℕ → Bool
stretch_allowed job u v = is_allowed job.platform (between job.weights u v)
