-- Limits of document 01: in ticks, and of tasks.
use Rattle.std.specs.Prelude.{ℕ, ◌+◌, ◌-◌, ◌^◌}

-- the limit of costs, of weights and of their total: costs are 0 to 2^30 ticks, each weight 1 to 2^30, and the weights together at most 2^30
abbrev pub cost_limit : ℕ
cost_limit = 2 ^ 30

-- 'none': the shortest time that is too slow
abbrev pub none : ℕ
none = 2 ^ 34

-- the longest time that is not too slow
abbrev pub time_limit : ℕ
time_limit = none - 1

-- the most tasks; a position is 0, the start, or the end of a task
abbrev pub task_limit : ℕ
task_limit = 64

abbrev pub positions : ℕ
positions = task_limit + 1
