-- What a planner gives for a chain and a lent buffer: demand 3, with the refusals of demand 1 in their order. The chain may be one of times or of energies, and the
-- checks before it whatever a planner tests.
use Rattle.std.specs.Prelude.{ℕ, ◌≤◌, ◌<◌, ◌≡◌, List, ◌⊎◌, ◌↔◌, length, take, drop}
use Rattle.units.specs.Limits.{time_limit}
use Rattle.refusals.specs.Numbers
use Rattle.refusals.specs.declared.Answer.{Answer}
use Rattle.chain.specs.Chain.{Chain}
use Rattle.chain.specs.Time.{Marks, D}
use Rattle.chain.specs.Plan.{Allowed, IsPlan}
use Rattle.marks.specs.Marks.{marks_of}

-- 'every allowed setting takes more than 2^34 - 1 ticks'
abbrev pub AllSlow : Chain → ℕ → Type 0
AllSlow c n = (g : Marks) → Allowed c n g → time_limit < D c g n

-- a refused plan gives time 0 and writes no byte
pub record Refused (number : ℕ) (before after : List ℕ) (r : Answer) : Type 0 where
  pub numbered : r.number ≡ number
  pub no_time : r.time ≡ 0
  pub untouched : after ≡ before

-- a result: 'the plan's marks are the first n bytes of the buffer', and later bytes are never touched
pub record Planned (c : Chain) (n : ℕ) (before after : List ℕ) (r : Answer) : Type 0 where
  pub numbered : r.number ≡ Numbers.accepted
  pub in_time : r.time ≤ time_limit
  pub plan : IsPlan c n (marks_of (take n after)) r.time
  pub later : drop n after ≡ drop n before
  pub long : length after ≡ length before

-- where the buffer holds the marks: 13 where every allowed setting is too slow, else the plan
pub record PlansChain (c : Chain) (n : ℕ) (before after : List ℕ) (r : Answer) : Type 0 where
  pub slow : AllSlow c n → Refused Numbers.too_slow before after r
  pub planned : (AllSlow c n → ⊥) → Planned c n before after r

-- there is a plan whose time is in the limit
pub record HasPlan (c : Chain) (n : ℕ) : Type 0 where
  pub marks : Marks
  pub time : ℕ
  pub plan : IsPlan c n marks time
  pub in_time : time ≤ time_limit

-- what the number of such an answer says: 13 exactly when every allowed setting is too slow, 0 exactly when there is a plan, and then it is that plan; no other number
pub record AnswerSays (c : Chain) (n : ℕ) (before after : List ℕ) (r : Answer) : Type 0 where
  pub slow : (r.number ≡ Numbers.too_slow) ↔ AllSlow c n
  pub some_plan : (r.number ≡ Numbers.accepted) ↔ HasPlan c n
  pub planned : r.number ≡ Numbers.accepted → Planned c n before after r
  pub no_other : (r.number ≡ Numbers.too_slow) ⊎ (r.number ≡ Numbers.accepted)

-- the answer r with the lent buffer, before and after, where `refusal` is the first number that its checks give: that refusal, then 11, then 13, else the plan
pub record PlansChecked (refusal : ℕ) (c : Chain) (n : ℕ) (before after : List ℕ) (r : Answer) : Type 0 where
  pub checked : 0 < refusal → Refused refusal before after r
  pub short : refusal ≡ 0 → length before < n → Refused Numbers.short_buffer before after r
  pub plans : refusal ≡ 0 → n ≤ length before → PlansChain c n before after r

-- no check of some list holds, of which `refusal` is the first number given, and the buffer holds the marks; with all that a planner tests, no refusal but 13 is left
pub record Free (refusal n : ℕ) (before : List ℕ) : Type 0 where
  pub clear : refusal ≡ 0
  pub room : n ≤ length before

-- what a result says: nothing stood against it, and it is the plan
pub record ResultSays (refusal : ℕ) (c : Chain) (n : ℕ) (before after : List ℕ) (r : Answer) : Type 0 where
  pub free : Free refusal n before
  pub planned : Planned c n before after r

-- what 13 says, where no check has that number: nothing else stood against a result, and every allowed setting is too slow
pub record SlowSays (refusal : ℕ) (c : Chain) (n : ℕ) (before : List ℕ) : Type 0 where
  pub free : Free refusal n before
  pub all_slow : AllSlow c n
