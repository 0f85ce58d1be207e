-- Request 105, call by call: what a sheet with a stray byte gets.
use Rattle.std.specs.Prelude.{ℕ, ◌≡◌, List, Result, Err}
use Rattle.refusals.specs.Numbers
use Rattle.refusals.specs.Answers.{refused}
use Rattle.refusals.specs.declared.Answer.{Answer}
use Rattle.sheet.specs.Lookup.{found_of}
use Rattle.sheet.specs.Reading.{sheet_refusal, refused_reading, reading_of, Reads}
use Rattle.job.specs.declared.Job.{Job}
use Rattle.refusals.specs.declared.Refusal.{Refusal}
use Rattle.refusals.specs.declared.Refusal.TheVariants.{StrayByte}
use Rattle.joining.specs.Join.{Joins, JoinRefused}
use Rattle.joining.specs.declared.Joined.{Joined}
use Rattle.pricing.specs.Price.{price_of}
use Rattle.costs.specs.declared.Powers.{Powers}
use Rattle.answers.specs.Promise.{Refused}
use Rattle.planning.specs.Promise.{Plans}
use Rattle.planning.specs.Energy.{PlansByEnergy}
use Rattle.engine.specs.Promise.{PlansAsPrinted}
use Rattle.starting.specs.Start.{refused_start, start_of}

-- every call refuses the sheet s by 28: a lookup, a reading, in numbers and as the code answers it, a price, a plan, a plan by energy, a plan by the equations as printed, a start,
-- and a join, of which s is the first sheet, or the second after one that is accepted
pub record StrayRefused (s : List ℕ) : Type 0 where
  pub lookup : (k : ℕ) → found_of s k ≡ record { number = Numbers.stray_byte; start = 0; size = 0 }
  pub read_job : reading_of s ≡ refused_reading Numbers.stray_byte
  pub read : (r : Result Job Refusal) → Reads s r → r ≡ Err StrayByte
  pub price : (marks : List ℕ) → price_of s marks ≡ refused Numbers.stray_byte
  pub plan : (before after : List ℕ) (r : Answer) → Plans s before after r → Refused Numbers.stray_byte before after r
  pub energy : (powers : Powers) (before after : List ℕ) (r : Answer) → PlansByEnergy powers s before after r → Refused Numbers.stray_byte before after r
  pub printed : (before after : List ℕ) (r : Answer) → PlansAsPrinted s before after r → Refused Numbers.stray_byte before after r
  pub start : (marks : List ℕ) → start_of s marks ≡ refused_start Numbers.stray_byte
  pub join_first : (t before after : List ℕ) (r : Joined) → Joins s t before after r → JoinRefused Numbers.stray_byte before after r
  pub join_second : (t before after : List ℕ) (r : Joined) → sheet_refusal t ≡ Numbers.accepted → Joins t s before after r
      → JoinRefused Numbers.stray_byte before after r
