-- `joining::join` meets its contract. The first sheet's refusal, then the second's, then what is asked of both; otherwise their jobs are joined. Assumes
-- nothing.
use Rattle.joining.proofs.Parts.{both_accepted}
use Rattle.joining.proofs.Answers.{writes_refused, reading_refused, first_refused, second_refused, both_read}
use Rattle.sheet.proofs.Readings.{read_accepted}
use Rattle.joining.proofs.join.Goals as goal

pub returns-in_default : goal.returns-in_default
returns-in_default c =
    let said = reading_refused _ c.in_default.is c.read_job-reading.ensures c.number_of.ensures in
    rw c.refused.ensures (writes_refused _ _ (first_refused _ _ _ said.0 said.1) said.1)

pub returns-in_default-other : goal.returns-in_default-other
returns-in_default-other c =
    let first = read_accepted _ _ c.in-Ok.is c.read_job-reading.ensures in
    let said = reading_refused _ c.in_default-other.is c.read_job-other.ensures c.number_of-in_default-other.ensures in
    rw c.refused-in_default-other.ensures (writes_refused _ _ (second_refused _ _ _ first.0 said.0 said.1) said.1)

pub join_jobs-requires : goal.join_jobs-requires
join_jobs-requires c =
    let first = read_accepted _ _ c.in-Ok.is c.read_job-reading.ensures in
    let second = read_accepted _ _ c.in-Ok-other.is c.read_job-other.ensures in
    rw (first.1, second.1) (both_accepted _ _ first.0 second.0)

pub returns : goal.returns
returns c =
    let first = read_accepted _ _ c.in-Ok.is c.read_job-reading.ensures in
    let second = read_accepted _ _ c.in-Ok-other.is c.read_job-other.ensures in
    rw (← (both_read _ _ _ first.0 second.0)) (rw (first.1, second.1) at c.join_jobs.ensures)
