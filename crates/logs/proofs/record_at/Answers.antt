-- `logs::record_at` meets its contract. A record begins within the log; it is 5 bytes long, or what is left of the log. Assumes nothing.
use native.Mathlib.Omega.{arith}
use Rattle.logs.specs.Log.{record_count}
use Rattle.logs.proofs.Records.{record_rest, record_whole}
use Rattle.logs.proofs.record_at.Goals as goal

pub overflow_mul-start : goal.overflow_mul-start
unfolding record_count
overflow_mul-start c = omega arith

pub overflow_sub-log : goal.overflow_sub-log
unfolding record_count
overflow_sub-log c = omega arith

pub slice_bounds-result-count : goal.slice_bounds-result-count
unfolding record_count
slice_bounds-result-count c = omega arith

pub slice_bounds-result-start : goal.slice_bounds-result-start
unfolding record_count
slice_bounds-result-start c = omega arith

pub returns-then-log-start-lt-RECORD_LENGTH : goal.returns-then-log-start-lt-RECORD_LENGTH
returns-then-log-start-lt-RECORD_LENGTH c =
    let args = c.args in
    let if1 = c.if-log-start-lt-RECORD_LENGTH in
    record_rest args.log.now args.i if1.true

pub returns : goal.returns
returns c =
    let args = c.args in
    record_whole args.log.now args.i
