-- `output::run_text` meets its contract. The seven lines are no longer than the room. Assumes nothing.
use native.Mathlib.Omega.{arith}
use Rattle.output.proofs.Lengths.{Words, room_run, room_holds, run_fits}
use Rattle.output.proofs.run_text.Goals as goal

pub put_run-requires : goal.put_run-requires
put_run-requires c =
    let words : Words c.args.place.sums =
    record { kept = omega arith; redone = omega arith; verify = omega arith; saves = omega arith; recovery = omega arith } in
    let fits = run_fits c.args.place (omega arith) words in
    room_run c.new-text.ensures (omega arith) fits

pub returns : goal.returns
returns c =
    let words : Words c.args.place.sums =
    record { kept = omega arith; redone = omega arith; verify = omega arith; saves = omega arith; recovery = omega arith } in
    let fits = run_fits c.args.place (omega arith) words in
    room_holds c.new-text.ensures (room_run c.new-text.ensures (omega arith) fits) c.put_run.ensures
