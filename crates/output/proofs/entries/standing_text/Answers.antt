-- `output::entries::standing_text` meets its contract. The lines of the run, then one line for each entry that is held; all of them fit the room. Assumes nothing.
use native.Mathlib.Omega.{arith}
use lib.ListN.{length-take}
use Rattle.std.proofs.Common.{◌≡◌, ◌≤◌, length, take}
use Rattle.names.specs.Names.{name_limit}
use Rattle.output.specs.Texts.{standing_text}
use Rattle.output.proofs.Lengths.{Words, room_run, run_fits}
use Rattle.output.proofs.HeldLines.{entries_after, standing_holds, shown_entries}
use Rattle.output.proofs.entries.standing_text.Goals as goal

pub put_run-requires : goal.put_run-requires
put_run-requires c =
    let place = c.args.place in
    let words : Words place.sums =
    record { kept = omega arith; redone = omega arith; verify = omega arith; saves = omega arith; recovery = omega arith } in
    room_run c.new-text.ensures (omega arith) (run_fits place (omega arith) words)

pub put_entries-requires : goal.put_entries-requires
put_entries-requires c =
    let place = c.args.place in
    let words : Words place.sums =
    record { kept = omega arith; redone = omega arith; verify = omega arith; saves = omega arith; recovery = omega arith } in
    let entries = c.args.names.entries in
    let few : length (take c.entries_held-n.result entries) ≤ name_limit =
    omega (arith, c.entries_held-n.ensures, length-take c.entries_held-n.result entries) in
    entries_after c.new-text.ensures (omega arith) (run_fits place (omega arith) words) few c.put_run.ensures

pub returns : goal.returns
unfolding standing_text
returns c =
    let place = c.args.place in
    let words : Words place.sums =
    record { kept = omega arith; redone = omega arith; verify = omega arith; saves = omega arith; recovery = omega arith } in
    let names = c.args.names in
    let long : length names.entries ≡ name_limit = omega arith in
    let held = c.entries_held-n in
    let few : length (take held.result names.entries) ≤ name_limit =
    omega (arith, held.ensures, length-take held.result names.entries) in
    rw (← (shown_entries names.count names.entries _ long held.ensures))
    (standing_holds c.new-text.ensures (omega arith) (run_fits place (omega arith) words) few c.put_run.ensures c.put_entries.ensures)
