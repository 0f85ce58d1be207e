-- The state is reached by the calls of the pairs so far.
use Rattle.std.proofs.Common.{◌-◌, ◌*◌}
use Rattle.follow.specs.Prints.{words_after}
use Rattle.follow.proofs.Turns.{Through}
use Rattle.follow.proofs.call_in_turn.Given as goal

abbrev pub invariant-loop-pair : goal.invariant-loop-pair
invariant-loop-pair l = Through l.initial.state l.state (words_after l.fn.count) (words_after l.fn.count - 2 * l.pair)
