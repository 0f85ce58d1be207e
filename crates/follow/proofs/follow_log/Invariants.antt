-- The state is reached by the pieces read so far, and the buffer keeps its length.
use Rattle.std.proofs.Common.{◌≡◌, length}
use Rattle.follow.proofs.Pieces.{Reached}
use Rattle.follow.proofs.follow_log.Given as goal

abbrev pub invariant-loop-i : goal.invariant-loop-i
invariant-loop-i l = record { long : length l.piece ≡ 65535; reached : Reached l.initial.state l.state }
