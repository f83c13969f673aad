-- What has been read lies within the room.
use Rattle.std.proofs.Common.{◌≤◌, length}
use Rattle.verdicts.proofs.reading.read_full.Given as goal

abbrev pub invariant-loop : goal.invariant-loop
invariant-loop g l = l.n ≤ length l.room
