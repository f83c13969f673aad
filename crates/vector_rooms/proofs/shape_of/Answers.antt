-- Each number is read at the place after the one before it; as it is read back from its bits it is the same.
use Rattle.std.proofs.Common.{rules}
use mir.Facts.{to_z-of_z}
use mir.Syntax.{w64}
use mir.Val.{SFits}
use Rattle.vector_rooms.specs.Rooms.{height_at, channels_at}
use Rattle.vector_rooms.proofs.shape_of.Goals as goal

pub returns : goal.returns
unfolding height_at channels_at
returns c =
    let w : SFits w64 c.read-width.result.value = search rules in
    let h : SFits w64 c.read-height.result.value = search rules in
    let k : SFits w64 c.read-channels.result.value = search rules in
    rw (to_z-of_z w, to_z-of_z h, to_z-of_z k) (rw (c.read-channels.ensures, c.read-height.ensures, c.read-width.ensures))
