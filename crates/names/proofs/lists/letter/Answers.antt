-- The byte at a place is that of its eight. Assumes nothing.
use Rattle.names.specs.Names.{entries}
use Rattle.names.specs.Packed.{letters}
use Rattle.names.proofs.Eights.{byte_at}
use Rattle.names.proofs.lists.letter.Goals as goal

pub returns : goal.returns
unfolding letters entries
returns c = byte_at letters tt _ c.eight_letters.ensures c.byte.ensures
