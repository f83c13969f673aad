-- The byte at a place is that of its eight. Assumes nothing.
use Rattle.std.proofs.Common.{◌∙◌}
use Rattle.names.specs.Names.{entries}
use Rattle.names.specs.Packed.{lengths}
use Rattle.names.proofs.Eights.{byte_at}
use Rattle.names.proofs.lists.length_of.Goals as goal

pub returns : goal.returns
unfolding lengths entries
returns c = c.from.ensures ∙ byte_at lengths tt _ c.eight_lengths.ensures c.byte.ensures
