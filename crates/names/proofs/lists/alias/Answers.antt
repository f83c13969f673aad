-- The byte at a place is that of its eight. Assumes nothing.
use Rattle.std.proofs.Common.{◌∙◌}
use Rattle.names.specs.Packed.{aliased}
use Rattle.names.proofs.Eights.{byte_at}
use Rattle.names.proofs.lists.alias.Goals as goal

pub returns : goal.returns
unfolding aliased
returns c = c.from.ensures ∙ byte_at aliased tt _ c.eight_aliased.ensures c.byte.ensures
