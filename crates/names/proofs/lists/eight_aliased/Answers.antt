-- Each arm's number is the list's eight at its key. Assumes nothing.
use Rattle.std.proofs.Common.{refl}
use Rattle.laws.proofs.Keys.{at_key}
use Rattle.names.specs.Packed.{aliased, eight_of}
use Rattle.names.proofs.lists.eight_aliased.Goals as goal

pub returns-in-0 : goal.returns-in-0
unfolding aliased
returns-in-0 c = at_key (eight_of aliased) c.in-0.is refl

pub returns-in-1 : goal.returns-in-1
unfolding aliased
returns-in-1 c = at_key (eight_of aliased) c.in-1.is refl
