-- Each arm's number is the list's eight at its key. Assumes nothing.
use Rattle.std.proofs.Common.{refl}
use Rattle.laws.proofs.Keys.{at_key}
use Rattle.names.specs.Names.{entries}
use Rattle.names.specs.Packed.{lengths, eight_of}
use Rattle.names.proofs.lists.eight_lengths.Goals as goal

pub returns-in-0 : goal.returns-in-0
unfolding lengths entries
returns-in-0 c = at_key (eight_of lengths) c.in-0.is refl

pub returns-in-1 : goal.returns-in-1
unfolding lengths entries
returns-in-1 c = at_key (eight_of lengths) c.in-1.is refl

pub returns-in-2 : goal.returns-in-2
unfolding lengths entries
returns-in-2 c = at_key (eight_of lengths) c.in-2.is refl

pub returns-in-3 : goal.returns-in-3
unfolding lengths entries
returns-in-3 c = at_key (eight_of lengths) c.in-3.is refl

pub returns-in-4 : goal.returns-in-4
unfolding lengths entries
returns-in-4 c = at_key (eight_of lengths) c.in-4.is refl

pub returns-in-5 : goal.returns-in-5
unfolding lengths entries
returns-in-5 c = at_key (eight_of lengths) c.in-5.is refl

pub returns-in-6 : goal.returns-in-6
unfolding lengths entries
returns-in-6 c = at_key (eight_of lengths) c.in-6.is refl

pub returns-in-7 : goal.returns-in-7
unfolding lengths entries
returns-in-7 c = at_key (eight_of lengths) c.in-7.is refl

pub returns-in-8 : goal.returns-in-8
unfolding lengths entries
returns-in-8 c = at_key (eight_of lengths) c.in-8.is refl

pub returns-in-9 : goal.returns-in-9
unfolding lengths entries
returns-in-9 c = at_key (eight_of lengths) c.in-9.is refl

pub returns-in-10 : goal.returns-in-10
unfolding lengths entries
returns-in-10 c = at_key (eight_of lengths) c.in-10.is refl
