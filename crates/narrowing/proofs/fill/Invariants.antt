-- The samples that are passed are made of the words of the narrowed picture.
use Rattle.std.proofs.Common.{◌≡◌, map, take}
use Rattle.narrowing.specs.Narrow.{narrowed_of}
use Rattle.narrowing.proofs.fill.Given as goal

abbrev pub invariant-loop-i : goal.invariant-loop-i
invariant-loop-i g l = take l.i l.output ≡ take l.i (map g.S.Sample.made_of (narrowed_of l.channels l.input))
