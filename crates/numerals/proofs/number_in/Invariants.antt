-- What is left spells, after the number so far, what the whole text spells, and the number is below 16 to the power of the digits read.
use Rattle.std.proofs.Common.{◌≡◌, ◌<◌, ◌^◌}
use Rattle.numerals.specs.Digits.{number_in}
use Rattle.numerals.proofs.Reading.{left}
use Rattle.numerals.proofs.number_in.Given as goal

abbrev pub invariant-loop-b : goal.invariant-loop-b
invariant-loop-b l = record { small : l.n < 16 ^ l.b-index; as_whole : number_in l.base l.s ≡ left l.base l.s l.n l.b-index }
