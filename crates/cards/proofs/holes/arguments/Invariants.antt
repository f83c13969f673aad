-- k arguments are in the list, and with those that are left of the text they are all.
use Rattle.std.proofs.Common.{◌-◌, ◌≡◌}
use Rattle.layers.specs.Limits.{arg_words}
use Rattle.cards.specs.Forms.{read_words, as_arguments}
use Rattle.cards.specs.Steps.{found_in}
use Rattle.cards.proofs.Arguments.{left}
use Rattle.cards.proofs.holes.arguments.Given as goal

abbrev pub invariant-loop-k : goal.invariant-loop-k
invariant-loop-k l = found_in l.initial.args (as_arguments (read_words arg_words l.fn.s)) ≡ left l.args l.k (read_words (arg_words - l.k) l.rest)
