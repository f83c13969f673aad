-- What the match found is what the number names. A signed local holds bits, and `to_z-of_z` reads the number back. Assumes nothing.
use Rattle.std.proofs.Common.{sym, ap, ◌∙◌, to_z-of_z}
use Rattle.laws.proofs.Signed.{from_zero}
use Rattle.operators.specs.Numbers.{op_of}
use Rattle.operators.proofs.Numbers.{found}
use Rattle.operators.proofs.CompositeOp.from_number.Goals as goal

pub returns-in-Some : goal.returns-in-Some
returns-in-Some c =
    c.carried.ensures ∙ found _ c.lookup.result (rw (to_z-of_z c.ranges.n) at c.lookup.ensures) c.in-Some.is
    ∙ sym (ap op_of (from_zero c.ranges.n c.if-n-lt0.false))
