-- The tests are the definition's; the numbers that are read back fit 64 bits.
use Rattle.std.proofs.Common.{rules}
use Rattle.vector_cases.proofs.Laws.{output_too_long, output_lent}
use Rattle.vector_cases.proofs.composed.Goals as goal

pub returns-then-length : goal.returns-then-length
returns-then-length c = output_too_long _ _ _ c.read-length.ensures c.if-length.true

pub returns : goal.returns
returns c =
    output_lent _ _ _ c.read-length.ensures c.if-length.false (search rules) (search rules) (search rules) c.tray_compose-number.ensures
    c.expect.ensures c.written.ensures
