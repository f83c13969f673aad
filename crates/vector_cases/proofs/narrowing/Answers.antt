-- The tests are the definition's; the number that is wanted fits 64 bits, as it is read back.
use Rattle.std.proofs.Common.{rules}
use mir.Syntax.{w64}
use mir.Val.{SFits}
use Rattle.vector_cases.proofs.Laws.{too_long, in_bytes, in_words}
use Rattle.vector_cases.proofs.narrowing.Goals as goal

pub returns-then-length : goal.returns-then-length
returns-then-length c = too_long _ _ _ c.read-wanted.ensures c.read.ensures c.read-length.ensures c.if-length.true

pub returns-then-to_bytes : goal.returns-then-to_bytes
returns-then-to_bytes c =
    let fits : SFits w64 c.read-wanted.result.value = search rules in
    in_bytes _ _ _ c.read-wanted.ensures c.read.ensures c.read-length.ensures c.if-length.false fits c.as_slice.ensures c.expect.ensures
    c.if-to_bytes.true c.tray_narrow_bytes-number.ensures c.written.ensures

pub returns : goal.returns
returns c =
    let fits : SFits w64 c.read-wanted.result.value = search rules in
    in_words _ _ _ c.read-wanted.ensures c.read.ensures c.read-length.ensures c.if-length.false fits c.as_slice-2.ensures c.expect-2.ensures
    c.if-to_bytes.false c.tray_narrow-number.ensures c.written-2.ensures
