-- The word's write by the parity of the picture.
use Rattle.std.proofs.Common.{◌<◌, ◌+◌, sym, arith, eq-eqb}
use borrow.Author.Tests.{ne_eqb}
use Rattle.job.proofs.Runs.{word_of}
use Rattle.job.proofs.pixel.write_of.Goals as goal

pub returns-then-k-eq0 : goal.returns-then-k-eq0
returns-then-k-eq0 c =
    let a = c.args in
    let few : a.c < 4 = omega arith in
    rw (eq-eqb _ _ c.if-k-eq0.true) at (sym (word_of a.k a.j a.buf.now a.x (a.position + 1) a.c few))

pub returns-else-k-eq0 : goal.returns-else-k-eq0
returns-else-k-eq0 c =
    let a = c.args in
    let few : a.c < 4 = omega arith in
    rw (ne_eqb _ _ c.if-k-eq0.false) at (sym (word_of a.k a.j a.buf.now a.x (a.position + 1) a.c few))
