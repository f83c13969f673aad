-- A step composes a span, whose own pixels the buffer holds; the last one comes to the end. Assumes nothing.
use Rattle.std.proofs.Common.{◌≡◌, ◌+◌, refl, ◌∙◌, arith}
use Rattle.pictures.specs.FlatWords.{flat}
use Rattle.pictures.proofs.FlatWords.{filled_all}
use Rattle.compose.proofs.Parts.{span_more}
use Rattle.compose.proofs.single.spans.Goals as goal

pub loop-j-init : goal.loop-j-init
unfolding flat
loop-j-init c = record { within = omega arith; done = refl }

pub loop-j-preserved : goal.loop-j-preserved
loop-j-preserved c =
    let full : c.min-count.result ≡ 128 = omega (arith, c.min-count.ensures) in
    let e = span_more _ _ _ _ _ _ _ c.args.out.now c.loop-j.invariant.done c.loop-j.auto.out (omega (arith, full, c.requires.2)) c.widen.ensures c.run.ensures in
    record { within = omega arith; done = rw full at e }

pub returns-2 : goal.returns-2
returns-2 c =
    let all : c.loop-j.j + c.min-count.result ≡ c.args.total = omega (arith, c.min-count.ensures) in
    let e = span_more _ _ _ _ _ _ _ c.args.out.now c.loop-j.invariant.done c.loop-j.auto.out (omega (arith, all, c.requires.2)) c.widen.ensures c.run.ensures in
    rw all at e ∙ filled_all _ c.args.total c.args.out.now c.requires.2
