-- A step composes one pixel more, and goes on to the next column or to the next row. Assumes nothing.
use Rattle.std.proofs.Common.{◌≡◌, ◌+◌, ◌/◌, ◌%◌, ◌<◌, refl, ◌∙◌, arith}
use native.Mathlib.Nat.{add-zero}
use Rattle.pictures.specs.FlatWords.{flat}
use Rattle.compose.proofs.Parts.{none_filled, put_more}
use Rattle.compose.proofs.Pixels.{at_run, wraps, steps}
use Rattle.compose.proofs.run.run.Goals as goal
use Rattle.compose.proofs.run.run.Goals.{then-x-dw, else-x-dw}

pub returns-then-count-eq0 : goal.returns-then-count-eq0
returns-then-count-eq0 c = none_filled _ _ c.args.out.now c.if-count-eq0.true

pub loop-i-init : goal.loop-i-init
unfolding flat
loop-i-init c = record { done = refl; column = rw add-zero; row = rw add-zero }

pub loop-i-preserved : goal.loop-i-preserved
loop-i-preserved c =
    let v = c.loop-i.invariant in
    let w = c.args.p.dw in
    let n = c.args.from + (c.loop-i.i + 1) in
    let here = at_run c.loop-i.i c.requires.1 c.loop-i-test.true v.column v.row in
    let next : (c.if-x-dw.x ≡ n % w) × (c.if-x-dw.y ≡ n / w) =
    elim c.if-x-dw.branch [
      | then-x-dw b ↦ let s = wraps _ _ _ v.column v.row b.if-x-dw.true in (b.x-is ∙ s.0, b.y-is ∙ s.1)
      | else-x-dw b ↦ let more : c.loop-i.x + 1 < w = omega (arith, here.column, b.if-x-dw.false) in
          let s = steps _ _ _ v.column v.row more in (b.x-is ∙ s.0, b.y-is ∙ s.1)
    ] in
    record {
      done = c.put.ensures ∙ put_more _ _ c.args.out.now v.done (omega arith) (cc);
      column = next.0;
      row = next.1;
    }
