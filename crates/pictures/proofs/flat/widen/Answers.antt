-- A step of the loop replaces one pixel more.
use Rattle.std.proofs.Common.{refl, ◌∙◌, ap, arith}
use Rattle.pictures.specs.FlatWords.{flat}
use Rattle.pictures.specs.Steps.{put_of}
use Rattle.pictures.proofs.FlatWords.{filled_more}
use Rattle.pictures.proofs.flat.widen.Goals as goal

pub loop-i-init : goal.loop-i-init
unfolding flat
loop-i-init c = record { within = omega arith; done = refl; long = refl }

pub loop-i-preserved : goal.loop-i-preserved
loop-i-preserved c = record {
  within = omega arith;
  done =
      c.put.ensures
      ∙ ap (λ o. put_of o c.loop-i.i c.rgba_at.result) c.loop-i.invariant.done
      ∙ filled_more _ c.loop-i.i c.args.out.now _ (omega arith) c.rgba_at.ensures;
  long = c.put.auto.out ∙ c.loop-i.invariant.long;
}
