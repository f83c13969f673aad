-- Each part is what its call gave. Assumes nothing.
use Rattle.std.proofs.Common.{arith}
use Rattle.places.proofs.Signed.{back}
use Rattle.compose.specs.Plans.{plan_of}
use Rattle.compose.proofs.Placed.{planned}
use Rattle.compose.proofs.plans.plan.Goals as goal

pub returns : goal.returns
unfolding plan_of
returns c =
    planned c.args.l c.args.dw c.args.dh c.requires.0 _ c.requires.1 c.requires.2
    (rw (
      c.placement.ensures,
      c.displaces.ensures,
      c.reads_through.ensures,
      c.params.ensures,
      back {z = c.args.l.right} (omega (arith, c.requires.0.offset_right)),
      back {z = c.args.l.down} (omega (arith, c.requires.0.offset_down)),
    ))
