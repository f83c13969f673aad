-- Where nothing is refused, a layer can be placed, and its source lies in the samples.
use Rattle.std.proofs.Common.{◌<◌, arith}
use Rattle.pictures.specs.Shapes.{nat_of}
use Rattle.layers.specs.Inputs.{inputs_in}
use Rattle.spots.proofs.Asked.{good, rows_held, placed}
use Rattle.spots.proofs.colour.laid.Goals as goal

pub at-l-requires : goal.at-l-requires
at-l-requires c =
    let below : c.args.n < nat_of c.args.inputs.count = let h = c.requires.picture in omega arith in
    rows_held (inputs_in c.args.inputs) c.args.n c.requires.fit below

pub plan-p-requires : goal.plan-p-requires
plan-p-requires c =
    let below : c.args.n < nat_of c.args.inputs.count = let h = c.requires.picture in omega arith in
    rw (c.width_of.ensures, c.height_of.ensures, c.at-l.ensures) (placed (inputs_in c.args.inputs) c.args.n c.requires.fit below)

pub source_of-requires : goal.source_of-requires
source_of-requires c =
    let below : c.args.n < nat_of c.args.inputs.count = let h = c.requires.picture in omega arith in
    rw c.at-l.ensures (good (inputs_in c.args.inputs) c.args.n c.requires.fit below)

pub returns : goal.returns
returns c = record {
  planned = rw (c.width_of.ensures, c.height_of.ensures, c.at-l.ensures) at c.plan-p.ensures;
  own = rw c.at-l.ensures at c.source_of.ensures.0;
  ready = rw c.source_of.ensures.1 c.plan-p.ensures.ready;
}
