-- Each picture's pixel comes from the one beneath, by what the layer needs of it, and so do its reads. Assumes nothing.
use Rattle.std.proofs.Common.{◌+◌, ◌<◌, arith}
use Rattle.pictures.specs.Widen.{words_of}
use Rattle.layers.specs.Inputs.{inputs_in}
use Rattle.spots.specs.Spots.{colour_of, reads_of}
use Rattle.spots.proofs.Above.{on, kept_asked, kept, nothing_on, nothing, own_asked, own_on, own, around_asked, mixed_asked, whole, mixed}
use Rattle.spots.proofs.Asked.{picture, words_held, number_fits}
use Rattle.spots.proofs.colour.+neighbours_pixel.Goals as goal
use Rattle.spots.proofs.colour.+neighbours_pixel.Goals.{pixel-then-all, pixel-else-all}

-- ---- a neighbour

pub neighbour-overflow_mul-row : goal.neighbour-overflow_mul-row
neighbour-overflow_mul-row t c =
    let r = c.requires in
    rw c.width_of.ensures (omega (arith, (number_fits (inputs_in c.args.inputs) r.asked.fit c.args.column c.args.row r.across r.down).1))

pub neighbour-overflow_add-row : goal.neighbour-overflow_add-row
neighbour-overflow_add-row t c =
    let r = c.requires in
    rw c.width_of.ensures (omega (arith, (number_fits (inputs_in c.args.inputs) r.asked.fit c.args.column c.args.row r.across r.down).1))

-- ---- the destination's pixel

pub pixel-dst_pixel-requires : goal.pixel-dst_pixel-requires
unfolding reads_of
pixel-dst_pixel-requires t c =
    let i = inputs_in c.args.inputs in
    let r = c.requires in
    let d = picture i r.asked.fit in
    let room : c.args.reads.now + 1 < 18446744073709551616 = rw c.if-k-eq0.true at r.room in
    rw c.channels_of.ensures (d.some, d.most, words_held i r.asked.fit c.args.j r.inside, room)

pub pixel-returns-then-k-eq0 : goal.pixel-returns-then-k-eq0
unfolding colour_of reads_of
pixel-returns-then-k-eq0 t c =
    (rw (c.if-k-eq0.true, ← c.channels_of.ensures) c.dst_pixel.ensures.0, rw c.if-k-eq0.true c.dst_pixel.ensures.1)

-- ---- what is asked of the picture beneath

pub pixel-needs_of-requires : goal.pixel-needs_of-requires
pixel-needs_of-requires t c = on _ c.requires c.if-k-eq0.false c.laid.ensures

pub pixel-pixel-requires : goal.pixel-pixel-requires
pixel-pixel-requires t c = (omega arith, kept_asked _ c.requires c.if-k-eq0.false c.laid.ensures c.needs_of.ensures c.in-Kept.is)

pub pixel-painted-requires : goal.pixel-painted-requires
pixel-painted-requires t c = nothing_on _ c.requires c.if-k-eq0.false c.laid.ensures c.needs_of.ensures c.in-Nothing.is

pub pixel-pixel-own-requires : goal.pixel-pixel-own-requires
pixel-pixel-own-requires t c = (omega arith, own_asked _ c.requires c.if-k-eq0.false c.laid.ensures c.needs_of.ensures c.in-Own.is)

pub pixel-painted-requires-in-Own : goal.pixel-painted-requires-in-Own
pixel-painted-requires-in-Own t c = own_on _ c.requires c.if-k-eq0.false c.laid.ensures c.needs_of.ensures c.in-Own.is

pub pixel-neighbours-neighbours-requires : goal.pixel-neighbours-neighbours-requires
pixel-neighbours-neighbours-requires t c = (omega arith, around_asked _ c.requires c.if-k-eq0.false c.laid.ensures c.needs_of.ensures c.in-Around.is)

pub pixel-pixel-own-requires-else-all : goal.pixel-pixel-own-requires-else-all
pixel-pixel-own-requires-else-all t c =
    (omega arith, mixed_asked _ c.requires c.if-k-eq0.false c.laid.ensures c.needs_of.ensures c.in-Around.is c.neighbours-neighbours.ensures c.if-all.false)

-- ---- its colour and its reads

pub pixel-returns-in-Kept : goal.pixel-returns-in-Kept
pixel-returns-in-Kept t c = kept _ c.requires c.if-k-eq0.false c.laid.ensures c.needs_of.ensures c.in-Kept.is c.pixel.ensures

pub pixel-returns-in-Nothing : goal.pixel-returns-in-Nothing
pixel-returns-in-Nothing t c = nothing _ c.requires c.if-k-eq0.false c.laid.ensures c.needs_of.ensures c.in-Nothing.is (words_of 0 0 0 0) c.painted.ensures

pub pixel-returns-in-Own : goal.pixel-returns-in-Own
pixel-returns-in-Own t c = own _ c.requires c.if-k-eq0.false c.laid.ensures c.needs_of.ensures c.in-Own.is c.pixel-own.ensures c.painted-in-Own.ensures

pub pixel-returns-after-all : goal.pixel-returns-after-all
pixel-returns-after-all t c = elim c.if-all.branch [
  | pixel-then-all w ↦ rw w.reads-is (whole _ c.requires c.if-k-eq0.false c.laid.ensures c.needs_of.ensures c.in-Around.is c.neighbours-neighbours.ensures w.if-all.true c.if-all.own c.mixed.ensures)
  | pixel-else-all w ↦ rw w.reads-is (mixed _ c.requires c.if-k-eq0.false c.laid.ensures c.needs_of.ensures c.in-Around.is c.neighbours-neighbours.ensures w.if-all.false w.pixel-own-else-all.ensures (rw w.own-is at c.mixed.ensures))
]
