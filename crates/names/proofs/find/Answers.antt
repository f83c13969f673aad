-- One step of the search. Assumes nothing.
use Rattle.std.proofs.Common.{◌≡◌, ◌+◌, ◌∙◌, arith}
use Rattle.names.specs.Names.{key_of}
use Rattle.names.specs.Packed.{letters, lengths}
use Rattle.names.proofs.Packing.{search_from}
use Rattle.names.proofs.Finding.{fits_after, room, reads_within, not_this, not_its_length}
use Rattle.names.proofs.find.Goals as goal

pub reads_at-requires : goal.reads_at-requires
reads_at-requires c =
    reads_within c.loop-k.k c.length_of-m.result c.loop-k.at (omega arith) c.length_of-m.ensures c.loop-k.invariant.fits
    (key_of c.args.s.now) c.key_length-n.result c.key_length-n.ensures (omega arith)

pub overflow_add-at : goal.overflow_add-at
overflow_add-at c = record {
  fits = room c.loop-k.k c.length_of-m.result c.loop-k.at (omega arith) c.length_of-m.ensures c.loop-k.invariant.fits;
}

pub loop-k-preserved : goal.loop-k-preserved
loop-k-preserved c =
    let n = not_this c.loop-k.k c.length_of-m.result c.loop-k.at (omega arith) c.length_of-m.ensures c.loop-k.invariant.fits
    (key_of c.args.s.now) c.key_length-n.result c.key_length-n.ensures in
    let o = not_its_length c.loop-k.k c.length_of-m.result c.loop-k.at (omega arith) c.length_of-m.ensures c.loop-k.invariant.fits
    (key_of c.args.s.now) c.key_length-n.result c.key_length-n.ensures in
    let s : search_from (key_of c.args.s.now) letters lengths c.loop-k.at c.loop-k.k ≡ search_from (key_of c.args.s.now) letters lengths (c.loop-k.at + c.length_of-m.result) (c.loop-k.k + 1) = grind (arith, n, o) in
    record {
      fits = fits_after c.loop-k.k c.length_of-m.result c.loop-k.at (omega arith) c.length_of-m.ensures c.loop-k.invariant.fits;
      as_whole = c.loop-k.invariant.as_whole ∙ s;
    }
