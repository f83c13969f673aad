-- A layer more, counted if it is a map.
use Rattle.std.proofs.Common.{◌≡◌, ◌≤◌, Bool, true, false, cond, refl, add-one, arith}
use mir.Val.{bool_byte}
use Rattle.layers.specs.Layers.{layer_at}
use Rattle.compose.specs.Compose.{reads_through}
use Rattle.spots.specs.Spots.{maps_of}
use Rattle.spots.proofs.checks.maps.Goals as goal

one_or_none : (b : Bool) → bool_byte b ≡ cond b 1 0
one_or_none true = refl
one_or_none false = refl

one_most : (b : Bool) → cond b 1 0 ≤ 1
one_most true = omega arith
one_most false = omega arith

pub loop-k-preserved : goal.loop-k-preserved
unfolding maps_of
loop-k-preserved c =
    let map : Bool = reads_through (layer_at c.args.table.now c.args.args.now c.loop-k.k).op in
    let one : c.from-count.result ≡ cond map 1 0 = rw (c.from-count.ensures, c.reads_through.ensures, c.at.ensures) (one_or_none map) in
    record { counted = rw (add-one, c.loop-k.invariant.counted, one); fits = omega (arith, one, one_most map) }
