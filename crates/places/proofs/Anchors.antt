-- Where a source starts, within reach of the destination. Assumes nothing.
use Prim.Native.Nat.{ℕ, ◌+◌, ◌≤◌}
use native.Mathlib.Omega.{arith}
use lib.IntN.{ℤ, pos, ◌-ℤ◌}
use lib.Signed.{mag, quot_z}
use Rattle.places.specs.declared.Anchor.{Anchor}
use Rattle.places.specs.declared.Anchor.TheVariants.{Near, Middle, Far}
use Rattle.places.specs.declared.Gravity.{Gravity}
use Rattle.places.specs.Bounds.{slack, reach, Measured}
use Rattle.places.specs.Gravities.{across_of, downward_of}
use Rattle.places.specs.Placement.{anchored, start_of, placement_of}
use Rattle.places.proofs.Signed.{mag_add, mag_sub, mag_half}

module _ (dst src : ℕ) (d : dst ≤ slack) (s : src ≤ slack) where
  pub gap_near : mag (pos dst -ℤ pos src) ≤ slack + slack + 2
  gap_near = omega (arith, mag_sub (pos dst) (pos src))

  pub half_near : mag (quot_z (pos dst -ℤ pos src) (pos 2)) ≤ slack + slack + 2
  half_near = omega (arith, gap_near, mag_half (pos dst -ℤ pos src))

  anchored_near : (a : Anchor) → mag (anchored a dst src) ≤ slack + slack + 2
  anchored_near Near = omega arith
  anchored_near Middle = half_near
  anchored_near Far = gap_near

  pub start_near : (a : Anchor) (offset : ℤ) → mag offset ≤ slack → mag (start_of a dst src offset) ≤ reach
  start_near a offset o = omega (arith, mag_add (anchored a dst src) offset, anchored_near a)

-- a corner is within reach
module _ (gravity : Gravity) (dw dh sw sh : ℕ) (right down : ℤ) (m : Measured dw dh sw sh right down) where
  pub corner_x : mag (placement_of gravity dw dh sw sh right down).x ≤ reach
  unfolding placement_of
  corner_x = start_near dw sw m.dst_width m.width (across_of gravity) right m.offset_right

  pub corner_y : mag (placement_of gravity dw dh sw sh right down).y ≤ reach
  unfolding placement_of
  corner_y = start_near dh sh m.dst_height m.height (downward_of gravity) down m.offset_down
