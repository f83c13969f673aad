-- The source's top left corner on the destination: `placement` (composite.rs 531 to 550), and document 01, "Where a source
-- lands": (destination side − source side) / 2 cuts towards zero.
use Rattle.std.specs.Prelude.{ℕ, ℤ, pos, ◌+ℤ◌, ◌-ℤ◌}
use Rattle.std.specs.Int.Signed.{quot_z}
use Rattle.places.specs.declared.Gravity.{Gravity}
use Rattle.places.specs.declared.Anchor.{Anchor}
use Rattle.places.specs.declared.Anchor.TheVariants.{Near, Middle, Far}
use Rattle.places.specs.declared.Corner.{Corner}
use Rattle.places.specs.Gravities.{across_of, downward_of}

-- what the anchor gives along one axis, for a destination's side and a source's
abbrev pub anchored : Anchor → ℕ → ℕ → ℤ
anchored Near dst src = pos 0
anchored Middle dst src = quot_z (pos dst -ℤ pos src) (pos 2)
anchored Far dst src = pos dst -ℤ pos src

-- where the source's side starts
abbrev pub start_of : Anchor → ℕ → ℕ → ℤ → ℤ
start_of anchor dst src offset = anchored anchor dst src +ℤ offset

unfoldable pub placement_of : Gravity → (dw dh sw sh : ℕ) → (right down : ℤ) → Corner
placement_of gravity dw dh sw sh right down = record {
  x = start_of (across_of gravity) dw sw right;
  y = start_of (downward_of gravity) dh sh down;
}
