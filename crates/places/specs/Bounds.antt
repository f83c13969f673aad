-- The bounds under which placing is asked for. They are slack: a job's sides and offsets are far below them, and its limits
-- can be raised without touching what is proved here. The definitions of Placement and Indices hold without any bound.
use Rattle.std.specs.Prelude.{ℕ, ◌<◌, ◌≤◌, ℤ, Option, Some, None}
use Rattle.std.specs.Int.Signed.{mag}
use Rattle.places.specs.declared.Corner.{Corner}

-- a bound of sides and offsets, 2^24
abbrev pub slack : ℕ
slack = 16777216

-- a bound of a corner's coordinates that follows from it
abbrev pub reach : ℕ
reach = 67108864

-- a coordinate is below a bound; none is
abbrev pub Under : ℕ → Option ℕ → Type 0
Under n (Some i) = i < n
Under n None = Unit

-- the destination's and the source's sides and a layer's offsets
pub record Measured (dw dh sw sh : ℕ) (right down : ℤ) : Type 0 where
  pub dst_width : dw ≤ slack
  pub dst_height : dh ≤ slack
  pub width : sw ≤ slack
  pub height : sh ≤ slack
  pub offset_right : mag right ≤ slack
  pub offset_down : mag down ≤ slack

-- the source's sides, its corner and a destination pixel
pub record Reached (sw sh : ℕ) (corner : Corner) (x y : ℕ) : Type 0 where
  pub width : sw ≤ slack
  pub height : sh ≤ slack
  pub corner_x : mag corner.x ≤ reach
  pub corner_y : mag corner.y ≤ reach
  pub column : x ≤ slack
  pub row : y ≤ slack
