-- Which pixel of the source lies on a destination pixel, over the integers: `tile` (composite.rs 603), and from `sx` (composite.rs 610) to
-- `inside` (composite.rs 615).
use Rattle.std.specs.Prelude.{Bool, cond, ◌&&◌, ℕ, ◌+◌, ◌-◌, ◌*◌, ◌%◌, ℤ, pos, negsuc, ◌-ℤ◌, ltb, Option, Some, None}
use Rattle.places.specs.declared.Corner.{Corner}

-- Rust's `rem_euclid`, the remainder from 0 up: −(n + 1) is m − 1 − n % m more than a multiple of m
abbrev pub rem_euclid : ℤ → ℕ → ℕ
rem_euclid (pos n) m = n % m
rem_euclid (negsuc n) m = m - 1 - n % m

-- z itself where it is from 0 to below the side
abbrev pub inside_of : ℕ → ℤ → Option ℕ
inside_of side (pos n) = cond (ltb n side) (Some n) None
inside_of side (negsuc n) = None

-- the source's coordinate at z, a coordinate counted from the source's start
unfoldable pub axis_index : Bool → ℕ → ℤ → Option ℕ
axis_index tile side z = cond (tile && ltb 0 side) (Some (rem_euclid z side)) (inside_of side z)

-- a source repeats where tile is asked for and it has pixels
abbrev pub tiles : Bool → ℕ → ℕ → Bool
tiles tile sw sh = tile && ltb 0 sw && ltb 0 sh

-- the index of the pixel at a column and a row of a source that is sw wide
abbrev pub pixel_index : ℕ → Option ℕ → Option ℕ → Option ℕ
pixel_index sw None row = None
pixel_index sw (Some sx) None = None
pixel_index sw (Some sx) (Some sy) = Some (sy * sw + sx)

-- the index, row by row, of the source's pixel on the destination pixel (x, y)
unfoldable pub source_index : Bool → (sw sh : ℕ) → Corner → (x y : ℕ) → Option ℕ
source_index tile sw sh corner x y =
    pixel_index sw
    (axis_index (tiles tile sw sh) sw (pos x -ℤ corner.x))
    (axis_index (tiles tile sw sh) sh (pos y -ℤ corner.y))
