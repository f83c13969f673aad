-- What the functions on pictures ask, and what they leave. Definitions only.
use Rattle.std.specs.Prelude.{◌⊎◌, List, ◌++◌, ◌≡◌, ℕ, ◌+◌, ◌*◌, ◌≤◌, ◌<◌, length, drop, set}
use Rattle.float_steps.specs.declared.axis.Axis.{Axis}
use Rattle.pictures.specs.Widen.{rgba_at, values_of}
use Rattle.pictures.specs.FlatWords.{flat}
use Rattle.pictures.specs.declared.Rgba.{Rgba}
use Rattle.pictures.specs.declared.Words.{Words}

-- a picture has 1, 3 or 4 channels, as a fact
abbrev pub Channels : ℕ → Type 0
Channels n = (n ≡ 1) ⊎ ((n ≡ 3) ⊎ (n ≡ 4))

-- what reading the neighbours asks: both places of both axes lie in the picture
pub record InPicture (picture : List ℕ) (channels w h : ℕ) (x y : Axis) : Type 0 where
  pub some : 1 ≤ channels
  pub most : channels ≤ 4
  pub left : x.at < w
  pub right : x.next < w
  pub upper : y.at < h
  pub lower : y.next < h
  pub whole : length picture ≡ w * h * channels

-- the values of a picture's pixel j
abbrev pub values_at : List ℕ → (channels : ℕ) → (j : ℕ) → Rgba
values_at picture channels j = values_of (rgba_at picture channels j)

-- a list of at least n pixels, whose first n are replaced by f 0, f 1, ..
abbrev pub filled : (ℕ → Words) → ℕ → List ℕ → List ℕ
filled f n out = flat f 0 n ++ drop (4 * n) out

-- a list whose pixel i is replaced
abbrev pub put_of : List ℕ → ℕ → Words → List ℕ
put_of out i w = set (set (set (set out (4 * i) w.r) (4 * i + 1) w.g) (4 * i + 2) w.b) (4 * i + 3) w.a
