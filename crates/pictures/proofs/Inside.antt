-- Where a pixel lies in its picture. Assumes nothing.
use mathlib.Core.Path.{◌≡◌}
use mathlib.Core.List.{List}
use Prim.Native.Nat.{ℕ, suc, ◌+◌, ◌*◌, ◌^◌, ◌<◌, ◌≤◌}
use native.Mathlib.Omega.{arith}
use lib.ListN.{length}
use lib.Ieee.{Float}
use Rattle.float_steps.specs.Axis.{axis_of}
use Rattle.float_steps.specs.declared.axis.Axis.{Axis}
use Rattle.float_steps.proofs.AxisInside.{axis_inside}
use Rattle.pictures.specs.Steps.{InPicture}
use native.Mathlib.Nat.{mul-le-mul_left, mul-le-mul_right, mul-one, suc-mul, mul_comm}

-- column x of row y, in a picture of w by h pixels
pub pixel_inside : (w h x y : ℕ) → x < w → y < h → y * w + x < w * h
pixel_inside w h x y a b =
    let r : suc y * w ≤ h * w = mul-le-mul_right w b in
    omega (arith, suc-mul y w, mul_comm w h)

-- its number fits where the picture does, c words a pixel
pub pixel_fits : (w h x y c : ℕ) → x < w → y < h → 1 ≤ c → y * w + x < w * h * c
pixel_fits w h x y c a b d = omega (arith, pixel_inside w h x y a b, mul-le-mul_left (w * h) d, mul-one (w * h))

-- the words of pixel j of n, c words a pixel
pub words_inside : (c j n : ℕ) → j < n → c * j + c ≤ n * c
words_inside c j n a =
    let r : suc j * c ≤ n * c = mul-le-mul_right c a in
    omega (arith, suc-mul j c, mul_comm c j)

-- the four neighbours of a point of a picture that has pixels
pub in_picture : (picture : List ℕ) (c w h : ℕ) (x y : Float) (a b : Axis) → 1 ≤ c → c ≤ 4 → 1 ≤ w → w ≤ 2 ^ 24 → 1 ≤ h → h ≤ 2 ^ 24 → length picture ≡ w * h * c → a ≡ axis_of x w → b ≡ axis_of y h → InPicture picture c w h a b
in_picture picture c w h x y a b some most i is j js whole p q =
    rw (p, q)
    record {
      some = some;
      most = most;
      left = (axis_inside x w i is).0;
      right = (axis_inside x w i is).1;
      upper = (axis_inside y h j js).0;
      lower = (axis_inside y h j js).1;
      whole = whole;
    }
