-- Where a pixel lies in its picture, row by row, in its source, and in a run. Assumes nothing.
use Rattle.std.specs.Prelude.{Option, Some, None}
use mathlib.Core.Path.{◌≡◌, sym}
use mathlib.Core.Bool.{Bool}
use Prim.Native.Nat.{ℕ, zero, suc, ◌+◌, ◌*◌, ◌/◌, ◌%◌, ◌<◌, ◌≤◌}
use native.Mathlib.Nat.{zero-mul, mod-lt, mod_self, div_self, mod-eq_of_lt, div-eq_of_lt, add-zero, div-add-mod', mul-add-div_right, mul-add-mod_self_right, div-lt_iff_lt-mul, mul_comm, mul-le-mul_left}
use native.Mathlib.Omega.{arith}
use Rattle.places.specs.Bounds.{Under}
use Rattle.places.specs.Indices.{source_index}
use Rattle.places.specs.declared.Corner.{Corner}
use Rattle.places.proofs.Indices.{index_below}
use Rattle.compose.specs.declared.Plan.{Plan}
use Rattle.compose.specs.Ready.{Beneath, Run, Span}

-- a picture that has a pixel has columns
some_width : (w h j : ℕ) → j < w * h → 1 ≤ w
some_width zero h j a = absurd (omega (arith, zero-mul h))
some_width (suc w) h j a = omega arith

-- the column and the row of a pixel lie in the picture
pub column_row : (w h j : ℕ) → j < w * h → (j % w < w) × (j / w < h)
column_row w h j a = let some = some_width w h j a in (mod-lt j some, (div-lt_iff_lt-mul some).1 (rw (mul_comm h w) a))

-- x and y are the column and the row of pixel from + i: those of the next
module _ (w from i : ℕ) {x y : ℕ} (e : x ≡ (from + i) % w) (f : y ≡ (from + i) / w) where
  next : 1 ≤ w → ((x + 1) % w ≡ (from + (i + 1)) % w) × (y + (x + 1) / w ≡ (from + (i + 1)) / w)
  next some =
      let j = from + i in
      let on : from + (i + 1) ≡ j / w * w + (j % w + 1) = omega (arith, div-add-mod' j w) in
      rw (e, f, on) (sym (mul-add-mod_self_right (j / w) w (j % w + 1)), sym (mul-add-div_right some (j / w) (j % w + 1)))

  pub wraps : x + 1 ≡ w → (0 ≡ (from + (i + 1)) % w) × (y + 1 ≡ (from + (i + 1)) / w)
  wraps h = let d : w / w ≡ 1 = div_self (omega arith) in rw (h, mod_self w, d) at (next (omega arith))

  pub steps : x + 1 < w → (x + 1 ≡ (from + (i + 1)) % w) × (y ≡ (from + (i + 1)) / w)
  steps h = rw (mod-eq_of_lt h, div-eq_of_lt h, add-zero) at (next (omega arith))

-- an index that was found lies below the source's pixels
pub index_held : (tile : Bool) (sw sh : ℕ) (corner : Corner) (x y : ℕ) (s : Option ℕ) → s ≡ source_index tile sw sh corner x y → Under (sw * sh) s
index_held tile sw sh corner x y (Some n) e = index_below tile sw sh corner x y n (sym e)
index_held tile sw sh corner x y None e = tt

-- pixel i of a run, in column x and row y
pub at_run : {p : Plan} {words channels from count x y : ℕ} (i : ℕ) → Run p words channels from count → i < count
    → x ≡ (from + i) % p.dw → y ≡ (from + i) / p.dw → Beneath p words channels x y
at_run {p} {from = from} i r h e f =
    let at = column_row p.dw p.dh (from + i) (omega (arith, r.inside)) in
    record { width = r.width; height = r.height; picture = r.picture; column = rw e at.0; row = rw f at.1 }

-- the words of a run of a picture that is lent whole
pub span_words : {p : Plan} {words channels from count : ℕ} → Span p words channels from count → channels * (from + count) ≤ words
span_words {p} {channels = channels} s = rw (s.picture.whole, mul_comm (p.dw * p.dh) channels) (mul-le-mul_left channels s.inside)
