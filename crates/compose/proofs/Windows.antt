-- What a layer's window makes of `compose_float` (document 02, A.3: "Tray pixels off the window keep their bits, whatever tiling or overlay say", "Results
-- match the Rust's with the pixels off the window put back"). `in_window`: at a pixel that the window holds, the result is the Rust's, on the whole picture
-- beneath. `off_window`: at any other it is the pixel beneath, with all its bits; so at every pixel where the window is empty (`empty_window`).
-- `picture_unwindowed`: where the window holds every pixel, the whole result is the Rust's. `unwindowed_alone`: the Rust's result has nothing to do with the
-- window, nor with more of a row than ten numbers (`unwindowed_ten`). No function's proof cites this. Assumes nothing.
use mathlib.Core.Path.{◌≡◌, refl, ap, ◌∙◌}
use mathlib.Core.Bool.{true, false}
use mathlib.Core.List.{List, ◌++◌}
use mathlib.Core.Logic.{◌⊎◌}
use Prim.Native.Nat.{ℕ, ◌+◌, ◌*◌, ◌/◌, ◌%◌, ◌<◌}
use native.Mathlib.Nat.{zero-add}
use lib.IntN.{ℤ}
use lib.ListN.{length}
use Rattle.layers.specs.declared.Layer.{Layer}
use Rattle.layers.specs.declared.Window.{Window}
use Rattle.layers.specs.Layers.{layer_of, with_window}
use Rattle.layers.specs.Limits.{at_left}
use Rattle.layers.specs.Windows.{window_in, holds, HoldsAll}
use Rattle.layers.proofs.Sides.{empty_holds}
use Rattle.layers.proofs.Decoded.{ten_numbers}
use Rattle.pictures.specs.Widen.{rgba_at}
use Rattle.pictures.specs.declared.Words.{Words}
use Rattle.pictures.proofs.FlatWords.{flat_same}
use Rattle.compose.specs.Compose.{writes, result_of, composed_at, composed_of}
use Rattle.compose.specs.Unwindowed.{unwindowed_at, unwindowed_of}
use Rattle.compose.proofs.Pixels.{column_row}

module _ (samples : List ℕ) (l : Layer) (dw dh : ℕ) (beneath : ℕ → Words) (j : ℕ) where
  pub in_window : holds l.window (j % dw) (j / dw) ≡ true → composed_at samples l dw dh beneath j ≡ unwindowed_at samples l dw dh beneath j
  unfolding writes composed_at unwindowed_at
  in_window e = rw e

  pub off_window : holds l.window (j % dw) (j / dw) ≡ false → composed_at samples l dw dh beneath j ≡ beneath j
  unfolding writes composed_at
  off_window e = rw e

  pub unwindowed_alone : (w : Window) → unwindowed_at samples (with_window w l) dw dh beneath j ≡ unwindowed_at samples l dw dh beneath j
  unfolding unwindowed_at result_of
  unwindowed_alone w = refl

  pub empty_window : (l.window.width ≡ 0) ⊎ (l.window.height ≡ 0) → composed_at samples l dw dh beneath j ≡ beneath j
  empty_window e = off_window (empty_holds l.window (j % dw) (j / dw) e)

  pub pixel_unwindowed : HoldsAll l.window dw dh → j < dw * dh → composed_at samples l dw dh beneath j ≡ unwindowed_at samples l dw dh beneath j
  pixel_unwindowed a h = let at = column_row dw dh j h in in_window (a (j % dw) (j / dw) at.0 at.1)

-- the single composition's whole result
pub picture_unwindowed : (samples : List ℕ) (l : Layer) (dw dh channels : ℕ) (dst : List ℕ) → HoldsAll l.window dw dh
    → composed_of samples l dw dh channels dst ≡ unwindowed_of samples l dw dh channels dst
picture_unwindowed samples l dw dh channels dst a =
    flat_same _ _ 0 0 (dw * dh) (λ j h. pixel_unwindowed samples l dw dh (rgba_at dst channels) (0 + j) a (rw zero-add h))

-- a row of ten numbers, and the same with others after them: the Rust's result is the same
pub unwindowed_ten : (row rest : List ℤ) → length row ≡ at_left → (words samples : List ℕ) (dw dh : ℕ) (beneath : ℕ → Words) (j : ℕ)
    → unwindowed_at samples (layer_of (row ++ rest) words) dw dh beneath j ≡ unwindowed_at samples (layer_of row words) dw dh beneath j
unwindowed_ten row rest h words samples dw dh beneath j =
    ap (λ (l : Layer). unwindowed_at samples l dw dh beneath j) (ten_numbers row rest h words)
    ∙ unwindowed_alone samples (layer_of row words) dw dh beneath j (window_in (row ++ rest))
