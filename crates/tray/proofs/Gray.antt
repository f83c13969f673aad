-- Document 02, A.1, was asked for so that a gray print and the intensity curve agree. They do: the gray of a pixel is the operators' intensity of it, as a
-- value and as it is stored. NaN and infinities are no exception. No function's proof cites this. Assumes nothing.
use Rattle.std.specs.Prelude.{Some}
use mathlib.Core.Path.{◌≡◌, refl}
use mathlib.Core.Bool.{true}
use mathlib.Core.List.{List, [], ◌∷◌}
use mathlib.Core.Logic.{◌⊎◌, inl, inr}
use Prim.Native.Nat.{ℕ, ◌/◌, ◌%◌}
use Rattle.operators.specs.declared.CompositeOp.TheVariants as O
use Rattle.layers.specs.declared.Layer.{Layer}
use Rattle.layers.specs.Windows.{holds}
use Rattle.pictures.specs.Widen.{rgba_at}
use Rattle.pictures.specs.declared.Rgba.{Rgba}
use Rattle.pictures.specs.declared.Words.{Words}
use Rattle.pixels.specs.Pixel.{intensity_of}
use Rattle.compose.specs.Compose.{source_of, index_on, writes, source_pixel, result_of, written_of, composed_at}
use Rattle.narrowing.specs.Luma.{luma_of}
use Rattle.narrowing.specs.Narrow.{narrowed_pixel}

-- on `intensity_of` the lines of six operators rest (`formula_of`, crates/pixels/specs/Pixel)
pub gray_is_intensity : (p : Rgba) → luma_of p ≡ intensity_of p
unfolding luma_of
gray_is_intensity p = refl

-- where the source's pixel n lies on pixel j and the window holds that, what a layer of Intensity or CopyBlack writes into a colour that is on is the word
-- that narrowing gives pixel n
pub gray_is_written : (samples : List ℕ) (l : Layer) (dw dh : ℕ) (beneath : ℕ → Words) (j n : ℕ) → (l.op ≡ O.Intensity) ⊎ (l.op ≡ O.CopyBlack)
    → index_on l dw dh j ≡ Some n
    → holds l.window (j % dw) (j / dw) ≡ true
    → let gray = narrowed_pixel 1 (rgba_at (source_of samples l.source) l.source.channels n) in
    let w = composed_at samples l dw dh beneath j in
    (l.mask.red ≡ true → gray ≡ w.r ∷ []) × (l.mask.green ≡ true → gray ≡ w.g ∷ []) × (l.mask.blue ≡ true → gray ≡ w.b ∷ [])
unfolding narrowed_pixel composed_at writes source_pixel result_of written_of
gray_is_written samples l dw dh beneath j n (inl e) at h = rw (e, at, h, gray_is_intensity) ((λ on. rw on), (λ on. rw on), (λ on. rw on))
gray_is_written samples l dw dh beneath j n (inr e) at h = rw (e, at, h, gray_is_intensity) ((λ on. rw on), (λ on. rw on), (λ on. rw on))
