-- One pixel of a picture: `to_rgba` (deep.rs 350 to 369), on words. Document 01: one and three channels widen as `to_rgba` does, alpha 1;
-- a channel that is widened is copied with all its bits. Definitions only.
use Rattle.std.specs.Prelude.{ℕ, ◌+◌, ◌*◌, cond, List, eqb, get_or}
use Rattle.float_steps.specs.Words.{value_of}
use Rattle.pictures.specs.declared.Words.{Words}
use Rattle.pictures.specs.declared.Rgba.{Rgba}

abbrev pub words_of : ℕ → ℕ → ℕ → ℕ → Words
words_of r g b a = record { r = r; g = g; b = b; a = a }

-- the word of 1.0
abbrev pub opaque : ℕ
opaque = 0x3f80_0000

-- the pixel whose words begin at a place of the picture, by its channels
abbrev pub four_at : List ℕ → ℕ → Words
four_at picture at = words_of (get_or picture at 0) (get_or picture (at + 1) 0) (get_or picture (at + 2) 0) (get_or picture (at + 3) 0)

abbrev pub three_at : List ℕ → ℕ → Words
three_at picture at = words_of (get_or picture at 0) (get_or picture (at + 1) 0) (get_or picture (at + 2) 0) opaque

abbrev pub one_at : List ℕ → ℕ → Words
one_at picture at = words_of (get_or picture at 0) (get_or picture at 0) (get_or picture at 0) opaque

-- pixel j of a picture of four, three or one channels; any other number is read as one (the last arm of `to_rgba`)
unfoldable pub rgba_at : List ℕ → ℕ → ℕ → Words
rgba_at picture channels j =
    cond (eqb channels 4) (four_at picture (channels * j)) (cond (eqb channels 3) (three_at picture (channels * j)) (one_at picture (channels * j)))

-- the values of four words
abbrev pub values_of : Words → Rgba
values_of w = record { r = value_of w.r; g = value_of w.g; b = value_of w.b; a = value_of w.a }
