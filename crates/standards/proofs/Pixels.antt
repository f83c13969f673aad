-- One colour of a pixel, whichever it is. Assumes nothing.
use mathlib.Core.Path.{◌≡◌, refl}
use Prim.Native.Nat.{ℕ}
use lib.Dec.{T}
use lib.Ieee.{Float, binary32, fits}
use lib.Ieee.Bits.{of_bits-fits}
use Rattle.pictures.specs.declared.Rgba.{Rgba}
use Rattle.pixels.specs.Pixel.{rgba_of, on_colours, premult_of, with_alpha, clear}
use Rattle.standards.specs.Operators.{Colour, red, green, blue, at, Held}
use Rattle.float_steps.specs.Notation.{◌⊗◌, lit, f0}

pub held_at : (c : Colour) (p : Rgba) → Held p → T (fits binary32 (at c p))
held_at red p h = h.r
held_at green p h = h.g
held_at blue p h = h.b

pub on_colours_lem : (c : Colour) (f : Float → Float → Float) (s d : Rgba) (a : Float) → at c (on_colours f s d a) ≡ f (at c s) (at c d)
on_colours_lem red f s d a = refl
on_colours_lem green f s d a = refl
on_colours_lem blue f s d a = refl

pub on_premult : (c : Colour) (s : Rgba) (w : Float) → at c (premult_of s w) ≡ at c s ⊗ w
on_premult red s w = refl
on_premult green s w = refl
on_premult blue s w = refl

pub on_alpha : (c : Colour) (s : Rgba) (w : Float) → at c (with_alpha s w) ≡ at c s
on_alpha red s w = refl
on_alpha green s w = refl
on_alpha blue s w = refl

pub on_clear : (c : Colour) → at c clear ≡ f0
on_clear red = refl
on_clear green = refl
on_clear blue = refl

-- a pixel that is read from four words is one of binary32, whatever they are
pub words_held : (r g b a : ℕ) → Held (rgba_of (lit r) (lit g) (lit b) (lit a))
words_held r g b a = record { r = of_bits-fits binary32 r; g = of_bits-fits binary32 g; b = of_bits-fits binary32 b; a = of_bits-fits binary32 a }
