-- Where both documents' numbers lie. Definitions only.
use Rattle.std.specs.Prelude.{◌≡◌, ◌⊎◌, Bool, true, false, ◌||◌, T, Float}
use Rattle.std.specs.Float.{binary32}
use Rattle.std.specs.Float.Ieee.{fits, lt, eq, is_nan}
use Rattle.float_steps.specs.Notation.{f0, f1}
use Rattle.pictures.specs.declared.Rgba.{Rgba}

-- a number of binary32 from 0 to 1, either zero included
pub record InUnit (x : Float) : Type 0 where
  pub held : T (fits binary32 x)
  pub number : is_nan x ≡ false
  pub low : lt x f0 ≡ false
  pub high : lt f1 x ≡ false

pub record InUnits (p : Rgba) : Type 0 where
  pub r : InUnit p.r
  pub g : InUnit p.g
  pub b : InUnit p.b
  pub a : InUnit p.a

-- one of two alphas is 1, or 0
abbrev pub opaque : Float → Float → Bool
opaque sa da = eq sa f1 || eq da f1

abbrev pub absent : Float → Float → Bool
absent sa da = eq sa f0 || eq da f0

-- just one of them is 0
abbrev pub OneAbsent : Float → Float → Type 0
OneAbsent sa da = ((eq sa f0 ≡ true) × (eq da f0 ≡ false)) ⊎ ((eq da f0 ≡ true) × (eq sa f0 ≡ false))
