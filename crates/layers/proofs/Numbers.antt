-- A signed number that a call answers, as the code holds it in a local. Assumes nothing.
use mathlib.Core.Path.{◌≡◌, ◌∙◌}
use Prim.Native.Nat.{ℕ, ◌^◌, ◌<◌}
use lib.IntN.{ℤ}
use lib.Signed.{mag}
use native.Mathlib.Omega.{arith}
use mir.Facts.{to_z-of_z}
use mir.Syntax.{w64}
use mir.Val.{SFits, hbits, of_z, to_z}
use borrow.Author.Rules.{sfits_of}
use Rattle.pictures.specs.Shapes.{nat_of}
use Rattle.pictures.proofs.Ranges.{nat_mag}

pub answered : {z y : ℤ} → mag z < 2 ^ hbits w64 → z ≡ y → to_z w64 (of_z w64 z) ≡ y
answered ok e = to_z-of_z {w = w64} (sfits_of ok) ∙ e

-- a number that was made natural
pub natural_small : {n : ℕ} (z : ℤ) → n ≡ nat_of z → SFits w64 z → n < 2 ^ 63
natural_small z e h = omega (arith, e, nat_mag z, h.sfits)
