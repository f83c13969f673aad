-- A signed number that the code holds as its bits, told apart by the test "below zero". Assumes nothing.
use mathlib.Core.Path.{◌≡◌, refl}
use mathlib.Core.Bool.{true, false}
use Prim.Native.Nat.{ℕ, ◌<◌}
use native.Mathlib.Omega.{arith}
use lib.Dec.{T}
use lib.IntN.{ℤ, pos, negsuc, nat_abs}
use lib.Signed.{lt_z, mag, non_neg}
use borrow.Author.Tests.{ltb-true}
use mir.Syntax.{w64}
use mir.Val.{SFits, Fits, to_z, of_z}
use mir.Facts.{to_z-of_z}

negative : (z : ℤ) → lt_z z (pos 0) ≡ true → z ≡ negsuc (mag z)
negative (pos n) e = let h : n < 0 = ltb-true n 0 e in absurd (omega arith)
negative (negsuc n) e = refl

natural : (z : ℤ) → lt_z z (pos 0) ≡ false → z ≡ pos (nat_abs z)
natural (pos n) e = refl
natural (negsuc n) e = let x : ◌≡◌ {A = ℕ} 0 1 = cc in absurd (omega arith)

fits_as : (z : ℤ) → lt_z z (pos 0) ≡ false → SFits w64 z → T (non_neg z) × Fits w64 (nat_abs z)
fits_as (pos n) e f = (tt, record { fits = omega (arith, f.sfits) })
fits_as (negsuc n) e f = let x : ◌≡◌ {A = ℕ} 0 1 = cc in absurd (omega arith)

module _ {z : ℤ} (f : SFits w64 z) where
  pub below_zero_lem : lt_z (to_z w64 (of_z w64 z)) (pos 0) ≡ true → z ≡ negsuc (mag z)
  below_zero_lem e = negative z (rw (to_z-of_z f) at e)

  pub from_zero : lt_z (to_z w64 (of_z w64 z)) (pos 0) ≡ false → z ≡ pos (nat_abs z)
  from_zero e = natural z (rw (to_z-of_z f) at e)

  -- it casts to an unsigned number
  pub casts : lt_z (to_z w64 (of_z w64 z)) (pos 0) ≡ false → T (non_neg (to_z w64 (of_z w64 z))) × Fits w64 (nat_abs (to_z w64 (of_z w64 z)))
  casts e = rw (to_z-of_z f) (fits_as z (rw (to_z-of_z f) at e) f)
