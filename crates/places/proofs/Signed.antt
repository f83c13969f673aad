-- Bounds of signed sums, halves and remainders, and a signed local read back from its bits. Assumes nothing.
use mathlib.Core.Path.{◌≡◌, ap, ◌∙◌}
use mathlib.Core.Bool.{Bool, true, false, cond}
use Prim.Native.Nat.{ℕ, zero, suc, ◌+◌, ◌-◌, ◌/◌, ◌<◌, ◌≤◌}
use native.Mathlib.Omega.{arith}
use lib.Dec.{ltb}
use lib.IntN.{ℤ, pos, negsuc, neg_ℤ, ◌+ℤ◌, ◌-ℤ◌}
use lib.Signed.{mag, quot_z}
use borrow.Author.Tests.{le-ltb}
use mir.Syntax.{w64}
use mir.Val.{SFits, to_z, of_z}
use mir.Facts.{to_z-of_z}

-- a number small enough fits, and is read back from its bits
pub sfits : {z : ℤ} → mag z < 9223372036854775808 → SFits w64 z
sfits h = record { sfits = h }

pub back : {z : ℤ} → mag z < 9223372036854775808 → to_z w64 (of_z w64 z) ≡ z
back h = to_z-of_z (sfits h)

picked : (t : Bool) (a b : ℕ) → mag (cond t (negsuc (b - suc a)) (pos (a - b))) ≤ a + b
picked true a b = omega arith
picked false a b = omega arith

pub mag_add : (x y : ℤ) → mag (x +ℤ y) ≤ mag x + mag y + 1
mag_add (pos a) (pos b) = omega arith
mag_add (pos a) (negsuc b) = omega (arith, picked (ltb a (suc b)) a (suc b))
mag_add (negsuc a) (pos b) = omega (arith, picked (ltb b (suc a)) b (suc a))
mag_add (negsuc a) (negsuc b) = omega arith

mag_neg : (z : ℤ) → mag (neg_ℤ z) ≤ mag z + 1
mag_neg (pos zero) = omega arith
mag_neg (pos (suc n)) = omega arith
mag_neg (negsuc n) = omega arith

pub mag_sub : (x y : ℤ) → mag (x -ℤ y) ≤ mag x + mag y + 2
mag_sub x y = omega (arith, mag_add x (neg_ℤ y), mag_neg y)

mag_down : (r a : ℕ) → r ≤ suc a → mag (neg_ℤ (pos r)) ≤ a
mag_down zero a h = omega arith
mag_down (suc r) a h = omega arith

pub mag_half : (z : ℤ) → mag (quot_z z (pos 2)) ≤ mag z
mag_half (pos a) = omega arith
mag_half (negsuc a) = mag_down (suc a / 2) a (omega arith)

-- −1 − z of a negative z
pub minus_one : {z : ℤ} → z ≡ negsuc (mag z) → negsuc 0 -ℤ z ≡ pos (mag z)
minus_one {z} e = ap (λ (y : ℤ). negsuc 0 -ℤ y) e ∙ rw (le-ltb (suc (mag z)) 1 (omega arith)) (ap pos (omega arith))
