-- Numbers in their ranges, and the bounds of a picture whose shape is in its range. Assumes nothing.
use mathlib.Core.Path.{◌≡◌, refl}
use mathlib.Core.Bool.{Bool, true, false, ◌||◌, true≢false, false≢true}
use mathlib.Core.Logic.{inl, inr}
use Prim.Native.Nat.{ℕ, ◌*◌, ◌≤◌}
use native.Mathlib.Omega.{arith}
use native.Mathlib.Nat.{mul-le-mul}
use lib.Dec.{eqb}
use lib.IntN.{ℤ, pos, negsuc}
use lib.Signed.{mag}
use borrow.Author.Tests.{ltb-false, eqb-true, not-false}
use Rattle.pictures.specs.declared.Shape.{Shape}
use Rattle.pictures.specs.Shapes.{nat_of, outside_z, bad_channels, most_side, bad_shape, sample_count}
use Rattle.pictures.specs.Steps.{Channels}

-- ---- tests that fail

pub both_fail : (a b : Bool) → (a || b) ≡ false → (a ≡ false) × (b ≡ false)
both_fail true b e = absurd (true≢false e)
both_fail false b e = (refl, e)

pub all_fail : (a b c : Bool) → (a || b || c) ≡ false → (a ≡ false) × (b ≡ false) × (c ≡ false)
all_fail true b c e = absurd (true≢false e)
all_fail false true c e = absurd (true≢false e)
all_fail false false c e = (refl, refl, e)

-- ---- a number

pub nat_mag : (z : ℤ) → nat_of z ≤ mag z
unfolding nat_of
nat_mag (pos n) = omega arith
nat_mag (negsuc n) = omega arith

-- z is a natural number from lo to hi
pub record Ranged (lo hi : ℕ) (z : ℤ) : Type 0 where
  pub natural : z ≡ pos (nat_of z)
  pub least : lo ≤ nat_of z
  pub most : nat_of z ≤ hi

pub ranged : (lo hi : ℕ) (z : ℤ) → outside_z (pos lo) (pos hi) z ≡ false → Ranged lo hi z
unfolding outside_z nat_of
ranged lo hi (pos n) e = let p = both_fail _ _ e in record { natural = refl; least = ltb-false n lo p.0; most = ltb-false hi n p.1 }
ranged lo hi (negsuc n) e = absurd (true≢false e)

-- ---- channels

one_of : (a b c : Bool) (n : ℕ) → eqb n 1 ≡ a → eqb n 3 ≡ b → eqb n 4 ≡ c → (a || b || c) ≡ true → Channels n
one_of true b c n p q r e = inl (eqb-true n 1 p)
one_of false true c n p q r e = inr (inl (eqb-true n 3 q))
one_of false false true n p q r e = inr (inr (eqb-true n 4 r))
one_of false false false n p q r e = absurd (false≢true e)

pub record Channelled (z : ℤ) : Type 0 where
  pub natural : z ≡ pos (nat_of z)
  pub kind : Channels (nat_of z)

pub channelled : (z : ℤ) → bad_channels z ≡ false → Channelled z
unfolding bad_channels nat_of
channelled (pos n) e = record { natural = refl; kind = one_of _ _ _ n refl refl refl (not-false _ e) }
channelled (negsuc n) e = absurd (true≢false e)

pub channels_most : (n : ℕ) → Channels n → n ≤ 4
channels_most n (inl e) = omega arith
channels_most n (inr (inl e)) = omega arith
channels_most n (inr (inr e)) = omega arith

pub channels_least : (n : ℕ) → Channels n → 1 ≤ n
channels_least n (inl e) = omega arith
channels_least n (inr (inl e)) = omega arith
channels_least n (inr (inr e)) = omega arith

-- ---- a picture's shape

pub record Shaped (s : Shape) : Type 0 where
  pub wide : Ranged 0 most_side s.width
  pub high : Ranged 0 most_side s.height
  pub deep : Channelled s.channels

pub shaped : (s : Shape) → bad_shape s ≡ false → Shaped s
unfolding bad_shape
shaped s e =
    let p = all_fail _ _ _ e in record { wide = ranged _ _ _ p.0; high = ranged _ _ _ p.1; deep = channelled _ p.2 }

pub plane_most : {s : Shape} → Shaped s → nat_of s.width * nat_of s.height ≤ most_side * most_side
plane_most h = mul-le-mul h.wide.most h.high.most

pub samples_most : {s : Shape} → Shaped s → sample_count s ≤ most_side * most_side * 4
samples_most h = mul-le-mul (plane_most h) (channels_most _ h.deep.kind)
