-- The smaller and the larger of two values commute; clamp does not tell the two zeros apart, and a second clamp does nothing. Assumes nothing.
use mathlib.Core.Path.{◌≡◌, refl, sym, ap, ◌∙◌}
use mathlib.Core.Bool.{Bool, true, false, cond, true≢false}
use lib.Dec.{T}
use lib.Ieee.{Float, Format, binary32, of_bits, lt, is_nan, fits}
use lib.Ieee.Fits.{cond-fits}
use lib.Ieee.Bits.{of_bits-fits}
use Rattle.float_steps.specs.Notation.{f0, f1}
use Rattle.float_steps.specs.Order.{smaller_of, larger_of, clamp_of, unit_of}
use Rattle.ieee_laws.specs.Same.{plain, Same}
use Rattle.ieee_laws.proofs.Order.{lt_asym, tie, nan_lt, lt_nan, is_nan_lem, lt_same}

-- two choices between a and b, by tests x and y that are not both true, and that a NaN makes false
choice : (f : Format) (a b : Float) (x y : Bool) → T (fits f a) → T (fits f b) → (is_nan a ≡ true → y ≡ false) → (is_nan b ≡ true → x ≡ false) → (x ≡ true → y ≡ false) → (x ≡ false → y ≡ false → is_nan a ≡ false → is_nan b ≡ false → Same a b)
    → Same (cond (is_nan a) b (cond x b a)) (cond (is_nan b) a (cond y a b))
choice f a b x y p q na nb asym tied = go (is_nan a) (is_nan b) x y refl refl na nb asym tied
  where
    go : (u v x y : Bool) → is_nan a ≡ u → is_nan b ≡ v → (u ≡ true → y ≡ false) → (v ≡ true → x ≡ false) → (x ≡ true → y ≡ false) → (x ≡ false → y ≡ false → u ≡ false → v ≡ false → Same a b)
        → Same (cond u b (cond x b a)) (cond v a (cond y a b))
    go true true x y i j k l m n = ap plain (is_nan_lem b j ∙ sym (is_nan_lem a i))
    go true false x true i j k l m n = absurd (true≢false (k refl))
    go true false x false i j k l m n = refl
    go false true true y i j k l m n = absurd (true≢false (l refl))
    go false true false y i j k l m n = refl
    go false false true true i j k l m n = absurd (true≢false (m refl))
    go false false true false i j k l m n = refl
    go false false false true i j k l m n = refl
    go false false false false i j k l m n = n refl refl refl refl

nan_less : (a b : Float) → is_nan a ≡ true → lt a b ≡ false
nan_less a b i = ap (λ (w : Float). lt w b) (is_nan_lem a i) ∙ nan_lt b

less_nan : (a b : Float) → is_nan b ≡ true → lt a b ≡ false
less_nan a b i = ap (λ (w : Float). lt a w) (is_nan_lem b i) ∙ lt_nan a

pub smaller_commutes : (f : Format) (a b : Float) → T (fits f a) → T (fits f b) → Same (smaller_of a b) (smaller_of b a)
unfolding smaller_of
smaller_commutes f a b p q = choice f a b (lt b a) (lt a b) p q (nan_less a b) (nan_less b a) (lt_asym b a) (λ x y u v. tie f a b p q u v y x)

pub larger_commutes : (f : Format) (a b : Float) → T (fits f a) → T (fits f b) → Same (larger_of a b) (larger_of b a)
unfolding larger_of
larger_commutes f a b p q = choice f a b (lt a b) (lt b a) p q (less_nan b a) (less_nan a b) (lt_asym a b) (λ x y u v. tie f a b p q u v x y)

pub clamp_same : (x y lo hi : Float) → Same x y → Same (clamp_of x lo hi) (clamp_of y lo hi)
unfolding clamp_of
clamp_same x y lo hi p =
    (λ i. plain (cond (lt_same x y lo lo p refl i) lo (cond (lt_same hi hi x y refl p i) hi x))) ∙ go (lt y lo) (lt hi y)
  where
    go : (u v : Bool) → Same (cond u lo (cond v hi x)) (cond u lo (cond v hi y))
    go true v = refl
    go false true = refl
    go false false = p

-- ---- a value of the format stays one
pub smaller_fits : (f : Format) (x y : Float) → T (fits f x) → T (fits f y) → T (fits f (smaller_of x y))
unfolding smaller_of
smaller_fits f x y h k = cond-fits f (is_nan x) y (cond (lt y x) y x) k (cond-fits f (lt y x) y x k h)

pub zero_fits : T (fits binary32 f0)
zero_fits = of_bits-fits binary32 0

pub one_fits : T (fits binary32 f1)
one_fits = of_bits-fits binary32 0x3f80_0000

pub unit_fits : (x : Float) → T (fits binary32 x) → T (fits binary32 (unit_of x))
unfolding clamp_of
unit_fits x h = cond-fits binary32 (lt x f0) f0 (cond (lt f1 x) f1 x) zero_fits (cond-fits binary32 (lt f1 x) f1 x one_fits h)

-- ---- clamp to 0 and 1
pub unit_same : (x y : Float) → Same x y → Same (unit_of x) (unit_of y)
unit_same x y p = clamp_same x y f0 f1 p

pub unit_twice : (v : Float) → unit_of (unit_of v) ≡ unit_of v
unfolding clamp_of
unit_twice v = go (lt v f0) (lt f1 v) refl refl
  where
    go : (a b : Bool) → lt v f0 ≡ a → lt f1 v ≡ b → cond (lt (cond a f0 (cond b f1 v)) f0) f0 (cond (lt f1 (cond a f0 (cond b f1 v))) f1 (cond a f0 (cond b f1 v))) ≡ cond a f0 (cond b f1 v)
    go true b p q = unfold lt of_bits in refl
    go false true p q = unfold lt of_bits in refl
    go false false p q = (λ i. cond (p i) f0 (cond (q i) f1 v))

-- a value that is neither below 0 nor above 1, or a NaN, is kept
pub unit_kept : (v : Float) → lt v f0 ≡ false → lt f1 v ≡ false → unit_of v ≡ v
unfolding clamp_of
unit_kept v p q = λ i. cond (p i) f0 (cond (q i) f1 v)
