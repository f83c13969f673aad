-- Each blend function of the compositor is W3C's B, outside the inputs of BlendDifferences.antt: Multiply, Screen, Darken, Lighten, SoftLight and
-- Difference for all values. Assumes nothing.
use mathlib.Core.Path.{◌≡◌, refl, sym, ap, ◌∙◌, subst}
use mathlib.Core.Bool.{Bool, true, false, cond, ◌&&◌, ◌||◌, true≢false}
use lib.Dec.{T}
use lib.Ieee.{Float, nan, inf, fin, binary32, of_bits, add, mul, sub, fits, lt, le, eq, is_nan}
use lib.Ieee.Fits.{add-fits, div-fits}
use Rattle.float_steps.specs.Notation.{◌⊕◌, ◌⊖◌, ◌⊗◌, ◌⊘◌, f0, f1, f2, half}
use Rattle.float_steps.specs.Order.{smaller_of}
use Rattle.ieee_laws.specs.Same.{plain, Same, Zero}
use Rattle.ieee_laws.specs.Size.{doubles}
use Rattle.ieee_laws.proofs.Commute.{mul_commutes, add_commutes}
use Rattle.ieee_laws.proofs.Zero.{zero_times, zero_plus, sub_same, minus_zero}
use Rattle.ieee_laws.proofs.Order.{eq_comm, lt_same}
use Rattle.ieee_laws.proofs.Twice.{twice_moves}
use Rattle.ieee_laws.proofs.Clamp.{smaller_commutes, larger_commutes, one_fits}
use Rattle.ieee_laws.proofs.Abs.{abs_sub}
use Rattle.blends.specs.Blends.{hard_light_of, soft_light_of, curve_of, color_dodge_of, color_burn_of}
use Rattle.pixels.specs.Pixel.{blend_of}
use Rattle.pixels.specs.declared.Params.{Params}
use Rattle.standards.specs.Compositing.{Mode, multiply, screen, overlay, darken, lighten, color_dodge, color_burn, hard_light, soft_light, difference, exclusion, B, hard_light_b, soft_light_b, D, color_dodge_b, color_burn_b}
use Rattle.standards.specs.Operators.{blend_op}
use Rattle.standards.specs.BlendDifferences.{infinite, DodgeOutside, burnt, BurnOutside, BlendOutside}
use Rattle.standards.proofs.Constants.{by_one, zero_is, zero_below_one, two_is, is_half}

-- ---- hard light: at exactly a half the two branches give the same value
at_half : Zero (f2 ⊗ half ⊖ f1)
unfolding of_bits mul sub
at_half = refl

doubled : f2 ⊗ half ≡ f1
unfolding of_bits mul
doubled = refl

with_nan : (z : Float) → z ⊕ nan ⊖ z ⊗ nan ≡ nan
unfolding add sub mul
with_nan nan = refl
with_nan (inf s) = refl
with_nan (fin s m e) = refl

second_branch : (z d : Float) → Zero z → T (fits binary32 d) → infinite d ≡ false → Same (z ⊕ d ⊖ z ⊗ d) d
second_branch z nan q h k = ap plain (with_nan z)
second_branch z (inf s) q h k = absurd (true≢false k)
second_branch z (fin s m e) q h k =
    let d = fin s m e in
    minus_zero binary32 (z ⊕ d) (z ⊗ d) (add-fits binary32 z d) (zero_times binary32 z d tt q) ∙ zero_plus binary32 z d h q

pub hard_light_lem : (s d : Float) → T (fits binary32 s) → T (fits binary32 d) → eq s half && infinite d ≡ false → Same (hard_light_of s d) (hard_light_b d s)
unfolding hard_light_of hard_light_b le
hard_light_lem s d p q x = go (lt s half) (eq s half) refl x
  where
    go : (u v : Bool) → eq s half ≡ v → v && infinite d ≡ false
        → Same (cond u (f2 ⊗ s ⊗ d) (f2 ⊗ s ⊖ f1 ⊕ d ⊖ (f2 ⊗ s ⊖ f1) ⊗ d)) (cond (u || v) (d ⊗ (f2 ⊗ s)) (d ⊕ (f2 ⊗ s ⊖ f1) ⊖ d ⊗ (f2 ⊗ s ⊖ f1)))
    go true v h x = ap plain (mul_commutes binary32 (f2 ⊗ s) d)
    go false false h x = λ i. plain (add_commutes binary32 (f2 ⊗ s ⊖ f1) d i ⊖ mul_commutes binary32 (f2 ⊗ s ⊖ f1) d i)
    go false true h x =
        let e = is_half s p (subst T (sym h) tt) in
        second_branch (f2 ⊗ s ⊖ f1) d (ap (λ (w : Float). plain (f2 ⊗ w ⊖ f1)) e ∙ at_half) q x
        ∙ ap plain (sym (by_one d q) ∙ ap (λ (w : Float). d ⊗ w) (sym doubled) ∙ ap (λ (w : Float). d ⊗ (f2 ⊗ w)) (sym e))

-- ---- dodge and burn: W3C's tests, or the same value
-- the smaller of 1 and x
pub cap : (x : Float) → smaller_of f1 x ≡ cond (lt x f1) x f1
unfolding smaller_of is_nan of_bits
cap x = refl

cap_zero : (x : Float) → Zero x → Zero (smaller_of f1 x)
cap_zero x z = ap plain (cap x ∙ ap (λ (b : Bool). cond b x f1) (lt_same x f0 f1 f1 (z ∙ sym zero_is) refl ∙ zero_below_one)) ∙ z

color_dodge_lem : (s d : Float) → DodgeOutside s d → Same (color_dodge_of s d) (color_dodge_b d s)
unfolding color_dodge_of color_dodge_b le
color_dodge_lem s d h =
    ap (λ (b : Bool). plain (cond (lt d f0 || eq d f0) f0 (cond (lt f1 s || b) f1 (smaller_of x f1)))) (eq_comm f1 s)
    ∙ go (lt d f0) (eq d f0) (lt f1 s) (eq s f1) h.below h.above
  where
    x : Float
    x = d ⊘ (f1 ⊖ s)

    go : (u v w z : Bool) → (u ≡ true → (z ≡ false) × Zero x) → (u || v ≡ false → w ≡ true → lt x f1 ≡ false)
        → Same (cond (u || v) f0 (cond (w || z) f1 (smaller_of x f1))) (cond v f0 (cond z f1 (smaller_of f1 x)))
    go true true w z h k = refl
    go true false w true h k = absurd (true≢false (h refl).0)
    go true false w false h k = zero_is ∙ sym (cap_zero x (h refl).1)
    go false true w z h k = refl
    go false false true true h k = refl
    go false false false true h k = refl
    go false false true false h k = ap plain (sym (cap x ∙ ap (λ (b : Bool). cond b x f1) (k refl refl)))
    go false false false false h k = smaller_commutes binary32 x f1 (div-fits binary32 d (f1 ⊖ s)) one_fits

color_burn_lem : (s d : Float) → BurnOutside s d → Same (color_burn_of s d) (color_burn_b d s)
unfolding color_burn_of color_burn_b le
color_burn_lem s d h =
    ap (λ (b : Bool). plain (cond (lt s f0 || eq s f0) f0 (cond (lt f1 d || b) f1 (f1 ⊖ smaller_of x f1)))) (eq_comm f1 d)
    ∙ go (lt s f0) (eq s f0) (lt f1 d) (eq d f1) h.white h.below h.above
  where
    x : Float
    x = (f1 ⊖ d) ⊘ s

    go : (u v w z : Bool) → (u || v ≡ true → z ≡ false) → (u ≡ true → Zero (burnt d s)) → (u || v ≡ false → w ≡ true → Same (burnt d s) f1)
        → Same (cond (u || v) f0 (cond (w || z) f1 (f1 ⊖ smaller_of x f1))) (cond z f1 (cond v f0 (burnt d s)))
    go true v w true h k l = absurd (true≢false (h refl))
    go true true w false h k l = refl
    go true false w false h k l = zero_is ∙ sym (k refl)
    go false true w true h k l = absurd (true≢false (h refl))
    go false true w false h k l = refl
    go false false true true h k l = refl
    go false false false true h k l = refl
    go false false true false h k l = sym (l refl refl)
    go false false false false h k l = sub_same binary32 f1 f1 (smaller_of x f1) (smaller_of f1 x) refl (smaller_commutes binary32 x f1 (div-fits binary32 (f1 ⊖ d) s) one_fits)

-- ---- soft light is W3C's to the letter
soft_light_lem : (s d : Float) → soft_light_of s d ≡ soft_light_b d s
unfolding soft_light_of soft_light_b curve_of D
soft_light_lem s d = refl

-- ---- exclusion: the double may move from the one colour to the other, if neither overflows
pub doubled_alike : (s d : Float) → T (fits binary32 s) → T (fits binary32 d) → T (doubles binary32 s) → T (doubles binary32 d) → Same (f2 ⊗ s ⊗ d) (f2 ⊗ d ⊗ s)
doubled_alike s d p q h k = ap plain (ap (λ (w : Float). w ⊗ s ⊗ d) two_is ∙ twice_moves binary32 s d p q h k ∙ sym (ap (λ (w : Float). w ⊗ d ⊗ s) two_is))

-- the blends that are W3C's to a zero's sign, for all values
abbrev pub alike : Mode → Bool
alike multiply = true
alike screen = true
alike overlay = false
alike darken = false
alike lighten = false
alike color_dodge = false
alike color_burn = false
alike hard_light = false
alike soft_light = true
alike difference = true
alike exclusion = false

pub blend_exact : (m : Mode) → T (alike m) → (a : Params) (s d : Float) → blend_of (blend_op m) a s d ≡ B m d s
blend_exact multiply w a s d = mul_commutes binary32 s d
blend_exact screen w a s d = λ i. add_commutes binary32 s d i ⊖ mul_commutes binary32 s d i
blend_exact overlay w a s d = absurd w
blend_exact darken w a s d = absurd w
blend_exact lighten w a s d = absurd w
blend_exact color_dodge w a s d = absurd w
blend_exact color_burn w a s d = absurd w
blend_exact hard_light w a s d = absurd w
blend_exact soft_light w a s d = soft_light_lem s d
blend_exact difference w a s d = abs_sub s d
blend_exact exclusion w a s d = absurd w

pub blend_is : (m : Mode) (a : Params) (s d : Float) → T (fits binary32 s) → T (fits binary32 d) → BlendOutside m s d → Same (blend_of (blend_op m) a s d) (B m d s)
blend_is multiply a s d p q x = ap plain (blend_exact multiply tt a s d)
blend_is screen a s d p q x = ap plain (blend_exact screen tt a s d)
blend_is overlay a s d p q x = hard_light_lem d s q p x
blend_is darken a s d p q x = smaller_commutes binary32 s d p q
blend_is lighten a s d p q x = larger_commutes binary32 s d p q
blend_is color_dodge a s d p q x = color_dodge_lem s d x
blend_is color_burn a s d p q x = color_burn_lem s d x
blend_is hard_light a s d p q x = hard_light_lem s d p q x
blend_is soft_light a s d p q x = ap plain (blend_exact soft_light tt a s d)
blend_is difference a s d p q x = ap plain (blend_exact difference tt a s d)
blend_is exclusion a s d p q x = sub_same binary32 (s ⊕ d) (d ⊕ s) (f2 ⊗ s ⊗ d) (f2 ⊗ d ⊗ s) (ap plain (add_commutes binary32 s d)) x
