-- `BlendOutside` excludes no input at which the two blend functions are equal: where they are, it holds. Exclusion's is left out: that two differences are
-- equal only where their products are is not proved. Assumes nothing.
use mathlib.Core.Path.{◌≡◌, refl, sym, ap, ◌∙◌, subst}
use mathlib.Core.Bool.{Bool, true, false, cond, not, ◌&&◌, ◌||◌, true≢false}
use lib.Dec.{T}
use lib.Ieee.{Float, nan, inf, fin, binary32, of_bits, add, sub, mul, fits, lt, le, eq, is_nan}
use Rattle.float_steps.specs.Notation.{◌⊖◌, ◌⊘◌, f0, f1, half}
use Rattle.float_steps.specs.Order.{smaller_of}
use Rattle.ieee_laws.specs.Same.{plain, Same, Zero}
use Rattle.ieee_laws.proofs.Order.{lt_same}
use Rattle.blends.specs.Blends.{hard_light_of, color_dodge_of, color_burn_of}
use Rattle.pixels.specs.Pixel.{blend_of}
use Rattle.pixels.specs.declared.Params.{Params}
use Rattle.standards.specs.Compositing.{Mode, multiply, screen, overlay, darken, lighten, color_dodge, color_burn, hard_light, soft_light, difference, exclusion, B, hard_light_b, color_dodge_b, color_burn_b}
use Rattle.standards.specs.Operators.{blend_op}
use Rattle.standards.specs.BlendSteps.{source_doubled, among, steps}
use Rattle.standards.specs.BlendDifferences.{infinite, DodgeOutside, burnt, BurnOutside, BlendOutside}
use Rattle.standards.proofs.Constants.{zero_is, is_zero, is_one, is_half}
use Rattle.standards.proofs.InRange.{zero_in, one_in}
use Rattle.standards.proofs.Blends.{cap}

-- ---- 0, 1 and the tests
zero_or_one : Same f0 f1 → ⊥
unfolding of_bits lt
zero_or_one h = true≢false (ap (λ (z : Float). lt z f1) h)

below_no_zero : (x : Float) → T (fits binary32 x) → lt x f0 ≡ true → eq x f0 ≡ false
below_no_zero x h i = go (eq x f0) refl
  where
    go : (b : Bool) → eq x f0 ≡ b → b ≡ false
    go false k = refl
    go true k = sym i ∙ lt_same x f0 f0 f0 (is_zero x h (subst T (sym k) tt) ∙ sym zero_is) refl ∙ zero_in.low

above_no_one : (x : Float) → T (fits binary32 x) → lt f1 x ≡ true → eq x f1 ≡ false
above_no_one x h i = go (eq x f1) refl
  where
    go : (b : Bool) → eq x f1 ≡ b → b ≡ false
    go false k = refl
    go true k = sym i ∙ ap (λ (z : Float). lt f1 z) (is_one x h (subst T (sym k) tt)) ∙ one_in.high

pub no_zero : (x : Float) → le x f0 ≡ false → eq x f0 ≡ false
unfolding le
no_zero x k = go (lt x f0) k
  where
    go : (b : Bool) → b || eq x f0 ≡ false → eq x f0 ≡ false
    go true k = absurd (true≢false k)
    go false k = k

-- a test that is known
taken : (b : Bool) (x y : Float) → b ≡ true → Same (cond b x y) x
taken b x y e = ap (λ (v : Bool). plain (cond v x y)) e

passed : (b : Bool) (x y : Float) → b ≡ false → Same (cond b x y) y
passed b x y e = ap (λ (v : Bool). plain (cond v x y)) e

at_most : (x y : Float) → lt x y ≡ true → le x y ≡ true
unfolding le
at_most x y e = ap (λ (b : Bool). b || eq x y) e

-- ---- ColorDodge
dodge_needed : (s d : Float) → T (fits binary32 s) → T (fits binary32 d) → Same (color_dodge_of s d) (color_dodge_b d s) → DodgeOutside s d
unfolding color_dodge_of color_dodge_b
dodge_needed s d hs hd e = record { below = below; above = above }
  where
    x : Float
    x = d ⊘ (f1 ⊖ s)

    below : lt d f0 ≡ true → (eq s f1 ≡ false) × Zero x
    below i =
        go (eq s f1)
        (sym (taken (le d f0) f0 (cond (le f1 s) f1 (smaller_of x f1)) (at_most d f0 i)) ∙ e ∙ passed (eq d f0) f0 (cond (eq s f1) f1 (smaller_of f1 x)) (below_no_zero d hd i))
      where
        by : (b : Bool) → Same f0 (cond b x f1) → Zero x
        by true e = sym e ∙ zero_is
        by false e = absurd (zero_or_one e)

        go : (z : Bool) → Same f0 (cond z f1 (smaller_of f1 x)) → (z ≡ false) × Zero x
        go true e = absurd (zero_or_one e)
        go false e = (refl, by (lt x f1) (e ∙ ap plain (cap x)))

    above : le d f0 ≡ false → lt f1 s ≡ true → lt x f1 ≡ false
    above k i =
        go (lt x f1) refl
        (sym (passed (le d f0) f0 (cond (le f1 s) f1 (smaller_of x f1)) k ∙ taken (le f1 s) f1 (smaller_of x f1) (at_most f1 s i))
        ∙ e
        ∙ passed (eq d f0) f0 (cond (eq s f1) f1 (smaller_of f1 x)) (no_zero d k)
        ∙ passed (eq s f1) f1 (smaller_of f1 x) (above_no_one s hs i)
        ∙ ap plain (cap x))
      where
        go : (b : Bool) → lt x f1 ≡ b → Same f1 (cond b x f1) → b ≡ false
        go true m e = sym m ∙ lt_same x f1 f1 f1 (sym e) refl ∙ one_in.high
        go false m e = refl

-- ---- ColorBurn
burn_needed : (s d : Float) → T (fits binary32 s) → T (fits binary32 d) → Same (color_burn_of s d) (color_burn_b d s) → BurnOutside s d
unfolding color_burn_of color_burn_b
burn_needed s d hs hd e = record { white = white; below = λ i. sym (past (at_most s f0 i) ∙ passed (eq s f0) f0 (burnt d s) (below_no_zero s hs i)) ∙ zero_is; above = above }
  where
    ours : Float
    ours = f1 ⊖ smaller_of ((f1 ⊖ d) ⊘ s) f1

    black : le s f0 ≡ true → Same f0 (cond (eq d f1) f1 (cond (eq s f0) f0 (burnt d s)))
    black i = sym (taken (le s f0) f0 (cond (le f1 d) f1 ours) i) ∙ e

    white : le s f0 ≡ true → eq d f1 ≡ false
    white i = go (eq d f1) (black i)
      where
        go : (b : Bool) → Same f0 (cond b f1 (cond (eq s f0) f0 (burnt d s))) → b ≡ false
        go true e = absurd (zero_or_one e)
        go false e = refl

    past : le s f0 ≡ true → Same f0 (cond (eq s f0) f0 (burnt d s))
    past i = black i ∙ passed (eq d f1) f1 (cond (eq s f0) f0 (burnt d s)) (white i)

    above : le s f0 ≡ false → lt f1 d ≡ true → Same (burnt d s) f1
    above k i =
        sym (sym (passed (le s f0) f0 (cond (le f1 d) f1 ours) k ∙ taken (le f1 d) f1 ours (at_most f1 d i))
        ∙ e
        ∙ passed (eq d f1) f1 (cond (eq s f0) f0 (burnt d s)) (above_no_one d hd i)
        ∙ passed (eq s f0) f0 (burnt d s) (no_zero s k))

-- ---- HardLight at a half, beside an infinity
here : (t : Bool) → hard_light_of half (inf t) ≡ nan
unfolding hard_light_of of_bits lt add sub mul
here t = refl

pub there : (t : Bool) → hard_light_b (inf t) half ≡ inf t
unfolding hard_light_b of_bits le lt eq mul
there true = refl
there false = refl

and_false : (b : Bool) → b && false ≡ false
and_false true = refl
and_false false = refl

hard_needed : (s d : Float) → T (fits binary32 s) → Same (hard_light_of s d) (hard_light_b d s) → eq s half && infinite d ≡ false
unfolding is_nan
hard_needed s nan h e = and_false (eq s half)
hard_needed s (fin t m n) h e = and_false (eq s half)
hard_needed s (inf t) h e = go (eq s half) refl
  where
    go : (b : Bool) → eq s half ≡ b → b && true ≡ false
    go false k = refl
    go true k =
        let i = is_half s h (subst T (sym k) tt) in
        ap is_nan (sym (ap plain (here t)) ∙ ap (λ (z : Float). plain (hard_light_of z (inf t))) (sym i) ∙ e ∙ ap (λ (z : Float). plain (hard_light_b (inf t) z)) i ∙ ap plain (there t))

-- ---- every mode but Exclusion
abbrev pub undoubled : Mode → Bool
undoubled m = not (among source_doubled (steps m))

pub blend_needed : (m : Mode) → T (undoubled m) → (a : Params) (s d : Float) → T (fits binary32 s) → T (fits binary32 d) → Same (blend_of (blend_op m) a s d) (B m d s) → BlendOutside m s d
blend_needed multiply w a s d p q e = tt
blend_needed screen w a s d p q e = tt
blend_needed overlay w a s d p q e = hard_needed d s q e
blend_needed darken w a s d p q e = tt
blend_needed lighten w a s d p q e = tt
blend_needed color_dodge w a s d p q e = dodge_needed s d p q e
blend_needed color_burn w a s d p q e = burn_needed s d p q e
blend_needed hard_light w a s d p q e = hard_needed s d p e
blend_needed soft_light w a s d p q e = tt
blend_needed difference w a s d p q e = tt
blend_needed exclusion w a s d p q e = absurd w
