-- W3C's formula by its steps: with none of them exchanged it is what W3C prints, by computation; and with a mode's own, its blend function is the
-- compositor's, for all values. Assumes nothing.
use mathlib.Core.Path.{◌≡◌, refl, ap}
use mathlib.Core.Bool.{Bool, true, false, cond}
use mathlib.Core.List.{[]}
use lib.Dec.{T}
use lib.Ieee.{Float, binary32, fits, lt, le}
use lib.Ieee.Fits.{div-fits}
use Rattle.float_steps.specs.Notation.{◌⊕◌, ◌⊖◌, ◌⊗◌, ◌⊘◌, f0, f1, f2, half}
use Rattle.float_steps.specs.Order.{smaller_of, unit_of}
use Rattle.ieee_laws.specs.Same.{plain, Same}
use Rattle.ieee_laws.proofs.Commute.{mul_commutes, add_commutes}
use Rattle.ieee_laws.proofs.Zero.{sub_same}
use Rattle.ieee_laws.proofs.Clamp.{smaller_commutes, larger_commutes, one_fits}
use Rattle.blends.specs.Blends.{hard_light_of, color_dodge_of, color_burn_of}
use Rattle.pixels.specs.Pixel.{blend_of}
use Rattle.pixels.specs.declared.Params.{Params}
use Rattle.standards.specs.Compositing.{Mode, multiply, screen, overlay, darken, lighten, color_dodge, color_burn, hard_light, soft_light, difference, exclusion, B, hard_light_b, color_dodge_b, color_burn_b, co, αo}
use Rattle.standards.specs.Operators.{blend_op}
use Rattle.standards.specs.BlendSteps.{steps, hard_light_by, color_dodge_by, color_burn_by, blend_by, colour_by, alpha_by}
use Rattle.standards.proofs.Blends.{blend_exact}

-- ---- as printed
blend_printed : (m : Mode) (Cb Cs : Float) → blend_by [] m Cb Cs ≡ B m Cb Cs
unfolding hard_light_by hard_light_b color_dodge_by color_dodge_b color_burn_by color_burn_b
blend_printed multiply Cb Cs = refl
blend_printed screen Cb Cs = refl
blend_printed overlay Cb Cs = refl
blend_printed darken Cb Cs = refl
blend_printed lighten Cb Cs = refl
blend_printed color_dodge Cb Cs = refl
blend_printed color_burn Cb Cs = refl
blend_printed hard_light Cb Cs = refl
blend_printed soft_light Cb Cs = refl
blend_printed difference Cb Cs = refl
blend_printed exclusion Cb Cs = refl

pub colour_printed : (m : Mode) (Cs αs Cb αb : Float) → colour_by [] m Cs αs Cb αb ≡ co m Cs αs Cb αb
colour_printed m Cs αs Cb αb = ap (λ (v : Float). αs ⊗ unit_of ((f1 ⊖ αb) ⊗ Cs ⊕ αb ⊗ v) ⊕ (f1 ⊖ αs) ⊗ αb ⊗ Cb) (blend_printed m Cb Cs)

pub alpha_printed : (αs αb : Float) → alpha_by [] αs αb ≡ αo αs αb
alpha_printed αs αb = refl

-- ---- with a mode's steps
hard_light_lem : (s d : Float) → hard_light_of s d ≡ hard_light_by (steps hard_light) d s
unfolding hard_light_of hard_light_by
hard_light_lem s d = go (lt s half)
  where
    go : (b : Bool) → cond b (f2 ⊗ s ⊗ d) (f2 ⊗ s ⊖ f1 ⊕ d ⊖ (f2 ⊗ s ⊖ f1) ⊗ d) ≡ cond b (d ⊗ (f2 ⊗ s)) (d ⊕ (f2 ⊗ s ⊖ f1) ⊖ d ⊗ (f2 ⊗ s ⊖ f1))
    go true = mul_commutes binary32 (f2 ⊗ s) d
    go false = λ i. add_commutes binary32 (f2 ⊗ s ⊖ f1) d i ⊖ mul_commutes binary32 (f2 ⊗ s ⊖ f1) d i

-- under two tests that both have
tested : (u v : Bool) (x y z w : Float) → Same z w → Same (cond u x (cond v y z)) (cond u x (cond v y w))
tested true v x y z w e = refl
tested false true x y z w e = refl
tested false false x y z w e = e

capped : (x : Float) → T (fits binary32 x) → Same (smaller_of x f1) (smaller_of f1 x)
capped x h = smaller_commutes binary32 x f1 h one_fits

color_dodge_lem : (s d : Float) → Same (color_dodge_of s d) (color_dodge_by (steps color_dodge) d s)
unfolding color_dodge_of color_dodge_by
color_dodge_lem s d = let x = d ⊘ (f1 ⊖ s) in tested (le d f0) (le f1 s) f0 f1 (smaller_of x f1) (smaller_of f1 x) (capped x (div-fits binary32 d (f1 ⊖ s)))

color_burn_lem : (s d : Float) → Same (color_burn_of s d) (color_burn_by (steps color_burn) d s)
unfolding color_burn_of color_burn_by
color_burn_lem s d =
    let x = (f1 ⊖ d) ⊘ s in
    tested (le s f0) (le f1 d) f0 f1 (f1 ⊖ smaller_of x f1) (f1 ⊖ smaller_of f1 x)
    (sub_same binary32 f1 f1 (smaller_of x f1) (smaller_of f1 x) refl (capped x (div-fits binary32 (f1 ⊖ d) s)))

pub blend_by_lem : (m : Mode) (a : Params) (s d : Float) → T (fits binary32 s) → T (fits binary32 d) → Same (blend_of (blend_op m) a s d) (blend_by (steps m) m d s)
blend_by_lem multiply a s d p q = ap plain (blend_exact multiply tt a s d)
blend_by_lem screen a s d p q = ap plain (blend_exact screen tt a s d)
blend_by_lem overlay a s d p q = ap plain (hard_light_lem d s)
blend_by_lem darken a s d p q = smaller_commutes binary32 s d p q
blend_by_lem lighten a s d p q = larger_commutes binary32 s d p q
blend_by_lem color_dodge a s d p q = color_dodge_lem s d
blend_by_lem color_burn a s d p q = color_burn_lem s d
blend_by_lem hard_light a s d p q = ap plain (hard_light_lem s d)
blend_by_lem soft_light a s d p q = ap plain (blend_exact soft_light tt a s d)
blend_by_lem difference a s d p q = ap plain (blend_exact difference tt a s d)
blend_by_lem exclusion a s d p q = λ i. plain (add_commutes binary32 s d i ⊖ f2 ⊗ s ⊗ d)
