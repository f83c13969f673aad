-- The hypotheses of PorterDuff.antt exclude no input at which the two sides are equal: where a colour or an alpha is the paper's, its hypothesis holds.
-- Over and DstOver's colours are left out: where nothing is covered they keep the destination's colour, which the paper's quotient may happen to be.
-- Assumes nothing.
use mathlib.Core.Path.{◌≡◌, refl, sym, ap, ◌∙◌, subst}
use mathlib.Core.Bool.{Bool, true, false, cond, ◌||◌}
use lib.Dec.{T}
use lib.Ieee.{Float, binary32, of_bits, fits, lt, le, eq}
use lib.Ieee.Fits.{mul-fits}
use Rattle.float_steps.specs.Notation.{◌⊕◌, ◌⊖◌, ◌⊗◌, f0, f1}
use Rattle.ieee_laws.specs.Same.{plain, Same, Zero}
use Rattle.ieee_laws.proofs.Commute.{mul_commutes, add_commutes}
use Rattle.ieee_laws.proofs.Order.{lt_same}
use Rattle.pictures.specs.declared.Rgba.{Rgba}
use Rattle.pixels.specs.declared.Params.{Params}
use Rattle.pixels.specs.Pixel.{pixel_of}
use Rattle.standards.specs.PorterDuff.{Operator, A, B, AoverB, BoverA, AinB, BinA, AoutB, BoutA, AatopB, BatopA, AxorB, AplusB, coverage}
use Rattle.standards.specs.PorterDuff as P
use Rattle.standards.specs.Operators.{Colour, at, Held, porter_duff_op}
use Rattle.standards.specs.FractionDifferences.{form, IsColour, IsAlpha, colour_by, coverage_by, LeftOut, Cleared, ColourOutside, AlphaOutside}
use Rattle.standards.proofs.Constants.{zero_is, by_one}
use Rattle.standards.proofs.LeftOut.{before_only, after_only, cleared_only, clear_only}
use Rattle.standards.proofs.Pixels.{on_premult, on_clear}
use Rattle.standards.proofs.Fractions.{over_alpha_lem, exchanged_alpha, cleared_alpha, cleared_form}
use Rattle.standards.proofs.Domain.{undivided}

-- an alpha that is a zero where it is not above 0 is not below 0
not_below : (a : Float) → Cleared a a → lt a f0 ≡ false
unfolding le
not_below a z = go (lt a f0) refl
  where
    go : (b : Bool) → lt a f0 ≡ b → b ≡ false
    go false k = refl
    go true k = sym k ∙ lt_same a f0 f0 f0 (z (subst (λ (b : Bool). T (b || eq a f0)) (sym k) tt) ∙ sym zero_is) refl ∙ unfold lt of_bits in refl

kept_only : (a : Float) → Same (cond (le a f0) f0 a) a → lt a f0 ≡ false
kept_only a e = not_below a (go (le a f0) e)
  where
    go : (b : Bool) → Same (cond b f0 a) a → T b → Zero a
    go true e t = sym e ∙ zero_is
    go false e t = absurd t

module _ (p : Params) (s d : Rgba) (hs : Held s) (hd : Held d) where
  abbrev sa : Float
  sa = s.a

  abbrev da : Float
  da = d.a

  -- DstIn and DstOut, with the alpha a
  cleared_alpha_only : (a r : Float) → T (fits binary32 a) → r ≡ cond (le a f0) f0 a → Same r (sa ⊗ f0 ⊕ a) → LeftOut sa a × (lt a f0 ≡ false)
  cleared_alpha_only a r h i e = let w = cleared_only (le a f0) sa a h (ap plain (sym i) ∙ e) in (w.0, not_below a w.1)

  pub alpha_needed : (o : Operator) → IsAlpha (form o) (pixel_of (porter_duff_op o) p s d).a (coverage_by o s.a d.a) → AlphaOutside o s.a d.a
  alpha_needed P.clear e = clear_only sa da e
  alpha_needed A e = after_only sa da (e ∙ ap (λ (z : Float). plain (z ⊕ da ⊗ f0)) (by_one sa hs.a))
  alpha_needed B e = before_only sa da (e ∙ ap (λ (z : Float). plain (sa ⊗ f0 ⊕ z)) (by_one da hd.a))
  alpha_needed AoverB e =
      let i : sa ⊕ da ⊗ (f1 ⊖ sa) ≡ coverage AoverB sa da = ap (λ (z : Float). z ⊕ da ⊗ (f1 ⊖ sa)) (sym (by_one sa hs.a)) in
      kept_only (coverage AoverB sa da) (ap plain (sym (over_alpha_lem (sa ⊕ da ⊗ (f1 ⊖ sa)) s d ∙ ap (λ (z : Float). cond (le z f0) f0 z) i)) ∙ e)
  alpha_needed BoverA e =
      let i : da ⊕ sa ⊗ (f1 ⊖ da) ≡ coverage BoverA sa da = add_commutes binary32 da (sa ⊗ (f1 ⊖ da)) ∙ ap (λ (z : Float). sa ⊗ (f1 ⊖ da) ⊕ z) (sym (by_one da hd.a)) in
      kept_only (coverage BoverA sa da) (ap plain (sym (exchanged_alpha (da ⊕ sa ⊗ (f1 ⊖ da)) s d ∙ ap (λ (z : Float). cond (le z f0) f0 z) i)) ∙ e)
  alpha_needed AinB e = after_only (sa ⊗ da) da e
  alpha_needed BinA e =
      cleared_alpha_only (da ⊗ sa) (pixel_of (porter_duff_op BinA) p s d).a (mul-fits binary32 da sa)
      (cleared_alpha (sa ⊗ da) d ∙ ap (λ (z : Float). cond (le z f0) f0 z) (mul_commutes binary32 sa da)) e
  alpha_needed AoutB e = after_only (sa ⊗ (f1 ⊖ da)) da e
  alpha_needed BoutA e = cleared_alpha_only (da ⊗ (f1 ⊖ sa)) (pixel_of (porter_duff_op BoutA) p s d).a (mul-fits binary32 da (f1 ⊖ sa)) (cleared_alpha (da ⊗ (f1 ⊖ sa)) d) e
  alpha_needed AatopB e = tt
  alpha_needed BatopA e = tt
  alpha_needed AxorB e = tt
  alpha_needed AplusB e = tt

  module _ (c : Colour) where
    abbrev S : Float
    S = at c s

    abbrev D : Float
    D = at c d

    -- DstIn and DstOut, with the alpha a
    cleared_colour_only : (a r : Float) → Same r (cond (le a f0) f0 (D ⊗ a)) → Same r (S ⊗ sa ⊗ f0 ⊕ D ⊗ a) → LeftOut (S ⊗ sa) (D ⊗ a) × Cleared a (D ⊗ a)
    cleared_colour_only a r i e = cleared_only (le a f0) (S ⊗ sa) (D ⊗ a) (mul-fits binary32 D a) (sym i ∙ e)

    pub colour_needed : (o : Operator) → T (undivided o)
        → IsColour (form o) (at c (pixel_of (porter_duff_op o) p s d)) (pixel_of (porter_duff_op o) p s d).a (colour_by o (at c s) s.a (at c d) d.a) (coverage o s.a d.a)
        → ColourOutside o (at c s) s.a (at c d) d.a
    colour_needed P.clear w e = clear_only (S ⊗ sa) (D ⊗ da) (ap plain (sym (on_clear c)) ∙ e)
    colour_needed A w e = after_only (S ⊗ sa) (D ⊗ da) (e ∙ ap (λ (z : Float). plain (z ⊕ D ⊗ da ⊗ f0)) (by_one (S ⊗ sa) (mul-fits binary32 S sa)))
    colour_needed B w e = before_only (S ⊗ sa) (D ⊗ da) (e ∙ ap (λ (z : Float). plain (S ⊗ sa ⊗ f0 ⊕ z)) (by_one (D ⊗ da) (mul-fits binary32 D da)))
    colour_needed AoverB w e = absurd w
    colour_needed BoverA w e = absurd w
    colour_needed AinB w e = after_only (S ⊗ (sa ⊗ da)) (D ⊗ da) (ap plain (sym (on_premult c s (sa ⊗ da))) ∙ e)
    colour_needed BinA w e =
        let r = at c (pixel_of (porter_duff_op BinA) p s d) ⊗ (pixel_of (porter_duff_op BinA) p s d).a in
        cleared_colour_only (da ⊗ sa) r (cleared_form c (sa ⊗ da) d ∙ ap (λ (z : Float). plain (cond (le z f0) f0 (D ⊗ z))) (mul_commutes binary32 sa da)) e
    colour_needed AoutB w e = after_only (S ⊗ (sa ⊗ (f1 ⊖ da))) (D ⊗ da) (ap plain (sym (on_premult c s (sa ⊗ (f1 ⊖ da)))) ∙ e)
    colour_needed BoutA w e =
        let r = at c (pixel_of (porter_duff_op BoutA) p s d) ⊗ (pixel_of (porter_duff_op BoutA) p s d).a in
        cleared_colour_only (da ⊗ (f1 ⊖ sa)) r (cleared_form c (da ⊗ (f1 ⊖ sa)) d) e
    colour_needed AatopB w e = tt
    colour_needed BatopA w e = tt
    colour_needed AxorB w e = tt
    colour_needed AplusB w e = tt
