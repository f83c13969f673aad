-- The operators that Porter and Duff define, in one theorem over the thirteen: first a colour, then the alpha. s is the source's pixel, d the
-- destination's, and c any of the three colours. The right side is the paper's two sums with the operator's steps exchanged (`steps`,
-- specs/FractionSteps.antt) and nothing else, to a zero's sign, for all values, NaN and the infinities included; with no step exchanged they are the
-- paper's, by computation. Assumes nothing.
use mathlib.Core.Path.{◌≡◌, refl, sym, ap, ◌∙◌}
use mathlib.Core.Bool.{Bool, true, false, cond}
use mathlib.Core.List.{[]}
use lib.Ieee.{Float, binary32, le}
use lib.Ieee.Fits.{mul-fits}
use Rattle.float_steps.specs.Notation.{◌⊕◌, ◌⊖◌, ◌⊗◌, ◌⊘◌, f0, f1}
use Rattle.ieee_laws.proofs.Commute.{mul_commutes, add_commutes}
use Rattle.pictures.specs.declared.Rgba.{Rgba}
use Rattle.pixels.specs.declared.Params.{Params}
use Rattle.pixels.specs.Channel.{over_channel}
use Rattle.pixels.specs.Pixel.{pixel_of, with_alpha, over_by, kept_where_clear, straight_or_clear_of, clear}
use Rattle.standards.specs.PorterDuff.{Operator, A, B, AoverB, BoverA, AinB, BinA, AoutB, BoutA, AatopB, BatopA, AxorB, AplusB, colour, coverage}
use Rattle.standards.specs.PorterDuff as P
use Rattle.standards.specs.Operators.{Colour, at, Held, porter_duff_op}
use Rattle.standards.specs.FractionSteps.{steps, colour_by, alpha_by}
use Rattle.standards.proofs.Constants.{by_one}
use Rattle.standards.proofs.Pixels.{on_premult, on_alpha, on_clear}
use Rattle.standards.proofs.Fractions.{colour_is, alpha_is, over_alpha_lem, over_colour, emptied, exchanged_alpha, exchanged_colour, exchanged, cleared_alpha}

-- ---- as printed
pub colour_printed : (o : Operator) (CA αA CB αB : Float) → colour_by [] o CA αA CB αB ≡ colour o CA αA CB αB
colour_printed o CA αA CB αB = refl

pub alpha_printed : (o : Operator) (αA αB : Float) → alpha_by [] o αA αB ≡ coverage o αA αB
alpha_printed o αA αB = refl

-- ---- a value by a test, known in each case
by_test : (b : Bool) (r x y : Float) → (b ≡ true → r ≡ y) → (b ≡ false → r ≡ x) → r ≡ cond b y x
by_test true r x y h k = h refl
by_test false r x y h k = k refl

-- DstIn and DstOut
straight_colour : (c : Colour) (a : Float) (d : Rgba) → at c (straight_or_clear_of d a) ≡ cond (le a f0) f0 (at c d)
unfolding straight_or_clear_of
straight_colour c a d = go (le a f0)
  where
    go : (b : Bool) → at c (cond b clear (with_alpha d a)) ≡ cond b f0 (at c d)
    go true = on_clear c
    go false = on_alpha c d a

module _ (p : Params) (s d : Rgba) (hs : Held s) (hd : Held d) where
  abbrev sa : Float
  sa = s.a

  abbrev da : Float
  da = d.a

  -- the coverages of Over and DstOver, as the compositor has them
  source_over : sa ⊕ da ⊗ (f1 ⊖ sa) ≡ coverage AoverB s.a d.a
  source_over = ap (λ (z : Float). z ⊕ da ⊗ (f1 ⊖ sa)) (sym (by_one sa hs.a))

  destination_over : da ⊕ sa ⊗ (f1 ⊖ da) ≡ coverage BoverA s.a d.a
  destination_over = add_commutes binary32 da (sa ⊗ (f1 ⊖ da)) ∙ ap (λ (z : Float). sa ⊗ (f1 ⊖ da) ⊕ z) (sym (by_one da hd.a))

  pub alpha_by_lem : (o : Operator) → (pixel_of (porter_duff_op o) p s d).a ≡ alpha_by (steps o) o s.a d.a
  alpha_by_lem P.clear = refl
  alpha_by_lem A = sym (by_one sa hs.a)
  alpha_by_lem B = sym (by_one da hd.a)
  alpha_by_lem AoverB = over_alpha_lem (sa ⊕ da ⊗ (f1 ⊖ sa)) s d ∙ ap (λ (z : Float). cond (le z f0) f0 z) source_over
  alpha_by_lem BoverA = exchanged_alpha (da ⊕ sa ⊗ (f1 ⊖ da)) s d ∙ ap (λ (z : Float). cond (le z f0) f0 z) destination_over
  alpha_by_lem AinB = refl
  alpha_by_lem BinA = cleared_alpha (sa ⊗ da) d ∙ ap (λ (z : Float). cond (le z f0) f0 z) (mul_commutes binary32 sa da)
  alpha_by_lem AoutB = refl
  alpha_by_lem BoutA = cleared_alpha (da ⊗ (f1 ⊖ sa)) d
  alpha_by_lem AatopB = refl
  alpha_by_lem BatopA = refl
  alpha_by_lem AxorB = refl
  alpha_by_lem AplusB = alpha_is p s d hs hd AplusB tt

  module _ (c : Colour) where
    abbrev S : Float
    S = at c s

    abbrev D : Float
    D = at c d

    pub colour_by_lem : (o : Operator) → at c (pixel_of (porter_duff_op o) p s d) ≡ colour_by (steps o) o (at c s) s.a (at c d) d.a
    colour_by_lem P.clear = on_clear c
    colour_by_lem A = refl
    colour_by_lem B = refl
    colour_by_lem AoverB =
        by_test (le a f0) (at c (over_by a s d)) (over_channel a S D sa da) D (λ e. ap (at c) (emptied a s d e) ∙ on_alpha c d f0) (over_colour c a s d)
        ∙ (λ i. cond (le (source_over i) f0) D ((sym (by_one (S ⊗ sa) (mul-fits binary32 S sa)) i ⊕ D ⊗ da ⊗ (f1 ⊖ sa)) ⊘ source_over i))
      where
        a : Float
        a = sa ⊕ da ⊗ (f1 ⊖ sa)
    colour_by_lem BoverA =
        by_test (le a f0) (at c (kept_where_clear (over_by a d s) d)) (over_channel a D S da sa) D
        (λ e. ap (at c) (exchanged a s d e) ∙ on_alpha c d f0) (exchanged_colour c a s d)
        ∙ (λ i. cond (le (destination_over i) f0) D (shares i ⊘ destination_over i))
      where
        a : Float
        a = da ⊕ sa ⊗ (f1 ⊖ da)

        shares : D ⊗ da ⊕ S ⊗ sa ⊗ (f1 ⊖ da) ≡ S ⊗ sa ⊗ (f1 ⊖ da) ⊕ D ⊗ da ⊗ f1
        shares =
            add_commutes binary32 (D ⊗ da) (S ⊗ sa ⊗ (f1 ⊖ da))
            ∙ ap (λ (z : Float). S ⊗ sa ⊗ (f1 ⊖ da) ⊕ z) (sym (by_one (D ⊗ da) (mul-fits binary32 D da)))
    colour_by_lem AinB = on_premult c s (sa ⊗ da)
    colour_by_lem BinA = straight_colour c (sa ⊗ da) d ∙ ap (λ (z : Float). cond (le z f0) f0 D) (mul_commutes binary32 sa da)
    colour_by_lem AoutB = on_premult c s (sa ⊗ (f1 ⊖ da))
    colour_by_lem BoutA = straight_colour c (da ⊗ (f1 ⊖ sa)) d
    colour_by_lem AatopB = colour_is p s d hs hd c AatopB tt
    colour_by_lem BatopA = colour_is p s d hs hd c BatopA tt
    colour_by_lem AxorB = colour_is p s d hs hd c AxorB tt
    colour_by_lem AplusB = colour_is p s d hs hd c AplusB tt

    pub operator_is : (o : Operator)
        → (at c (pixel_of (porter_duff_op o) p s d) ≡ colour_by (steps o) o (at c s) s.a (at c d) d.a)
        × ((pixel_of (porter_duff_op o) p s d).a ≡ alpha_by (steps o) o s.a d.a)
    operator_is o = (colour_by_lem o, alpha_by_lem o)
