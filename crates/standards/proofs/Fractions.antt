-- Every operator that Porter and Duff define is theirs: the alpha and each colour of the compositor's pixel are the paper's two sums, in the form in which
-- document 01 has them stored, with the steps of FractionDifferences.antt and outside its inputs. Porter and Duff's thirteen are one theorem for alpha and
-- one for the colours. Assumes nothing.
use mathlib.Core.Path.{◌≡◌, refl, sym, ap, ◌∙◌, subst}
use mathlib.Core.Bool.{Bool, true, false, cond}
use lib.Dec.{T}
use lib.Ieee.{Float, binary32, fits, lt, le}
use lib.Ieee.Fits.{mul-fits, add-fits}
use Rattle.float_steps.specs.Notation.{◌⊕◌, ◌⊖◌, ◌⊗◌, ◌⊘◌, f0, f1}
use Rattle.float_steps.specs.Order.{smaller_of}
use Rattle.ieee_laws.specs.Same.{plain, Same, Zero}
use Rattle.ieee_laws.proofs.Commute.{mul_commutes, add_commutes}
use Rattle.ieee_laws.proofs.Zero.{zero_plus}
use Rattle.pictures.specs.declared.Rgba.{Rgba}
use Rattle.pixels.specs.declared.Params.{Params}
use Rattle.pixels.specs.Channel.{over_channel, atop_channel, xor_channel, plus_channel}
use Rattle.pixels.specs.Pixel.{pixel_of, on_colours, with_alpha, over_by, kept_where_clear, straight_or_clear_of, clear}
use Rattle.standards.specs.PorterDuff.{Operator, A, B, AoverB, BoverA, AinB, BinA, AoutB, BoutA, AatopB, BatopA, AxorB, AplusB, coverage}
use Rattle.standards.specs.PorterDuff as P
use Rattle.standards.specs.Operators.{Colour, at, Held, porter_duff_op}
use Rattle.standards.specs.FractionDifferences.{form, IsColour, IsAlpha, colour_by, coverage_by, Cleared, ColourOutside, AlphaOutside}
use Rattle.standards.proofs.Constants.{zero_is, by_one, by_zero, is_zero, none_left, le_zero}
use Rattle.standards.proofs.LeftOut.{after, before}
use Rattle.standards.proofs.Pixels.{on_colours_lem, on_premult, on_alpha, on_clear}

-- ---- tests of alpha
-- an alpha that is not below 0 is kept, or is a zero and becomes +0
kept_alpha_lem : (a : Float) → T (fits binary32 a) → lt a f0 ≡ false → Same (cond (le a f0) f0 a) a
kept_alpha_lem a h l = go (le a f0) (λ (t : T (le a f0)). is_zero a h (none_left a h l t))
  where
    go : (b : Bool) → (T b → Zero a) → Same (cond b f0 a) a
    go true z = zero_is ∙ sym (z tt)
    go false z = refl

pub over_alpha_lem : (a : Float) (s d : Rgba) → (over_by a s d).a ≡ cond (le a f0) f0 a
unfolding over_by
over_alpha_lem a s d = go (le a f0)
  where
    go : (b : Bool) → (cond b (with_alpha d f0) (on_colours (λ x y. over_channel a x y s.a d.a) s d a)).a ≡ cond b f0 a
    go true = refl
    go false = refl

pub over_colour : (c : Colour) (a : Float) (s d : Rgba) → le a f0 ≡ false → at c (over_by a s d) ≡ over_channel a (at c s) (at c d) s.a d.a
unfolding over_by
over_colour c a s d h =
    let f : Float → Float → Float = λ x y. over_channel a x y s.a d.a in
    ap (λ (b : Bool). at c (cond b (with_alpha d f0) (on_colours f s d a))) h ∙ on_colours_lem c f s d a

-- where nothing is covered
pub emptied : (a : Float) (s d : Rgba) → le a f0 ≡ true → over_by a s d ≡ with_alpha d f0
unfolding over_by
emptied a s d h = ap (λ (b : Bool). cond b (with_alpha d f0) (on_colours (λ x y. over_channel a x y s.a d.a) s d a)) h

-- DstOver: `over` with the pictures exchanged, and the destination's colour where nothing is covered
pub exchanged_alpha : (a : Float) (s d : Rgba) → (kept_where_clear (over_by a d s) d).a ≡ cond (le a f0) f0 a
unfolding kept_where_clear
exchanged_alpha a s d = ap (λ (x : Float). (cond (le x f0) (with_alpha d f0) (over_by a d s)).a) (over_alpha_lem a d s) ∙ go (le a f0) refl
  where
    same : (b : Bool) → (cond b (with_alpha d f0) (over_by a d s)).a ≡ cond b f0 (over_by a d s).a
    same true = refl
    same false = refl

    pick : (b : Bool) → cond b f0 f0 ≡ f0
    pick true = refl
    pick false = refl

    go : (b : Bool) → le a f0 ≡ b → (cond (le (cond b f0 a) f0) (with_alpha d f0) (over_by a d s)).a ≡ cond b f0 a
    go true e = same (le f0 f0) ∙ ap (λ (x : Float). cond (le f0 f0) f0 x) (over_alpha_lem a d s ∙ ap (λ (b : Bool). cond b f0 a) e) ∙ pick (le f0 f0)
    go false e = same (le a f0) ∙ (λ i. cond (e i) f0 (over_alpha_lem a d s i)) ∙ ap (λ (b : Bool). cond b f0 a) e

pub exchanged_colour : (c : Colour) (a : Float) (s d : Rgba) → le a f0 ≡ false → at c (kept_where_clear (over_by a d s) d) ≡ over_channel a (at c d) (at c s) d.a s.a
unfolding kept_where_clear
exchanged_colour c a s d h =
    let above : le (over_by a d s).a f0 ≡ false = ap (λ (x : Float). le x f0) (over_alpha_lem a d s ∙ ap (λ (b : Bool). cond b f0 a) h) ∙ h in
    ap (λ (b : Bool). at c (cond b (with_alpha d f0) (over_by a d s))) above ∙ over_colour c a d s h

pub exchanged : (a : Float) (s d : Rgba) → le a f0 ≡ true → kept_where_clear (over_by a d s) d ≡ with_alpha d f0
unfolding kept_where_clear
exchanged a s d h = ap (λ (o : Rgba). cond (le o.a f0) (with_alpha d f0) o) (emptied a d s h) ∙ ap (λ (b : Bool). cond b (with_alpha d f0) (with_alpha s f0)) (le_zero f0 zero_is)

-- DstIn and DstOut
pub cleared_alpha : (a : Float) (d : Rgba) → (straight_or_clear_of d a).a ≡ cond (le a f0) f0 a
unfolding straight_or_clear_of
cleared_alpha a d = go (le a f0)
  where
    go : (b : Bool) → (cond b clear (with_alpha d a)).a ≡ cond b f0 a
    go true = refl
    go false = refl

-- colour times alpha: 0 where the pixel is cleared
pub cleared_form : (c : Colour) (a : Float) (d : Rgba) → Same (at c (straight_or_clear_of d a) ⊗ (straight_or_clear_of d a).a) (cond (le a f0) f0 (at c d ⊗ a))
unfolding straight_or_clear_of
cleared_form c a d = go (le a f0)
  where
    go : (b : Bool) → Same (at c (cond b clear (with_alpha d a)) ⊗ (cond b clear (with_alpha d a)).a) (cond b f0 (at c d ⊗ a))
    go true = ap (λ (x : Float). plain (x ⊗ f0)) (on_clear c) ∙ by_zero f0 (unfold lib.Ieee.of_bits in tt) ∙ sym zero_is
    go false = ap (λ (x : Float). plain (x ⊗ a)) (on_alpha c d a)

cleared_colour : (c : Colour) (a : Float) (d : Rgba) → Cleared a (at c d ⊗ a) → Same (at c (straight_or_clear_of d a) ⊗ (straight_or_clear_of d a).a) (at c d ⊗ a)
cleared_colour c a d k = cleared_form c a d ∙ go (le a f0) k
  where
    go : (b : Bool) → (T b → Zero (at c d ⊗ a)) → Same (cond b f0 (at c d ⊗ a)) (at c d ⊗ a)
    go true z = zero_is ∙ sym (z tt)
    go false z = refl

module _ (p : Params) (s d : Rgba) (hs : Held s) (hd : Held d) where
  abbrev sa : Float
  sa = s.a

  abbrev da : Float
  da = d.a

  -- ---- alpha
  pub alpha_is : (o : Operator) → AlphaOutside o s.a d.a → IsAlpha (form o) (pixel_of (porter_duff_op o) p s d).a (coverage_by o s.a d.a)
  alpha_is P.clear h = zero_is ∙ sym (zero_plus binary32 (sa ⊗ f0) (da ⊗ f0) (mul-fits binary32 da f0) (by_zero sa h.0) ∙ by_zero da h.1)
  alpha_is A h = after sa da hs.a h ∙ ap (λ (z : Float). plain (z ⊕ da ⊗ f0)) (sym (by_one sa hs.a))
  alpha_is B h = before sa da hd.a h ∙ ap (λ (z : Float). plain (sa ⊗ f0 ⊕ z)) (sym (by_one da hd.a))
  alpha_is AoverB h =
      let a = sa ⊕ da ⊗ (f1 ⊖ sa) in
      let e : a ≡ coverage AoverB sa da = ap (λ (z : Float). z ⊕ da ⊗ (f1 ⊖ sa)) (sym (by_one sa hs.a)) in
      ap plain (over_alpha_lem a s d) ∙ kept_alpha_lem a (add-fits binary32 sa (da ⊗ (f1 ⊖ sa))) (ap (λ (z : Float). lt z f0) e ∙ h) ∙ ap plain e
  alpha_is BoverA h =
      let a = da ⊕ sa ⊗ (f1 ⊖ da) in
      let e : a ≡ coverage BoverA sa da = add_commutes binary32 da (sa ⊗ (f1 ⊖ da)) ∙ ap (λ (z : Float). sa ⊗ (f1 ⊖ da) ⊕ z) (sym (by_one da hd.a)) in
      ap plain (exchanged_alpha a s d) ∙ kept_alpha_lem a (add-fits binary32 da (sa ⊗ (f1 ⊖ da))) (ap (λ (z : Float). lt z f0) e ∙ h) ∙ ap plain e
  alpha_is AinB h = after (sa ⊗ da) da (mul-fits binary32 sa da) h
  alpha_is BinA h =
      let a = da ⊗ sa in
      ap plain (cleared_alpha (sa ⊗ da) d ∙ ap (λ (z : Float). cond (le z f0) f0 z) (mul_commutes binary32 sa da))
      ∙ kept_alpha_lem a (mul-fits binary32 da sa) h.1 ∙ before sa a (mul-fits binary32 da sa) h.0
  alpha_is AoutB h = after (sa ⊗ (f1 ⊖ da)) da (mul-fits binary32 sa (f1 ⊖ da)) h
  alpha_is BoutA h =
      let a = da ⊗ (f1 ⊖ sa) in
      ap plain (cleared_alpha a d) ∙ kept_alpha_lem a (mul-fits binary32 da (f1 ⊖ sa)) h.1 ∙ before sa a (mul-fits binary32 da (f1 ⊖ sa)) h.0
  alpha_is AatopB h = refl
  alpha_is BatopA h = refl
  alpha_is AxorB h = refl
  alpha_is AplusB h = λ i. smaller_of (sym (by_one sa hs.a) i ⊕ sym (by_one da hd.a) i) f1

  -- ---- the colours
  module _ (c : Colour) where
    abbrev S : Float
    S = at c s

    abbrev D : Float
    D = at c d

    pub colour_is : (o : Operator) → ColourOutside o (at c s) s.a (at c d) d.a
        → IsColour (form o) (at c (pixel_of (porter_duff_op o) p s d)) (pixel_of (porter_duff_op o) p s d).a (colour_by o (at c s) s.a (at c d) d.a) (coverage o s.a d.a)
    colour_is P.clear h =
        ap plain (on_clear c) ∙ zero_is
        ∙ sym (zero_plus binary32 (S ⊗ sa ⊗ f0) (D ⊗ da ⊗ f0) (mul-fits binary32 (D ⊗ da) f0) (by_zero (S ⊗ sa) h.0) ∙ by_zero (D ⊗ da) h.1)
    colour_is A h = after (S ⊗ sa) (D ⊗ da) (mul-fits binary32 S sa) h ∙ ap (λ (z : Float). plain (z ⊕ D ⊗ da ⊗ f0)) (sym (by_one (S ⊗ sa) (mul-fits binary32 S sa)))
    colour_is B h = before (S ⊗ sa) (D ⊗ da) (mul-fits binary32 D da) h ∙ ap (λ (z : Float). plain (S ⊗ sa ⊗ f0 ⊕ z)) (sym (by_one (D ⊗ da) (mul-fits binary32 D da)))
    colour_is AoverB h =
        let a = sa ⊕ da ⊗ (f1 ⊖ sa) in
        over_colour c a s d (ap (λ (z : Float). le (z ⊕ da ⊗ (f1 ⊖ sa)) f0) (sym (by_one sa hs.a)) ∙ h)
        ∙ (λ i. (sym (by_one (S ⊗ sa) (mul-fits binary32 S sa)) i ⊕ D ⊗ da ⊗ (f1 ⊖ sa)) ⊘ (sym (by_one sa hs.a) i ⊕ da ⊗ (f1 ⊖ sa)))
    colour_is BoverA h =
        let a = da ⊕ sa ⊗ (f1 ⊖ da) in
        let e : a ≡ coverage BoverA sa da = add_commutes binary32 da (sa ⊗ (f1 ⊖ da)) ∙ ap (λ (z : Float). sa ⊗ (f1 ⊖ da) ⊕ z) (sym (by_one da hd.a)) in
        exchanged_colour c a s d (ap (λ (z : Float). le z f0) e ∙ h)
        ∙ (λ i. add_commutes binary32 (D ⊗ da) (S ⊗ sa ⊗ (f1 ⊖ da)) i ⊘ e i)
        ∙ ap (λ (z : Float). (S ⊗ sa ⊗ (f1 ⊖ da) ⊕ z) ⊘ coverage BoverA sa da) (sym (by_one (D ⊗ da) (mul-fits binary32 D da)))
    colour_is AinB h = ap plain (on_premult c s (sa ⊗ da)) ∙ after (S ⊗ (sa ⊗ da)) (D ⊗ da) (mul-fits binary32 S (sa ⊗ da)) h
    colour_is BinA h =
        cleared_colour c (sa ⊗ da) d (subst (λ (a : Float). Cleared a (D ⊗ a)) (mul_commutes binary32 da sa) h.1)
        ∙ ap (λ (a : Float). plain (D ⊗ a)) (mul_commutes binary32 sa da)
        ∙ before (S ⊗ sa) (D ⊗ (da ⊗ sa)) (mul-fits binary32 D (da ⊗ sa)) h.0
    colour_is AoutB h =
        let a = sa ⊗ (f1 ⊖ da) in
        ap plain (on_premult c s a) ∙ after (S ⊗ a) (D ⊗ da) (mul-fits binary32 S a) h
    colour_is BoutA h =
        let a = da ⊗ (f1 ⊖ sa) in
        cleared_colour c a d h.1 ∙ before (S ⊗ sa) (D ⊗ a) (mul-fits binary32 D a) h.0
    colour_is AatopB h = on_colours_lem c (λ x y. atop_channel x y sa da) s d da
    colour_is BatopA h = on_colours_lem c (λ x y. atop_channel y x da sa) s d sa ∙ add_commutes binary32 (D ⊗ da ⊗ sa) (S ⊗ sa ⊗ (f1 ⊖ da))
    colour_is AxorB h = on_colours_lem c (λ x y. xor_channel x y sa da) s d (sa ⊗ (f1 ⊖ da) ⊕ da ⊗ (f1 ⊖ sa))
    colour_is AplusB h =
        on_colours_lem c (λ x y. plus_channel x y sa da) s d (smaller_of (sa ⊕ da) f1)
        ∙ (λ i. smaller_of (sym (by_one (S ⊗ sa) (mul-fits binary32 S sa)) i ⊕ sym (by_one (D ⊗ da) (mul-fits binary32 D da)) i) f1)

    -- Over and DstOver where nothing is covered
    pub over_kept : le (coverage AoverB s.a d.a) f0 ≡ true → at c (pixel_of (porter_duff_op AoverB) p s d) ≡ at c d
    over_kept h = ap (at c) (emptied (sa ⊕ da ⊗ (f1 ⊖ sa)) s d (ap (λ (z : Float). le (z ⊕ da ⊗ (f1 ⊖ sa)) f0) (sym (by_one sa hs.a)) ∙ h)) ∙ on_alpha c d f0

    pub dst_over_kept : le (coverage BoverA s.a d.a) f0 ≡ true → at c (pixel_of (porter_duff_op BoverA) p s d) ≡ at c d
    dst_over_kept h =
        let e : da ⊕ sa ⊗ (f1 ⊖ da) ≡ coverage BoverA sa da = add_commutes binary32 da (sa ⊗ (f1 ⊖ da)) ∙ ap (λ (z : Float). sa ⊗ (f1 ⊖ da) ⊕ z) (sym (by_one da hd.a)) in
        ap (at c) (exchanged (da ⊕ sa ⊗ (f1 ⊖ da)) s d (ap (λ (z : Float). le z f0) e ∙ h)) ∙ on_alpha c d f0
