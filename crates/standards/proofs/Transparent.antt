-- Over and DstOver where both alphas are 0 and the colours finite: there is no quotient, the destination's colour is kept, and the pixel is the paper's all
-- the same: its colour times its alpha is the paper's colour, and its alpha the paper's coverage. Assumes nothing.
use mathlib.Core.Path.{refl, sym, ap, ◌∙◌}
use lib.Dec.{T}
use lib.Ieee.{Float, binary32, fits}
use lib.Ieee.Fits.{mul-fits}
use lib.Ieee.Scale.{finite}
use Rattle.float_steps.specs.Notation.{◌⊕◌, ◌⊖◌, ◌⊗◌, f0, f1}
use Rattle.ieee_laws.specs.Same.{plain, Same, Zero}
use Rattle.ieee_laws.proofs.Zero.{times_zero, zero_plus, mul_same}
use Rattle.operators.specs.declared.CompositeOp.TheVariants as O
use Rattle.pictures.specs.declared.Rgba.{Rgba}
use Rattle.pixels.specs.declared.Params.{Params}
use Rattle.pixels.specs.Pixel.{pixel_of, with_alpha}
use Rattle.standards.specs.PorterDuff.{AoverB, BoverA, colour}
use Rattle.standards.specs.Operators.{Colour, at}
use Rattle.standards.proofs.Constants.{by_one, by_zero, less_zero, le_zero}
use Rattle.standards.proofs.Pixels.{on_alpha}
use Rattle.standards.proofs.Fractions.{emptied, exchanged}

-- C × α × (1 − β) for two zeros α and β
no_share : (C α β : Float) → T (finite C) → Zero α → Zero β → Zero (C ⊗ α ⊗ (f1 ⊖ β))
no_share C α β h z w =
    mul_same binary32 (C ⊗ α) (C ⊗ α) (f1 ⊖ β) f1 refl (less_zero β w) ∙ ap plain (by_one (C ⊗ α) (mul-fits binary32 C α)) ∙ times_zero binary32 C α h z

whole_share : (C α : Float) → T (finite C) → Zero α → Zero (C ⊗ α ⊗ f1)
whole_share C α h z = ap plain (by_one (C ⊗ α) (mul-fits binary32 C α)) ∙ times_zero binary32 C α h z

-- y × (1 − x), and x + it
no_coverage : (x y : Float) → T (fits binary32 y) → Zero x → Zero y → Zero (x ⊕ y ⊗ (f1 ⊖ x))
no_coverage x y h z w =
    zero_plus binary32 x (y ⊗ (f1 ⊖ x)) (mul-fits binary32 y (f1 ⊖ x)) z ∙ mul_same binary32 y y (f1 ⊖ x) f1 refl (less_zero x z) ∙ ap plain (by_one y h) ∙ w

module _ (p : Params) (s d : Rgba) (zs : Zero s.a) (zd : Zero d.a) (c : Colour) (fs : T (finite (at c s))) (fd : T (finite (at c d))) where
  stored_nothing : Zero (at c (with_alpha d f0) ⊗ f0)
  stored_nothing = ap (λ (x : Float). plain (x ⊗ f0)) (on_alpha c d f0) ∙ by_zero (at c d) fd

  pub over_transparent : T (fits binary32 d.a) → Same (at c (pixel_of O.Over p s d) ⊗ (pixel_of O.Over p s d).a) (colour AoverB (at c s) s.a (at c d) d.a)
  over_transparent h =
      ap (λ (o : Rgba). plain (at c o ⊗ o.a)) (emptied (s.a ⊕ d.a ⊗ (f1 ⊖ s.a)) s d (le_zero (s.a ⊕ d.a ⊗ (f1 ⊖ s.a)) (no_coverage s.a d.a h zs zd)))
      ∙ stored_nothing
      ∙ sym (zero_plus binary32 (at c s ⊗ s.a ⊗ f1) (at c d ⊗ d.a ⊗ (f1 ⊖ s.a)) (mul-fits binary32 (at c d ⊗ d.a) (f1 ⊖ s.a)) (whole_share (at c s) s.a fs zs) ∙ no_share (at c d) d.a s.a fd zd zs)

  pub dst_over_transparent : T (fits binary32 s.a) → Same (at c (pixel_of O.DstOver p s d) ⊗ (pixel_of O.DstOver p s d).a) (colour BoverA (at c s) s.a (at c d) d.a)
  dst_over_transparent h =
      ap (λ (o : Rgba). plain (at c o ⊗ o.a)) (exchanged (d.a ⊕ s.a ⊗ (f1 ⊖ d.a)) s d (le_zero (d.a ⊕ s.a ⊗ (f1 ⊖ d.a)) (no_coverage d.a s.a h zd zs)))
      ∙ stored_nothing
      ∙ sym (zero_plus binary32 (at c s ⊗ s.a ⊗ (f1 ⊖ d.a)) (at c d ⊗ d.a ⊗ f1) (mul-fits binary32 (at c d ⊗ d.a) f1) (no_share (at c s) s.a d.a fs zs zd) ∙ whole_share (at c d) d.a fd zd)
