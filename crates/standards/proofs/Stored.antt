-- Every operator that W3C defines is W3C's: each colour of the compositor's pixel, and its alpha, is W3C's formula with the steps of BlendSteps.antt, for
-- all values. The formula is proved once for each convention, over the blend function. Assumes nothing.
use mathlib.Core.Path.{◌≡◌, refl, sym, ap, ◌∙◌, subst}
use mathlib.Core.Logic.{inl, inr}
use mathlib.Core.Bool.{Bool, true, false, cond}
use lib.Dec.{T}
use lib.Ieee.{Float, binary32, fits, lt}
use lib.Ieee.Fits.{mul-fits}
use lib.Ieee.Scale.{finite}
use Rattle.float_steps.specs.Notation.{◌⊕◌, ◌⊗◌, ◌⊘◌, f0}
use Rattle.float_steps.specs.Order.{unit_of}
use Rattle.ieee_laws.specs.Same.{plain, Same}
use Rattle.ieee_laws.proofs.Zero.{zero_times, add_same, mul_same, div_same}
use Rattle.ieee_laws.proofs.Clamp.{unit_same, unit_twice}
use Rattle.operators.specs.declared.Convention.{Convention}
use Rattle.operators.specs.declared.Convention.TheVariants.{Premult, Divided, OnPremult, PremultOnly}
use Rattle.operators.specs.Operators.{convention}
use Rattle.pictures.specs.declared.Rgba.{Rgba}
use Rattle.pixels.specs.declared.Params.{Params}
use Rattle.pixels.specs.Channel.{channel_of, over_union_of, over_alpha_of}
use Rattle.pixels.specs.Pixel.{pixel_of, blend_of, mathematical_of}
use Rattle.standards.specs.Compositing.{Mode, multiply, screen, overlay, darken, lighten, color_dodge, color_burn, hard_light, soft_light, difference, exclusion, B}
use Rattle.standards.specs.Operators.{Colour, at, Held, blend_op}
use Rattle.standards.specs.BlendSteps.{steps, blend_by, colour_with, colour_by, alpha_by}
use Rattle.standards.proofs.Conventions.{union, uncovered, spread, co_by, over_union, blended, stored_with, stored_by, Unseen, StoredOutside, by_steps}
use Rattle.standards.proofs.BlendSteps.{blend_by_lem}
use Rattle.standards.proofs.Blends.{blend_is, blend_exact}
use Rattle.standards.proofs.BlendsFinite.{dodge_finite, burn_finite, hard_finite}
use Rattle.standards.proofs.Pixels.{held_at, on_colours_lem}

-- ---- one colour under a convention
blended_fits : (k : Convention) (C α : Float) → T (fits binary32 C) → T (fits binary32 (blended k C α))
blended_fits Premult C α h = h
blended_fits Divided C α h = h
blended_fits OnPremult C α h = mul-fits binary32 C α
blended_fits PremultOnly C α h = mul-fits binary32 C α

module _ (s sa d da : Float) where
  weighed_same : (v w : Float) → Same (sa ⊗ da ⊗ v) (sa ⊗ da ⊗ w) → Same (co_by spread v s sa d da) (co_by spread w s sa d da)
  weighed_same v w e = let t = uncovered s sa d da in add_same binary32 (sa ⊗ da ⊗ v) (sa ⊗ da ⊗ w) t t e refl

  spread_same : (v w : Float) → Same v w → Same (co_by spread v s sa d da) (co_by spread w s sa d da)
  spread_same v w e = weighed_same v w (mul_same binary32 (sa ⊗ da) (sa ⊗ da) v w refl e)

  pub over_union_same : (v w a : Float) → Same v w → Same (over_union v a) (over_union w a)
  over_union_same v w a e = go (lt f0 a)
    where
      go : (b : Bool) → Same (cond b (v ⊘ a) f0) (cond b (w ⊘ a) f0)
      go true = div_same binary32 v w a e
      go false = refl

  over_union_is : (v a : Float) → over_union_of v a ≡ over_union v a
  unfolding over_union_of
  over_union_is v a = refl

  -- blended colours v and w that do not show
  unseen : (v w : Float) → (T (finite w) → T (finite v)) → Unseen Divided w sa da → Same (over_union (co_by spread v s sa d da) (union sa da)) (over_union (co_by spread w s sa d da) (union sa da))
  unseen v w f (inl e) =
      let empty : (x : Float) → over_union x (union sa da) ≡ f0 = λ x. ap (λ (b : Bool). cond b (x ⊘ union sa da) f0) e in
      ap plain (empty (co_by spread v s sa d da) ∙ sym (empty (co_by spread w s sa d da)))
  unseen v w f (inr (z, h)) =
      over_union_same (co_by spread v s sa d da) (co_by spread w s sa d da) (union sa da)
      (weighed_same v w (zero_times binary32 (sa ⊗ da) v (f h) z ∙ sym (zero_times binary32 (sa ⊗ da) w h z)))

  hidden : (f : Float → Float → Float) (m : Mode) → (T (finite (B m d s)) → T (finite (f s d))) → Unseen Divided (B m d s) sa da → Same (channel_of Divided f s d sa da) (stored_by spread Divided m s sa d da)
  hidden f m h u =
      let a = union sa da in
      let x = co_by spread (f s d) s sa d da in
      ap (λ (z : Float). plain (unit_of z)) (over_union_is x a) ∙ unit_same (over_union x a) (over_union (co_by spread (B m d s) s sa d da) a) (unseen (f s d) (B m d s) h u)

  -- a blend function f that gives what g does
  by_convention : (k : Convention) (f g : Float → Float → Float) → Same (f (blended k s sa) (blended k d da)) (g (blended k d da) (blended k s sa))
      → Same (channel_of k f s d sa da) (stored_with spread k g s sa d da)
  by_convention Premult f g e =
      let x = unit_of (f s d) in
      let y = unit_of (g d s) in
      unit_same (co_by spread x s sa d da) (co_by spread y s sa d da) (spread_same x y (unit_same (f s d) (g d s) e))
  by_convention Divided f g e =
      let x = co_by spread (f s d) s sa d da in
      let y = co_by spread (g d s) s sa d da in
      let a = union sa da in
      ap (λ (z : Float). plain (unit_of z)) (over_union_is x a) ∙ unit_same (over_union x a) (over_union y a) (over_union_same x y a (spread_same (f s d) (g d s) e))
  by_convention OnPremult f g e =
      let t = uncovered s sa d da in
      let x = f (s ⊗ sa) (d ⊗ da) in
      let y = g (d ⊗ da) (s ⊗ sa) in
      unit_same (unit_of x ⊕ t) (unit_of y ⊕ t) (add_same binary32 (unit_of x) (unit_of y) t t (unit_same x y e) refl)
  by_convention PremultOnly f g e =
      let x = f (s ⊗ sa) (d ⊗ da) in
      let y = g (d ⊗ da) (s ⊗ sa) in
      ap plain (unit_twice x) ∙ unit_same x y e

-- ---- the pixel
module _ (p : Params) (s d : Rgba) where
  -- every mode is a mathematical operator
  line : (m : Mode) → pixel_of (blend_op m) p s d ≡ mathematical_of (blend_op m) p s d
  line multiply = refl
  line screen = refl
  line overlay = refl
  line darken = refl
  line lighten = refl
  line color_dodge = refl
  line color_burn = refl
  line hard_light = refl
  line soft_light = refl
  line difference = refl
  line exclusion = refl

  pub union_alpha_lem : (m : Mode) → (pixel_of (blend_op m) p s d).a ≡ union s.a d.a
  union_alpha_lem m = ap (λ (o : Rgba). o.a) (line m)

  pub alpha_by_lem : (m : Mode) → (pixel_of (blend_op m) p s d).a ≡ alpha_by (steps m) s.a d.a
  alpha_by_lem multiply = refl
  alpha_by_lem screen = refl
  alpha_by_lem overlay = refl
  alpha_by_lem darken = refl
  alpha_by_lem lighten = refl
  alpha_by_lem color_dodge = refl
  alpha_by_lem color_burn = refl
  alpha_by_lem hard_light = refl
  alpha_by_lem soft_light = refl
  alpha_by_lem difference = refl
  alpha_by_lem exclusion = refl

  painted : (c : Colour) (m : Mode)
      → at c (pixel_of (blend_op m) p s d) ≡ channel_of (convention (blend_op m)) (blend_of (blend_op m) p) (at c s) (at c d) s.a d.a
  painted c m = ap (at c) (line m) ∙ on_colours_lem c (λ x y. channel_of (convention (blend_op m)) (blend_of (blend_op m) p) x y s.a d.a) s d (over_alpha_of s.a d.a)

  -- W3C's formula with the mode's steps, for all values
  pub colour_by_lem : (m : Mode) → Held s → Held d → (c : Colour) → Same (at c (pixel_of (blend_op m) p s d)) (colour_by (steps m) m (at c s) s.a (at c d) d.a)
  colour_by_lem m hs hd c =
      let k = convention (blend_op m) in
      ap plain (painted c m)
      ∙ by_convention (at c s) s.a (at c d) d.a k (blend_of (blend_op m) p) (blend_by (steps m) m)
      (blend_by_lem m p (blended k (at c s) s.a) (blended k (at c d) d.a) (blended_fits k (at c s) s.a (held_at c s hs)) (blended_fits k (at c d) d.a (held_at c d hd)))
      ∙ ap plain (by_steps (at c s) s.a (at c d) d.a m (blend_by (steps m) m))

  -- with the blend function as printed, where that makes no difference
  pub stored_is : (m : Mode) → Held s → Held d → (c : Colour) → StoredOutside m (at c s) s.a (at c d) d.a
      → Same (at c (pixel_of (blend_op m) p s d)) (stored_by spread (convention (blend_op m)) m (at c s) s.a (at c d) d.a)
  stored_is m hs hd c (inl x) =
      let k = convention (blend_op m) in
      ap plain (painted c m)
      ∙ by_convention (at c s) s.a (at c d) d.a k (blend_of (blend_op m) p) (B m)
      (blend_is m p (blended k (at c s) s.a) (blended k (at c d) d.a) (blended_fits k (at c s) s.a (held_at c s hs)) (blended_fits k (at c d) d.a (held_at c d hd)) x)
  stored_is m hs hd c (inr u) = ap plain (painted c m) ∙ by m u
    where
      S : Float
      S = at c s

      D : Float
      D = at c d

      by : (m : Mode) → Unseen (convention (blend_op m)) (B m (at c d) (at c s)) s.a d.a
          → Same (channel_of (convention (blend_op m)) (blend_of (blend_op m) p) (at c s) (at c d) s.a d.a) (stored_by spread (convention (blend_op m)) m (at c s) s.a (at c d) d.a)
      by multiply u = absurd u
      by screen u = absurd u
      by overlay u = hidden S s.a D d.a (blend_of (blend_op overlay) p) overlay (hard_finite D S (held_at c d hd) (held_at c s hs)) u
      by darken u = absurd u
      by lighten u = absurd u
      by color_dodge u = hidden S s.a D d.a (blend_of (blend_op color_dodge) p) color_dodge (λ h. dodge_finite S D) u
      by color_burn u = hidden S s.a D d.a (blend_of (blend_op color_burn) p) color_burn (λ h. burn_finite S D) u
      by hard_light u = hidden S s.a D d.a (blend_of (blend_op hard_light) p) hard_light (hard_finite S D (held_at c s hs) (held_at c d hd)) u
      by soft_light u = hidden S s.a D d.a (blend_of (blend_op soft_light) p) soft_light (subst (λ (z : Float). T (finite z)) (sym (blend_exact soft_light tt p S D))) u
      by difference u = absurd u
      by exclusion u = absurd u

  pub colour_with_lem : (m : Mode) → Held s → Held d → (c : Colour) → StoredOutside m (at c s) s.a (at c d) d.a
      → Same (at c (pixel_of (blend_op m) p s d)) (colour_with (steps m) (B m) (at c s) s.a (at c d) d.a)
  colour_with_lem m hs hd c x = stored_is m hs hd c x ∙ ap plain (by_steps (at c s) s.a (at c d) d.a m (B m))
