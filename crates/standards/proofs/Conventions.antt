-- What the compositor stores of a blended colour, by its convention: a name for each of the formulas that proofs speak of, with the blend function as a
-- parameter. `by_steps` says that each is W3C's formula with a mode's steps, whatever the blend function. Assumes nothing.
use mathlib.Core.Path.{◌≡◌, refl, ap}
use mathlib.Core.Logic.{◌⊎◌}
use mathlib.Core.Bool.{false, cond}
use lib.Dec.{T}
use lib.Ieee.{Float, binary32, lt}
use lib.Ieee.Scale.{finite}
use Rattle.float_steps.specs.Notation.{◌⊕◌, ◌⊖◌, ◌⊗◌, ◌⊘◌, f0, f1}
use Rattle.float_steps.specs.Order.{unit_of}
use Rattle.ieee_laws.specs.Same.{Zero}
use Rattle.ieee_laws.proofs.Commute.{mul_commutes}
use Rattle.operators.specs.declared.Convention.{Convention}
use Rattle.operators.specs.declared.Convention.TheVariants.{Premult, Divided, OnPremult, PremultOnly}
use Rattle.operators.specs.Operators.{convention}
use Rattle.standards.specs.Compositing.{Mode, multiply, screen, overlay, darken, lighten, color_dodge, color_burn, hard_light, soft_light, difference, exclusion, B}
use Rattle.standards.specs.Operators.{blend_op}
use Rattle.standards.specs.BlendSteps.{steps, regrouped, source_term, backdrop_term, mixed_by, colour_with}
use Rattle.standards.specs.BlendDifferences.{BlendOutside}

abbrev pub union : Float → Float → Float
union αs αb = αs ⊕ αb ⊖ αs ⊗ αb

-- the two terms in which only one picture lies
abbrev pub uncovered : Float → Float → Float → Float → Float
uncovered Cs αs Cb αb = αs ⊗ (f1 ⊖ αb) ⊗ Cs ⊕ αb ⊗ (f1 ⊖ αs) ⊗ Cb

-- the mixing of a blended colour v as printed, but for the clamp of the sum, and as the compositor has it
pub data Mixing : Type 0 where
  printed spread : Mixing

abbrev pub co_by : Mixing → Float → Float → Float → Float → Float → Float
co_by printed v Cs αs Cb αb = αs ⊗ ((f1 ⊖ αb) ⊗ Cs ⊕ αb ⊗ v) ⊕ (f1 ⊖ αs) ⊗ αb ⊗ Cb
co_by spread v Cs αs Cb αb = αs ⊗ αb ⊗ v ⊕ uncovered Cs αs Cb αb

-- divided by an alpha that is above 0, and 0 otherwise
abbrev pub over_union : Float → Float → Float
over_union v a = cond (lt f0 a) (v ⊘ a) f0

-- what a convention blends
abbrev pub blended : Convention → Float → Float → Float
blended Premult C α = C
blended Divided C α = C
blended OnPremult C α = C ⊗ α
blended PremultOnly C α = C ⊗ α

-- and stores, with the blend function f of backdrop and source
abbrev pub stored_with : Mixing → Convention → (Float → Float → Float) → Float → Float → Float → Float → Float
stored_with g Premult f Cs αs Cb αb = unit_of (co_by g (unit_of (f Cb Cs)) Cs αs Cb αb)
stored_with g Divided f Cs αs Cb αb = unit_of (over_union (co_by g (f Cb Cs) Cs αs Cb αb) (union αs αb))
stored_with g OnPremult f Cs αs Cb αb = unit_of (unit_of (f (Cb ⊗ αb) (Cs ⊗ αs)) ⊕ uncovered Cs αs Cb αb)
stored_with g PremultOnly f Cs αs Cb αb = unit_of (f (Cb ⊗ αb) (Cs ⊗ αs))

abbrev pub stored_by : Mixing → Convention → Mode → Float → Float → Float → Float → Float
stored_by g k m = stored_with g k (B m)

-- In the modes that divide, a blended colour v does not show where nothing is covered, nor where the two pictures do not overlap and v is finite
abbrev pub Unseen : Convention → Float → Float → Float → Type 0
Unseen Premult v αs αb = ⊥
Unseen Divided v αs αb = (lt f0 (union αs αb) ≡ false) ⊎ (Zero (αs ⊗ αb) × T (finite v))
Unseen OnPremult v αs αb = ⊥
Unseen PremultOnly v αs αb = ⊥

-- The stored colours are equal where the blends are, and where they do not show
abbrev pub StoredOutside : Mode → Float → Float → Float → Float → Type 0
StoredOutside m Cs αs Cb αb =
    BlendOutside m (blended (convention (blend_op m)) Cs αs) (blended (convention (blend_op m)) Cb αb) ⊎ Unseen (convention (blend_op m)) (B m Cb Cs) αs αb

-- ---- W3C's formula with the steps of a mode
module _ (Cs αs Cb αb : Float) where
  terms : uncovered Cs αs Cb αb ≡ source_term regrouped Cs αs αb ⊕ backdrop_term αs Cb αb
  terms = ap (λ (z : Float). αs ⊗ (f1 ⊖ αb) ⊗ Cs ⊕ z ⊗ Cb) (mul_commutes binary32 αb (f1 ⊖ αs))

  pub spread_is : (v : Float) → co_by spread v Cs αs Cb αb ≡ mixed_by regrouped v Cs αs Cb αb
  spread_is v = ap (λ (t : Float). αs ⊗ αb ⊗ v ⊕ t) terms

  as_is : (v : Float) → unit_of (co_by spread (unit_of v) Cs αs Cb αb) ≡ unit_of (mixed_by regrouped (unit_of v) Cs αs Cb αb)
  as_is v = ap unit_of (spread_is (unit_of v))

  over_alpha_lem : (v : Float) → unit_of (over_union (co_by spread v Cs αs Cb αb) (union αs αb)) ≡ unit_of (over_union (mixed_by regrouped v Cs αs Cb αb) (union αs αb))
  over_alpha_lem v = ap (λ (x : Float). unit_of (over_union x (union αs αb))) (spread_is v)

  pub by_steps : (m : Mode) (f : Float → Float → Float) → stored_with spread (convention (blend_op m)) f Cs αs Cb αb ≡ colour_with (steps m) f Cs αs Cb αb
  by_steps multiply f = as_is (f Cb Cs)
  by_steps screen f = as_is (f Cb Cs)
  by_steps overlay f = over_alpha_lem (f Cb Cs)
  by_steps darken f = ap (λ (t : Float). unit_of (unit_of (f (Cb ⊗ αb) (Cs ⊗ αs)) ⊕ t)) terms
  by_steps lighten f = as_is (f Cb Cs)
  by_steps color_dodge f = over_alpha_lem (f Cb Cs)
  by_steps color_burn f = over_alpha_lem (f Cb Cs)
  by_steps hard_light f = over_alpha_lem (f Cb Cs)
  by_steps soft_light f = over_alpha_lem (f Cb Cs)
  by_steps difference f = as_is (f Cb Cs)
  by_steps exclusion f = refl
