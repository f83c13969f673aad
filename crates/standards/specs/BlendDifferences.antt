-- The inputs at which the steps of W3C's blend functions show (BlendSteps.antt: black_first, second_at_half, below_zero, above_one, source_doubled).
-- docs/DIFFERENCES.md lists them, and Rows.antt has an input for each. Definitions only.
use Rattle.std.specs.Prelude.{◌≡◌, Bool, true, false, not, ◌&&◌, Float}
use Rattle.std.specs.Float.{nan, inf, fin}
use Rattle.std.specs.Float.Ieee.{lt, le, eq}
use Rattle.float_steps.specs.Notation.{◌⊖◌, ◌⊗◌, ◌⊘◌, f0, f1, f2, half}
use Rattle.float_steps.specs.Order.{smaller_of}
use Rattle.ieee_laws.specs.Same.{Same, Zero}
use Rattle.standards.specs.BlendSteps.{black_first, among, steps}
use Rattle.standards.specs.Compositing.{Mode, multiply, screen, overlay, darken, lighten, color_dodge, color_burn, hard_light, soft_light, difference, exclusion}

abbrev pub infinite : Float → Bool
infinite nan = false
infinite (inf s) = true
infinite (fin s m e) = false

-- ColorDodge is 0 wherever Cb is at most 0, and else 1 wherever Cs is at least 1; W3C's is so at Cb = 0 and at Cs = 1. No difference where W3C's quotient comes
-- to the same: a zero for a Cb below 0, and not below 1 for a Cs above 1 beside a Cb that is not at most 0
pub record DodgeOutside (Cs Cb : Float) : Type 0 where
  pub below : lt Cb f0 ≡ true → (eq Cs f1 ≡ false) × Zero (Cb ⊘ (f1 ⊖ Cs))
  pub above : le Cb f0 ≡ false → lt f1 Cs ≡ true → lt (Cb ⊘ (f1 ⊖ Cs)) f1 ≡ false

-- what ColorBurn is where neither of its tests holds
abbrev pub burnt : Float → Float → Float
burnt Cb Cs = f1 ⊖ smaller_of f1 ((f1 ⊖ Cb) ⊘ Cs)

-- ColorBurn is 0 wherever Cs is at most 0, and else 1 wherever Cb is at least 1; W3C's is 1 at Cb = 1, and else 0 at Cs = 0. No difference where Cb is not
-- 1, for a Cs of at most 0, and W3C's quotient comes to the same: to 0 for a Cs below 0, and to 1 for a Cb above 1 beside a Cs that is not at most 0
pub record BurnOutside (Cs Cb : Float) : Type 0 where
  pub white : le Cs f0 ≡ true → eq Cb f1 ≡ false
  pub below : lt Cs f0 ≡ true → Zero (burnt Cb Cs)
  pub above : le Cs f0 ≡ false → lt f1 Cb ≡ true → Same (burnt Cb Cs) f1

-- The blend functions are equal where this holds (`blend_is`), and but for Exclusion only there (`blend_needed`). A half: the compositor takes the second
-- branch, which gives what W3C's first one does but where the other colour is infinite. Exclusion doubles the other colour: no difference where neither
-- double overflows (`doubled_alike`).
abbrev pub BlendOutside : Mode → Float → Float → Type 0
BlendOutside multiply Cs Cb = Unit {0}
BlendOutside screen Cs Cb = Unit {0}
BlendOutside overlay Cs Cb = eq Cb half && infinite Cs ≡ false
BlendOutside darken Cs Cb = Unit {0}
BlendOutside lighten Cs Cb = Unit {0}
BlendOutside color_dodge Cs Cb = DodgeOutside Cs Cb
BlendOutside color_burn Cs Cb = BurnOutside Cs Cb
BlendOutside hard_light Cs Cb = eq Cs half && infinite Cb ≡ false
BlendOutside soft_light Cs Cb = Unit {0}
BlendOutside difference Cs Cb = Unit {0}
BlendOutside exclusion Cs Cb = Same (f2 ⊗ Cs ⊗ Cb) (f2 ⊗ Cb ⊗ Cs)

-- On numbers from 0 to 1 all of these hold but one: ColorBurn of black on white, which can show only where the product of the alphas, as rounded, is not 0
abbrev pub burns : Mode → Float → Float → Float → Float → Bool
burns m Cs αs Cb αb = among black_first (steps m) && (eq Cs f0 && (eq Cb f1 && not (eq (αs ⊗ αb) f0)))
