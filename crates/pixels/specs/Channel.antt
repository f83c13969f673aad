-- One channel of a result: the mathematical operators' four conventions, the arm `op` (composite.rs 824 to 850), and the steps
-- that other operators share by channel. s and d are one colour channel of the source and the destination, sa and da their alphas.
-- Every fact about all channels is a fact about these. Definitions only.
use Rattle.std.specs.Prelude.{Bool, cond, Float}
use Rattle.std.specs.Float.Ieee.{lt, le}
use Rattle.operators.specs.declared.Convention.{Convention}
use Rattle.operators.specs.declared.Convention.TheVariants.{Premult, Divided, OnPremult, PremultOnly}
use Rattle.float_steps.specs.Notation.{◌⊕◌, ◌⊖◌, ◌⊗◌, ◌⊘◌, f0, f1}
use Rattle.float_steps.specs.Literals.{millionth}
use Rattle.float_steps.specs.Order.{smaller_of, unit_of}
use Rattle.float_steps.specs.Sign.{abs_of}

-- `over_alpha` (composite.rs 874 to 876): the union alpha
abbrev pub over_alpha_of : Float → Float → Float
over_alpha_of sa da = sa ⊕ da ⊖ sa ⊗ da

-- ---- the four conventions; b is the blended channel, before its clamp

abbrev pub terms_of : Float → Float → Float → Float → Float
terms_of s d sa da = sa ⊗ (f1 ⊖ da) ⊗ s ⊕ da ⊗ (f1 ⊖ sa) ⊗ d

abbrev pub premult_by : Float → Float → Float → Float → Float → Float
premult_by b s d sa da = unit_of (sa ⊗ da ⊗ unit_of b ⊕ terms_of s d sa da)

-- v / a where a is above 0, else 0
unfoldable pub over_union_of : Float → Float → Float
over_union_of v a = cond (lt f0 a) (v ⊘ a) f0

abbrev pub divided_by : Float → Float → Float → Float → Float → Float
divided_by b s d sa da = unit_of (over_union_of (sa ⊗ da ⊗ b ⊕ terms_of s d sa da) (over_alpha_of sa da))

abbrev pub on_premult_by : Float → Float → Float → Float → Float → Float
on_premult_by b s d sa da = unit_of (unit_of b ⊕ terms_of s d sa da)

abbrev pub premult_only_by : Float → Float
premult_only_by b = unit_of (unit_of b)

-- a channel of the operator that has the convention and the blend function B
abbrev pub channel_of : Convention → (Float → Float → Float) → Float → Float → Float → Float → Float
channel_of Premult B s d sa da = premult_by (B s d) s d sa da
channel_of Divided B s d sa da = divided_by (B s d) s d sa da
channel_of OnPremult B s d sa da = on_premult_by (B (s ⊗ sa) (d ⊗ da)) s d sa da
channel_of PremultOnly B s d sa da = premult_only_by (B (s ⊗ sa) (d ⊗ da))

-- ---- by channel, of the other operators

-- `over` (composite.rs 879 to 892); a is the alpha that it divides by
abbrev pub over_channel : Float → Float → Float → Float → Float → Float
over_channel a s d sa da = (s ⊗ sa ⊕ d ⊗ da ⊗ (f1 ⊖ sa)) ⊘ a

-- `Atop` (composite.rs 675 to 682); `DstAtop` (composite.rs 683 to 690) is the same with the two pictures exchanged
abbrev pub atop_channel : Float → Float → Float → Float → Float
atop_channel s d sa da = s ⊗ sa ⊗ da ⊕ d ⊗ da ⊗ (f1 ⊖ sa)

-- `Xor` (composite.rs 691 to 698)
abbrev pub xor_channel : Float → Float → Float → Float → Float
xor_channel s d sa da = s ⊗ sa ⊗ (f1 ⊖ da) ⊕ d ⊗ da ⊗ (f1 ⊖ sa)

-- `Plus` (composite.rs 699 to 706)
abbrev pub plus_channel : Float → Float → Float → Float → Float
plus_channel s d sa da = smaller_of (s ⊗ sa ⊕ d ⊗ da) f1

-- the colour operators, `Hue` (composite.rs 743 to 765): v is a channel of the new colour
abbrev pub coloured_channel : Float → Float → Float → Float → Float
coloured_channel v d sa da = over_union_of (v ⊗ sa ⊕ d ⊗ da ⊗ (f1 ⊖ sa)) (over_alpha_of sa da)

-- `ChangeMask` (composite.rs 778 to 782): within the fuzz and 1e-6
abbrev pub within_fuzz : Float → Float → Float → Bool
within_fuzz fuzz s d = le (abs_of (s ⊖ d)) (fuzz ⊕ millionth)

-- `Threshold` (composite.rs 787 to 798)
unfoldable pub threshold_channel : Float → Float → Float → Float → Float
threshold_channel threshold amount s d = cond (le threshold (abs_of (s ⊖ d))) (d ⊕ (s ⊖ d) ⊗ amount) d
