-- An input for each difference of docs/DIFFERENCES.md: the step, which value of the pixel shows it, the operator, the words of a gray source s with alpha
-- sa and of a gray destination d with alpha da, the word of the compositor's value there, and the document's. The non-separable modes have one input of
-- their own. proofs/Rows.antt shows that each is so. Definitions only.
use Rattle.std.specs.Prelude.{ℕ, Bool, true, false, not, cond, ◌&&◌, ◌||◌, List, [], ◌∷◌, ◌++◌, eqb, Float}
use Rattle.std.specs.Float.{binary32}
use Rattle.std.specs.Float.Ieee.{to_bits}
use Rattle.float_steps.specs.Notation.{◌⊗◌, lit, f1}
use Rattle.ieee_laws.specs.Same.{plain}
use Rattle.operators.specs.declared.CompositeOp.{CompositeOp}
use Rattle.operators.specs.declared.CompositeOp.TheVariants as O
use Rattle.blends.specs.Hsl.{rgb_of}
use Rattle.pictures.specs.declared.Rgba.{Rgba}
use Rattle.pixels.specs.Pixel.{pixel_of, rgba_of, unused}
use Rattle.standards.specs.PorterDuff.{Operator, clear, A, B, AoverB, BoverA, AinB, BinA, AoutB, BoutA, AatopB, BatopA, AxorB, AplusB}
use Rattle.standards.specs.Compositing.{Mode, multiply, screen, overlay, darken, lighten, color_dodge, color_burn, hard_light, soft_light, difference, exclusion}
use Rattle.standards.specs.NonSeparable.{NonSeparable, hue, saturation, luminosity, color}
use Rattle.standards.specs.NonSeparable as N
use Rattle.standards.specs.Operators.{porter_duff_op, blend_op}
use Rattle.standards.specs.Lists.{without_by, before_by, distinct_by}
use Rattle.standards.specs.FractionSteps.{over_coverage, straight, left_out, coverage_first, kept_colour, cleared, kept_alpha, cut}
use Rattle.standards.specs.FractionSteps as F
use Rattle.standards.specs.BlendSteps.{black_first, premultiplied, dropped, second_at_half, divided, union_alpha, distributed, source_grouped, blend_grouped, uncovered_first, clamped_blend, clamped_result, zero_uncovered, below_zero, above_one, source_doubled}
use Rattle.standards.specs.BlendSteps as W

-- ---- a value of a pixel: its colour as it is stored; its colour in the operator's form; its alpha
pub data Value : Type 0 where
  stored in_form alpha : Value

-- of a pixel with the colour c and the alpha a, stored with the steps of a list: in its form, a straight colour is multiplied by its alpha
abbrev pub fraction_value : Value → List F.Step → Float → Float → Float
fraction_value stored l c a = c
fraction_value in_form l c a = cond (F.among straight l) (c ⊗ a) c
fraction_value alpha l c a = a

abbrev pub blend_value : Value → Float → Float → Float
blend_value stored c a = c
blend_value in_form c a = c
blend_value alpha c a = a

-- what the document's own value has of an operator's steps: none, but that a colour in its form is divided where ours is
abbrev pub fraction_form : Value → List F.Step → List F.Step
fraction_form stored l = []
fraction_form in_form l = cond (F.among over_coverage l) (over_coverage ∷ []) []
fraction_form alpha l = []

abbrev pub blend_form : Value → List W.Step → List W.Step
blend_form stored l = []
blend_form in_form l = cond (W.among divided l) (divided ∷ []) []
blend_form alpha l = []

-- ---- the compositor's, and by steps
abbrev pub gray_pixel : CompositeOp → Float → Float → Float → Float → Rgba
gray_pixel op s sa d da = pixel_of op unused (rgba_of s s s sa) (rgba_of d d d da)

abbrev pub fraction_here : Value → Operator → Float → Float → Float → Float → Float
fraction_here v o s sa d da = fraction_value v (F.steps o) (gray_pixel (porter_duff_op o) s sa d da).r (gray_pixel (porter_duff_op o) s sa d da).a

abbrev pub fraction_by : List F.Step → Value → Operator → Float → Float → Float → Float → Float
fraction_by l v o s sa d da = fraction_value v l (F.colour_by l o s sa d da) (F.alpha_by l o sa da)

abbrev pub blend_here : Value → Mode → Float → Float → Float → Float → Float
blend_here v m s sa d da = blend_value v (gray_pixel (blend_op m) s sa d da).r (gray_pixel (blend_op m) s sa d da).a

abbrev pub blend_with : List W.Step → Value → Mode → Float → Float → Float → Float → Float
blend_with l v m s sa d da = blend_value v (W.colour_by l m s sa d da) (W.alpha_by l sa da)

-- ---- W3C's non-separable modes: the red of two opaque colours, (3/4, 1/2, 1/4) over (1/4, 1/2, 1)
abbrev pub non_separable_op : NonSeparable → CompositeOp
non_separable_op hue = O.Hue
non_separable_op saturation = O.Saturate
non_separable_op luminosity = O.Luminize
non_separable_op color = O.Colorize

abbrev pub hsl_here : NonSeparable → Float
hsl_here n = (pixel_of (non_separable_op n) unused (rgba_of (lit 0x3f40_0000) (lit 0x3f00_0000) (lit 0x3e80_0000) f1) (rgba_of (lit 0x3e80_0000) (lit 0x3f00_0000) f1 f1)).r

abbrev pub hsl_there : NonSeparable → Float
hsl_there n = (N.B n (rgb_of (lit 0x3e80_0000) (lit 0x3f00_0000) f1) (rgb_of (lit 0x3f40_0000) (lit 0x3f00_0000) (lit 0x3e80_0000))).r

-- ---- a row: the words of s, sa, d and da, the compositor's and the document's
pub data Row : Type 0 where
  fractions : F.Step → Value → Operator → ℕ → ℕ → ℕ → ℕ → ℕ → ℕ → Row
  blends : W.Step → Value → Mode → ℕ → ℕ → ℕ → ℕ → ℕ → ℕ → Row
  non_separable : NonSeparable → ℕ → ℕ → Row

-- the word of a value, +0 for -0
abbrev pub word : Float → ℕ
word x = to_bits binary32 (plain x)

-- A row shows its step k, one of the operator's list l: x and y are the compositor's value and the document's, and they differ; x is not what the
-- compositor's formula gives with k undone (and with it the steps that have their place inside k); and k changes the value where it is applied, after the
-- steps that stand before it in the list
abbrev pub differs : Row → Bool
differs (fractions k v o s sa d da x y) =
    let value : List F.Step → ℕ = λ l. word (fraction_by l v o (lit s) (lit sa) (lit d) (lit da)) in
    let before = before_by F.number k (F.steps o) in
    F.among k (F.steps o)
    && (eqb (word (fraction_here v o (lit s) (lit sa) (lit d) (lit da))) x
    && (eqb (value (fraction_form v (F.steps o))) y
    && (not (eqb x y)
    && (not (eqb x (value (without_by F.number k (F.steps o)))) && not (eqb (value before) (value (before ++ (k ∷ []))))))))
differs (blends k v m s sa d da x y) =
    let value : List W.Step → ℕ = λ l. word (blend_with l v m (lit s) (lit sa) (lit d) (lit da)) in
    let before = before_by W.number k (W.steps m) in
    W.among k (W.steps m)
    && (eqb (word (blend_here v m (lit s) (lit sa) (lit d) (lit da))) x
    && (eqb (value (blend_form v (W.steps m))) y
    && (not (eqb x y)
    && (not (eqb x (value (without_by W.number k (W.steps m)))) && not (eqb (value before) (value (before ++ (k ∷ []))))))))
differs (non_separable n x y) = eqb (word (hsl_here n)) x && (eqb (word (hsl_there n)) y && not (eqb x y))

-- ---- every step of every operator has a row
abbrev pub operator_number : Operator → ℕ
operator_number clear = 0
operator_number A = 1
operator_number B = 2
operator_number AoverB = 3
operator_number BoverA = 4
operator_number AinB = 5
operator_number BinA = 6
operator_number AoutB = 7
operator_number BoutA = 8
operator_number AatopB = 9
operator_number BatopA = 10
operator_number AxorB = 11
operator_number AplusB = 12

abbrev pub mode_number : Mode → ℕ
mode_number multiply = 0
mode_number screen = 1
mode_number overlay = 2
mode_number darken = 3
mode_number lighten = 4
mode_number color_dodge = 5
mode_number color_burn = 6
mode_number hard_light = 7
mode_number soft_light = 8
mode_number difference = 9
mode_number exclusion = 10

abbrev pub is_fraction : F.Step → Operator → Row → Bool
is_fraction k o (fractions j v q s sa d da x y) = eqb (F.number k) (F.number j) && eqb (operator_number o) (operator_number q)
is_fraction k o (blends j v m s sa d da x y) = false
is_fraction k o (non_separable n x y) = false

abbrev pub is_blend : W.Step → Mode → Row → Bool
is_blend k m (fractions j v o s sa d da x y) = false
is_blend k m (blends j v n s sa d da x y) = eqb (W.number k) (W.number j) && eqb (mode_number m) (mode_number n)
is_blend k m (non_separable n x y) = false

abbrev pub some : (Row → Bool) → List Row → Bool
some f [] = false
some f (r ∷ rs) = f r || some f rs

abbrev pub all : {A : Type 0} → (A → Bool) → List A → Bool
all f [] = true
all f (x ∷ xs) = f x && all f xs

abbrev pub over : List Mode → (Mode → Row) → List Row
over [] f = []
over (m ∷ ms) f = f m ∷ over ms f

abbrev pub every_mode : List Mode
every_mode = multiply ∷ screen ∷ overlay ∷ darken ∷ lighten ∷ color_dodge ∷ color_burn ∷ hard_light ∷ soft_light ∷ difference ∷ exclusion ∷ []

abbrev pub every_operator : List Operator
every_operator = clear ∷ A ∷ B ∷ AoverB ∷ BoverA ∷ AinB ∷ BinA ∷ AoutB ∷ BoutA ∷ AatopB ∷ BatopA ∷ AxorB ∷ AplusB ∷ []

abbrev pub divided_modes : List Mode
divided_modes = overlay ∷ color_dodge ∷ color_burn ∷ hard_light ∷ soft_light ∷ []

-- ---- the rows, in the order of docs/DIFFERENCES.md
-- document 01's own: Over and DstOver divide by alpha
abbrev pub over_coverage_rows : List Row
over_coverage_rows =
    fractions over_coverage stored AoverB 0x3f00_0000 0x3f00_0000 0 0 0x3f00_0000 0x3e80_0000
    ∷ fractions over_coverage stored BoverA 0 0 0x3f00_0000 0x3f00_0000 0x3f00_0000 0x3e80_0000
    ∷ []

-- document 01's own: Src, Dst, DstIn and DstOut keep straight colour
abbrev pub straight_rows : List Row
straight_rows =
    fractions straight stored A 0x3f00_0000 0x3f00_0000 0 0 0x3f00_0000 0x3e80_0000
    ∷ fractions straight stored B 0 0 0x3f00_0000 0x3f00_0000 0x3f00_0000 0x3e80_0000
    ∷ fractions straight stored BinA 0 0x3f00_0000 0x3f00_0000 0x3f80_0000 0x3f00_0000 0x3e80_0000
    ∷ fractions straight stored BoutA 0 0x3f00_0000 0x3f00_0000 0x3f80_0000 0x3f00_0000 0x3e80_0000
    ∷ []

-- document 01's own: ColorBurn of a black source over white is 0
abbrev pub black_first_rows : List Row
black_first_rows = blends black_first in_form color_burn 0 0x3f80_0000 0x3f80_0000 0x3f80_0000 0 0x3f80_0000 ∷ []

-- document 01's own: Darken takes the smaller of the premultiplied colours
abbrev pub darken_rows : List Row
darken_rows = blends premultiplied in_form darken 0x3f80_0000 0x3f00_0000 0x3f00_0000 0x3f80_0000 0x3f40_0000 0x3f00_0000 ∷ []

-- document 01's own: Exclusion drops the uncovered terms
abbrev pub dropped_rows : List Row
dropped_rows = blends dropped in_form exclusion 0x3f80_0000 0x3f4c_cccd 0x3f00_0000 0x3f00_0000 0x3f26_6666 0x3f26_6667 ∷ []

-- document 01's own: HardLight and Overlay take their second branch at a half, which shows beside an infinite colour
abbrev pub half_rows : List Row
half_rows =
    blends second_at_half in_form overlay 0x7f80_0000 0x3f00_0000 0x3f00_0000 0x3f00_0000 0x7fc0_0000 0x3f55_5555
    ∷ blends second_at_half in_form hard_light 0x3f00_0000 0x3f00_0000 0x7f80_0000 0x3f00_0000 0x7fc0_0000 0x7f80_0000
    ∷ []

-- document 01's own: the modes that divide store co over alpha
abbrev pub divided_rows : List Row
divided_rows =
    blends divided stored overlay 0 0 0x3f80_0000 0x3f00_0000 0x3f80_0000 0x3f00_0000
    ∷ blends divided stored color_dodge 0 0 0x3f80_0000 0x3f00_0000 0x3f80_0000 0x3f00_0000
    ∷ blends divided stored color_burn 0 0 0x3f80_0000 0x3f00_0000 0x3f80_0000 0x3f00_0000
    ∷ blends divided stored hard_light 0 0 0x3f80_0000 0x3f00_0000 0x3f80_0000 0x3f00_0000
    ∷ blends divided stored soft_light 0 0 0x3f80_0000 0x3f00_0000 0x3f80_0000 0x3f00_0000
    ∷ []

-- document 01's own: Hue, Saturate, Luminize and Colorize use HSL
abbrev pub hsl_rows : List Row
hsl_rows =
    non_separable hue 0x3f80_0000 0x3f48_a3d7
    ∷ non_separable saturation 0x3ee0_0000 0x3ea7_40db
    ∷ non_separable luminosity 0 0x3eb1_d89a
    ∷ non_separable color 0x3f50_0000 0x3f2e_b853
    ∷ []

-- a term with the fraction 0 is left out: it is a NaN where what is multiplied by 0 is not finite
abbrev pub left_out_rows : List Row
left_out_rows =
    fractions left_out in_form clear 0x7f80_0000 0x3f80_0000 0 0 0 0x7fc0_0000
    ∷ fractions left_out in_form clear 0 0 0x7f80_0000 0x3f80_0000 0 0x7fc0_0000
    ∷ fractions left_out alpha clear 0 0x7f80_0000 0 0 0 0x7fc0_0000
    ∷ fractions left_out alpha clear 0 0 0 0x7f80_0000 0 0x7fc0_0000
    ∷ fractions left_out in_form A 0x3f00_0000 0x3f80_0000 0x7f80_0000 0x3f80_0000 0x3f00_0000 0x7fc0_0000
    ∷ fractions left_out alpha A 0x3f00_0000 0x3f80_0000 0 0x7f80_0000 0x3f80_0000 0x7fc0_0000
    ∷ fractions left_out in_form B 0x7f80_0000 0x3f80_0000 0x3f00_0000 0x3f80_0000 0x3f00_0000 0x7fc0_0000
    ∷ fractions left_out alpha B 0 0x7f80_0000 0x3f00_0000 0x3f80_0000 0x3f80_0000 0x7fc0_0000
    ∷ fractions left_out in_form AinB 0x3f00_0000 0x3f80_0000 0x7f80_0000 0x3f00_0000 0x3e80_0000 0x7fc0_0000
    ∷ fractions left_out alpha AinB 0 0x3f80_0000 0 0x7f80_0000 0x7f80_0000 0x7fc0_0000
    ∷ fractions left_out in_form AoutB 0x3f00_0000 0x3f80_0000 0x7f80_0000 0x3f00_0000 0x3e80_0000 0x7fc0_0000
    ∷ fractions left_out alpha AoutB 0 0x3f80_0000 0 0x7f80_0000 0xff80_0000 0x7fc0_0000
    ∷ fractions left_out in_form BinA 0x7f80_0000 0x3f00_0000 0x3f00_0000 0x3f80_0000 0x3e80_0000 0x7fc0_0000
    ∷ fractions left_out alpha BinA 0 0x7f80_0000 0 0x3f80_0000 0x7f80_0000 0x7fc0_0000
    ∷ fractions left_out in_form BoutA 0x7f80_0000 0x3f00_0000 0x3f00_0000 0x3f80_0000 0x3e80_0000 0x7fc0_0000
    ∷ fractions left_out alpha BoutA 0 0x7f80_0000 0 0xbf80_0000 0x7f80_0000 0x7fc0_0000
    ∷ []

-- the product of coverage and fraction is taken first; for a colour that is stored straight, by whoever multiplies it by its alpha
abbrev pub grouping_rows : List Row
grouping_rows =
    fractions coverage_first in_form AinB 0x3f00_8081 0x3b80_8081 0x3f80_0000 0x3d70_f0f1 0x38f2_d5ac 0x38f2_d5ab
    ∷ fractions coverage_first in_form AoutB 0x3f00_8081 0x3b80_8081 0x3f80_0000 0x3d40_c0c1 0x3af5_debe 0x3af5_debd
    ∷ fractions straight in_form BinA 0x3f80_0000 0x3c40_c0c1 0x3f00_8081 0x3db8_b8b9 0x3a0b_a143 0x3a0b_a142
    ∷ fractions straight in_form BoutA 0x3f80_0000 0x3b80_8081 0x3f00_8081 0x3c40_c0c1 0x3bc0_c000 0x3bc0_bfff
    ∷ []

-- Over and DstOver where the coverage is at most 0: the destination's colour, alpha 0
abbrev pub uncovered_rows : List Row
uncovered_rows =
    fractions kept_colour in_form AoverB 0x3f00_0000 0 0x3e80_0000 0 0x3e80_0000 0x7fc0_0000
    ∷ fractions kept_colour alpha AoverB 0 0xbf00_0000 0 0 0 0xbf00_0000
    ∷ fractions kept_colour in_form AoverB 0x3f80_0000 0xbf00_0000 0x3f00_0000 0 0x3f00_0000 0x3f80_0000
    ∷ fractions kept_colour in_form BoverA 0x3f00_0000 0 0x3e80_0000 0 0x3e80_0000 0x7fc0_0000
    ∷ fractions kept_colour alpha BoverA 0 0 0 0xbf00_0000 0 0xbf00_0000
    ∷ fractions kept_colour in_form BoverA 0x3f80_0000 0xbf00_0000 0x3f00_0000 0 0x3f00_0000 0x3f80_0000
    ∷ []

-- DstIn and DstOut clear the pixel where alpha is at most 0: rows with an alpha below 0, and of 0 under an infinite colour
abbrev pub cleared_rows : List Row
cleared_rows =
    fractions cleared in_form BinA 0 0xbf00_0000 0x3f00_0000 0x3f80_0000 0 0xbe80_0000
    ∷ fractions cleared alpha BinA 0 0xbf00_0000 0x3f00_0000 0x3f80_0000 0 0xbf00_0000
    ∷ fractions cleared in_form BinA 0 0 0x7f80_0000 0x3f80_0000 0 0x7fc0_0000
    ∷ fractions cleared in_form BoutA 0 0x4000_0000 0x3f00_0000 0x3f80_0000 0 0xbf00_0000
    ∷ fractions cleared alpha BoutA 0 0x4000_0000 0x3f00_0000 0x3f80_0000 0 0xbf80_0000
    ∷ fractions cleared in_form BoutA 0 0x3f80_0000 0x7f80_0000 0x3f80_0000 0 0x7fc0_0000
    ∷ []

-- Atop and DstAtop keep the one picture's alpha
abbrev pub kept_rows : List Row
kept_rows =
    fractions kept_alpha alpha AatopB 0 0x3b80_8081 0 0x3e54_d4d5 0x3e54_d4d5 0x3e54_d4d6
    ∷ fractions kept_alpha alpha BatopA 0 0x3b80_8081 0 0x3ea0_a0a1 0x3b80_8081 0x3b80_8082
    ∷ []

-- Plus is cut at 1, which a NaN becomes too
abbrev pub cut_rows : List Row
cut_rows =
    fractions cut in_form AplusB 0x3f80_0000 0x3f80_0000 0x3f80_0000 0x3f80_0000 0x3f80_0000 0x4000_0000
    ∷ fractions cut alpha AplusB 0x3f80_0000 0x3f80_0000 0x3f80_0000 0x3f80_0000 0x3f80_0000 0x4000_0000
    ∷ fractions cut in_form AplusB 0x7fc0_0000 0x3f80_0000 0 0x3f80_0000 0x3f80_0000 0x7fc0_0000
    ∷ fractions cut alpha AplusB 0 0x7fc0_0000 0 0 0x3f80_0000 0x7fc0_0000
    ∷ []

-- alpha is αs + αb − αs × αb for αs + αb × (1 − αs): in every mode, over an opaque destination too
abbrev pub alpha_rows : List Row
alpha_rows =
    over every_mode (λ m. blends union_alpha alpha m 0 0x3f80_0000 0 0x3f4c_cccd 0x3f7f_ffff 0x3f80_0000)
    ++ over every_mode (λ m. blends union_alpha alpha m 0 0x3f00_8081 0 0x3f80_0000 0x3f7f_ffff 0x3f80_0000)

-- and in the modes that divide it is the divisor
abbrev pub divisor_rows : List Row
divisor_rows =
    blends union_alpha in_form overlay 0 0x3f00_0000 0x3f80_0000 0x3e4c_cccd 0x3eaa_aaac 0x3eaa_aaaa
    ∷ blends union_alpha in_form color_dodge 0 0x3f00_0000 0x3f80_0000 0x3e4c_cccd 0x3eaa_aaac 0x3eaa_aaaa
    ∷ blends union_alpha in_form color_burn 0x3f00_0000 0x3eaa_aaab 0 0x3f00_0000 0x3e00_0000 0x3e00_0001
    ∷ blends union_alpha in_form hard_light 0 0x3f00_0000 0x3f80_0000 0x3e4c_cccd 0x3e2a_aaac 0x3e2a_aaaa
    ∷ blends union_alpha in_form soft_light 0 0x3f00_0000 0x3f80_0000 0x3e4c_cccd 0x3eaa_aaac 0x3eaa_aaaa
    ∷ []

-- αs is multiplied into both terms of Cs'
abbrev pub distributed_rows : List Row
distributed_rows =
    blends distributed in_form multiply 0x3f80_0000 0x3ecc_cccd 0x3f19_999a 0x3dcc_cccd 0x3ed7_0a3d 0x3ed7_0a3e
    ∷ blends distributed in_form screen 0x3f80_0000 0x3ecc_cccd 0x3f19_999a 0x3dcc_cccd 0x3edf_3b64 0x3edf_3b65
    ∷ blends distributed in_form overlay 0x3f80_0000 0x3ecc_cccd 0x3f19_999a 0x3dcc_cccd 0x3f72_a4ba 0x3f72_a4bb
    ∷ blends distributed in_form darken 0x3f80_0000 0x3ecc_cccd 0x3f19_999a 0x3dcc_cccd 0x3ee9_78d5 0x3ed7_0a3e
    ∷ blends distributed in_form lighten 0x3f80_0000 0x3ecc_cccd 0x3f19_999a 0x3dcc_cccd 0x3edf_3b64 0x3edf_3b65
    ∷ blends distributed in_form color_dodge 0x3f80_0000 0x3ecc_cccd 0x3f19_999a 0x3dcc_cccd 0x3f72_a4ba 0x3f72_a4bb
    ∷ blends distributed in_form color_burn 0x3f80_0000 0x3ecc_cccd 0x3f19_999a 0x3dcc_cccd 0x3f69_bd37 0x3f69_bd38
    ∷ blends distributed in_form hard_light 0x3f80_0000 0x3ecc_cccd 0x3f19_999a 0x3dcc_cccd 0x3f72_a4ba 0x3f72_a4bb
    ∷ blends distributed in_form soft_light 0x3f80_0000 0x3ecc_cccd 0x3f19_999a 0x3dcc_cccd 0x3f6d_a034 0x3f6d_a035
    ∷ blends distributed in_form difference 0x3f80_0000 0x3ecc_cccd 0x3f19_999a 0x3dcc_cccd 0x3ed2_f1aa 0x3ed2_f1ab
    ∷ blends distributed in_form exclusion 0x3f19_999a 0x3f66_6666 0x3eaa_aaab 0x3e80_0000 0x3f08_8888 0x3f08_8889
    ∷ []

-- which then is no sum to be clamped: where W3C's clamp acts
abbrev pub unclamped_rows : List Row
unclamped_rows =
    blends distributed in_form multiply 0xbf80_0000 0x3f40_0000 0x3f80_0000 0x3e80_0000 0 0x3d80_0000
    ∷ blends distributed in_form screen 0xbf80_0000 0x3f40_0000 0x3f80_0000 0x3e80_0000 0 0x3d80_0000
    ∷ blends distributed in_form overlay 0xbf80_0000 0x3f40_0000 0x3f80_0000 0x3e80_0000 0 0x3d9d_89d9
    ∷ blends distributed in_form darken 0xbf80_0000 0x3f40_0000 0x3f80_0000 0x3e80_0000 0 0x3d80_0000
    ∷ blends distributed in_form lighten 0xbf80_0000 0x3f40_0000 0x3f80_0000 0x3e80_0000 0 0x3d80_0000
    ∷ blends distributed in_form color_dodge 0xbf80_0000 0x3f40_0000 0x3f80_0000 0x3e80_0000 0 0x3d9d_89d9
    ∷ blends distributed in_form color_burn 0xbf80_0000 0x3f40_0000 0x3f80_0000 0x3e80_0000 0 0x3d9d_89d9
    ∷ blends distributed in_form hard_light 0xbf80_0000 0x3f40_0000 0x3f80_0000 0x3e80_0000 0 0x3d9d_89d9
    ∷ blends distributed in_form soft_light 0xbf80_0000 0x3f40_0000 0x3f80_0000 0x3e80_0000 0 0x3d9d_89d9
    ∷ blends distributed in_form difference 0xbf80_0000 0x3f40_0000 0x3f80_0000 0x3e80_0000 0 0x3d80_0000
    ∷ blends distributed in_form exclusion 0xbf80_0000 0x3f40_0000 0x3f80_0000 0x3e80_0000 0 0x3d80_0000
    ∷ []

-- the product αs × (1 − αb) is taken first, in the source's term
abbrev pub source_grouped_rows : List Row
source_grouped_rows =
    blends source_grouped in_form multiply 0x3e99_999a 0x3eaa_aaab 0 0x3eaa_aaab 0x3d88_8888 0x3d88_8889
    ∷ blends source_grouped in_form screen 0x3e99_999a 0x3eaa_aaab 0 0x3eaa_aaab 0x3dcc_cccd 0x3dcc_ccce
    ∷ blends source_grouped in_form overlay 0x3e99_999a 0x3eaa_aaab 0 0x3eaa_aaab 0x3df5_c28e 0x3df5_c28f
    ∷ blends source_grouped in_form darken 0x3ea8_a8a9 0x3f16_9697 0 0x3eee_eeef 0x3dd3_a679 0x3dd3_a67a
    ∷ blends source_grouped in_form lighten 0x3e99_999a 0x3eaa_aaab 0 0x3eaa_aaab 0x3dcc_cccd 0x3dcc_ccce
    ∷ blends source_grouped in_form color_dodge 0x3e99_999a 0x3eaa_aaab 0 0x3eaa_aaab 0x3df5_c28e 0x3df5_c28f
    ∷ blends source_grouped in_form color_burn 0x3e99_999a 0x3eaa_aaab 0 0x3eaa_aaab 0x3df5_c28e 0x3df5_c28f
    ∷ blends source_grouped in_form hard_light 0x3e99_999a 0x3eaa_aaab 0 0x3eaa_aaab 0x3df5_c28e 0x3df5_c28f
    ∷ blends source_grouped in_form soft_light 0x3e99_999a 0x3eaa_aaab 0 0x3eaa_aaab 0x3df5_c28e 0x3df5_c28f
    ∷ blends source_grouped in_form difference 0x3e99_999a 0x3eaa_aaab 0 0x3eaa_aaab 0x3dcc_cccd 0x3dcc_ccce
    ∷ []

-- the product αs × αb is taken first, in the blended term
abbrev pub blend_grouped_rows : List Row
blend_grouped_rows =
    blends blend_grouped in_form multiply 0x3ecc_cccd 0x3f66_6666 0x3f80_0000 0x3f4c_cccd 0x3ee1_47ae 0x3ee1_47af
    ∷ blends blend_grouped in_form screen 0x3e4c_cccd 0x3f4c_cccd 0x3e99_999a 0x3e4c_cccd 0x3e57_731a 0x3e57_7319
    ∷ blends blend_grouped in_form overlay 0x3f80_0000 0x3f33_3333 0x3e99_999a 0x3f19_999a 0x3f2a_7906 0x3f2a_7905
    ∷ blends blend_grouped in_form lighten 0x3f66_6666 0x3f19_999a 0x3e99_999a 0x3f33_3333 0x3f1f_be76 0x3f1f_be77
    ∷ blends blend_grouped in_form color_dodge 0 0x3eaa_aaab 0x3f66_6666 0x3f33_3333 0x3f49_9999 0x3f49_999a
    ∷ blends blend_grouped in_form color_burn 0x3f19_999a 0x3f66_6666 0x3f2a_aaab 0x3f2a_aaab 0x3f02_0f4f 0x3f02_0f4e
    ∷ blends blend_grouped in_form hard_light 0x3e80_0000 0x3f66_6666 0x3eaa_aaab 0x3f66_6666 0x3e41_f07c 0x3e41_f07d
    ∷ blends blend_grouped in_form soft_light 0x3eaa_aaab 0x3f40_0000 0x3f00_0000 0x3ecc_cccd 0x3ec3_c3c5 0x3ec3_c3c4
    ∷ blends blend_grouped in_form difference 0x3f33_3333 0x3f33_3333 0x3f4c_cccd 0x3f66_6666 0x3ea7_ef9f 0x3ea7_ef9e
    ∷ []

-- the two terms in which one picture lies alone are added first
abbrev pub uncovered_first_rows : List Row
uncovered_first_rows =
    blends uncovered_first in_form multiply 0x3f80_0000 0x3f66_6666 0x3f00_0000 0x3f40_0000 0x3f19_9999 0x3f19_999a
    ∷ blends uncovered_first in_form screen 0x3f80_0000 0x3f66_6666 0x3f00_0000 0x3f40_0000 0x3f6f_ffff 0x3f70_0000
    ∷ blends uncovered_first in_form overlay 0x3f80_0000 0x3f66_6666 0x3f00_0000 0x3f40_0000 0x3f76_2761 0x3f76_2762
    ∷ blends uncovered_first in_form darken 0x3f80_0000 0x3f66_6666 0x3f00_0000 0x3f40_0000 0x3f23_3333 0x3f19_999a
    ∷ blends uncovered_first in_form lighten 0x3f80_0000 0x3f66_6666 0x3f00_0000 0x3f40_0000 0x3f6f_ffff 0x3f70_0000
    ∷ blends uncovered_first in_form color_dodge 0x3f80_0000 0x3f66_6666 0x3f00_0000 0x3f40_0000 0x3f76_2761 0x3f76_2762
    ∷ blends uncovered_first in_form color_burn 0x3f80_0000 0x3f66_6666 0x3f00_0000 0x3f40_0000 0x3f1d_89d8 0x3f1d_89d9
    ∷ blends uncovered_first in_form hard_light 0x3f80_0000 0x3f66_6666 0x3f00_0000 0x3f40_0000 0x3f76_2761 0x3f76_2762
    ∷ blends uncovered_first in_form soft_light 0x3f80_0000 0x3f66_6666 0x3f00_0000 0x3f40_0000 0x3f42_3e7f 0x3f42_3e80
    ∷ blends uncovered_first in_form difference 0x3f80_0000 0x3f66_6666 0x3f00_0000 0x3f40_0000 0x3f19_9999 0x3f19_999a
    ∷ []

-- B is clamped to 0 and 1 before it is mixed
abbrev pub blend_clamp_rows : List Row
blend_clamp_rows =
    blends clamped_blend in_form multiply 0x3f00_0000 0x3f80_0000 0xbf00_0000 0x3f00_0000 0x3e80_0000 0x3e00_0000
    ∷ blends clamped_blend in_form screen 0xbf00_0000 0x3f00_0000 0x3fc0_0000 0x3f00_0000 0x3f00_0000 0x3f30_0000
    ∷ blends clamped_blend in_form darken 0xbf00_0000 0x3f00_0000 0x3fc0_0000 0x3f00_0000 0x3e80_0000 0x3ec0_0000
    ∷ blends clamped_blend in_form lighten 0xbf00_0000 0x3f00_0000 0x3fc0_0000 0x3f00_0000 0x3f00_0000 0x3f20_0000
    ∷ blends clamped_blend in_form difference 0xbf00_0000 0x3f00_0000 0x3fc0_0000 0x3f00_0000 0x3f00_0000 0x3f40_0000
    ∷ []

-- the result is clamped to 0 and 1: Darken's row and those of the modes that divide are in range
abbrev pub result_clamp_rows : List Row
result_clamp_rows =
    blends clamped_result in_form multiply 0 0 0xbf00_0000 0x3f80_0000 0 0xbf00_0000
    ∷ blends clamped_result in_form screen 0 0 0xbf00_0000 0x3f80_0000 0 0xbf00_0000
    ∷ blends clamped_result in_form overlay 0x3f7f_fffe 0x3f30_b0b1 0x3f7f_fffe 0x3e08_8889 0x3f80_0000 0x3f7f_ffff
    ∷ blends clamped_result in_form darken 0x3f80_0000 0x3f40_0000 0x3f80_0000 0x3f40_0000 0x3f80_0000 0x3f70_0000
    ∷ blends clamped_result in_form lighten 0 0 0xbf00_0000 0x3f80_0000 0 0xbf00_0000
    ∷ blends clamped_result in_form color_dodge 0x3f80_0000 0x3dc8_c8c9 0x3f7f_ffff 0x3f40_c0c1 0x3f80_0000 0x3f7f_ffff
    ∷ blends clamped_result in_form color_burn 0x3f7f_ffff 0x3f4f_cfd0 0x3f7f_ffff 0x3f40_c0c1 0x3f80_0000 0x3f7f_ffff
    ∷ blends clamped_result in_form hard_light 0x3f80_0000 0x3e48_c8c9 0x3f7f_fffe 0x3e58_d8d9 0x3f80_0000 0x3f7f_ffff
    ∷ blends clamped_result in_form soft_light 0x3f80_0000 0x3f68_e8e9 0x3f7f_fffe 0x3f07_8788 0x3f80_0000 0x3f7f_fffe
    ∷ blends clamped_result in_form difference 0 0 0xbf00_0000 0x3f80_0000 0 0xbf00_0000
    ∷ blends clamped_result in_form exclusion 0 0 0xbf00_0000 0x3f80_0000 0 0xbf00_0000
    ∷ []

-- the modes that divide give 0 where the alpha is not above 0: both alphas 0, one below 0, one a NaN, both above 1
abbrev pub empty_rows : List Row
empty_rows =
    over divided_modes (λ m. blends zero_uncovered in_form m 0x3f00_0000 0 0x3f00_0000 0 0 0x7fc0_0000)
    ++ (over divided_modes (λ m. blends zero_uncovered in_form m 0x3f00_0000 0xbf80_0000 0x3f00_0000 0 0 0x3f00_0000)
    ++ (over divided_modes (λ m. blends zero_uncovered in_form m 0x3f00_0000 0x7fc0_0000 0x3f00_0000 0x3f80_0000 0 0x7fc0_0000)
    ++ over divided_modes (λ m. blends zero_uncovered in_form m 0x3f80_0000 0x4000_0000 0x3f80_0000 0x4040_0000 0 0x3f80_0000)))

-- ColorDodge and ColorBurn of a colour below 0 and above 1
abbrev pub past_rows : List Row
past_rows =
    blends below_zero in_form color_dodge 0x3f80_0000 0x3f80_0000 0xbf00_0000 0x3f80_0000 0 0x3f80_0000
    ∷ blends above_one in_form color_dodge 0x4000_0000 0x3f00_0000 0x3f00_0000 0x3f00_0000 0x3f80_0000 0x3f2a_aaab
    ∷ blends below_zero in_form color_burn 0xbf80_0000 0x3f00_0000 0x3f00_0000 0x3f00_0000 0 0x3eaa_aaab
    ∷ blends above_one in_form color_burn 0x3e80_0000 0x3f80_0000 0x3fc0_0000 0x3f40_0000 0x3f50_0000 0x3f80_0000
    ∷ []

-- Exclusion doubles the source's colour, of which one of 2 ^ 127 or more overflows
abbrev pub doubled_rows : List Row
doubled_rows =
    blends source_doubled in_form exclusion 0x7f00_0000 0x3f80_0000 0 0x3f80_0000 0x7fc0_0000 0x3f80_0000
    ∷ blends source_doubled in_form exclusion 0 0x3f80_0000 0x7f00_0000 0x3f80_0000 0x3f80_0000 0x7fc0_0000
    ∷ []

-- Exclusion blends the colours already multiplied by alpha
abbrev pub premultiplied_rows : List Row
premultiplied_rows = blends premultiplied in_form exclusion 0x3f00_0000 0x3f00_0000 0x3e4c_cccd 0x3f00_0000 0x3e99_9999 0x3e99_999a ∷ []

-- all of them
abbrev pub rows : List Row
rows =
    over_coverage_rows
    ++ (straight_rows
    ++ (black_first_rows
    ++ (darken_rows
    ++ (dropped_rows
    ++ (half_rows
    ++ (divided_rows
    ++ (hsl_rows
    ++ (left_out_rows
    ++ (grouping_rows
    ++ (uncovered_rows
    ++ (cleared_rows
    ++ (kept_rows
    ++ (cut_rows
    ++ (alpha_rows
    ++ (divisor_rows
    ++ (distributed_rows
    ++ (unclamped_rows
    ++ (source_grouped_rows
    ++ (blend_grouped_rows
    ++ (uncovered_first_rows
    ++ (blend_clamp_rows
    ++ (result_clamp_rows
    ++ (empty_rows
    ++ (past_rows
    ++ (doubled_rows
    ++ premultiplied_rows)))))))))))))))))))))))))

-- each step of each operator stands in its list once, and has a row
abbrev pub steps_shown : Bool
steps_shown =
    all (λ o. distinct_by F.number (F.steps o) && all (λ k. some (is_fraction k o) rows) (F.steps o)) every_operator
    && all (λ m. distinct_by W.number (W.steps m) && all (λ k. some (is_blend k m) rows) (W.steps m)) every_mode
