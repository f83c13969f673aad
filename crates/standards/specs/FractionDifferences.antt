-- Porter and Duff's colour and coverage in the form in which the compositor's pixel has them (document 01's, and Plus's cut), with the steps
-- `coverage_first` and `kept_alpha` of FractionSteps.antt; and the inputs at which its other steps show: a term that is left out, a pixel that is cleared, a
-- coverage of at most 0. Definitions only.
use Rattle.std.specs.Prelude.{◌≡◌, false, ◌||◌, T, Float}
use Rattle.std.specs.Float.Ieee.{lt, le, is_nan}
use Rattle.std.specs.Float.Ieee.Scale.{finite}
use Rattle.float_steps.specs.Notation.{◌⊕◌, ◌⊖◌, ◌⊗◌, ◌⊘◌, f0, f1}
use Rattle.float_steps.specs.Order.{smaller_of}
use Rattle.ieee_laws.specs.Same.{Same, Zero}
use Rattle.standards.specs.PorterDuff.{Operator, clear, A, B, AoverB, BoverA, AinB, BinA, AoutB, BoutA, AatopB, BatopA, AxorB, AplusB, fraction, FA, FB, coverage}

-- ---- the form: multiplied by alpha as in the paper, to a zero's sign (exact) or but for it; straight; divided by alpha; and Plus is cut at 1
pub data Form : Type 0 where
  exact premultiplied straight divided capped : Form

abbrev pub form : Operator → Form
form clear = premultiplied
form A = straight
form B = straight
form AoverB = divided
form BoverA = divided
form AinB = premultiplied
form BinA = straight
form AoutB = premultiplied
form BoutA = straight
form AatopB = exact
form BatopA = exact
form AxorB = exact
form AplusB = capped

-- a colour c and an alpha a, as stored in a form, are the paper's colour p with the paper's coverage q
abbrev pub IsColour : Form → Float → Float → Float → Float → Type 0
IsColour exact c a p q = c ≡ p
IsColour premultiplied c a p q = Same c p
IsColour straight c a p q = Same (c ⊗ a) p
IsColour divided c a p q = c ≡ p ⊘ q
IsColour capped c a p q = c ≡ smaller_of p f1

abbrev pub IsAlpha : Form → Float → Float → Type 0
IsAlpha exact a q = a ≡ q
IsAlpha premultiplied a q = Same a q
IsAlpha straight a q = Same a q
IsAlpha divided a q = Same a q
IsAlpha capped a q = a ≡ smaller_of q f1

-- ---- the steps
-- c × F, where c = C × α: printed, or with the product α × F taken first
pub data Grouping : Type 0 where
  printed coverage_first : Grouping

abbrev pub part : Grouping → Float → Float → Float → Float
part printed C α F = C ⊗ α ⊗ F
part coverage_first C α F = C ⊗ (α ⊗ F)

-- In and Out, of the source's colour
abbrev pub group_a : Operator → Grouping
group_a clear = printed
group_a A = printed
group_a B = printed
group_a AoverB = printed
group_a BoverA = printed
group_a AinB = coverage_first
group_a BinA = printed
group_a AoutB = coverage_first
group_a BoutA = printed
group_a AatopB = printed
group_a BatopA = printed
group_a AxorB = printed
group_a AplusB = printed

-- DstIn and DstOut, of the destination's
abbrev pub group_b : Operator → Grouping
group_b clear = printed
group_b A = printed
group_b B = printed
group_b AoverB = printed
group_b BoverA = printed
group_b AinB = printed
group_b BinA = coverage_first
group_b AoutB = printed
group_b BoutA = coverage_first
group_b AatopB = printed
group_b BatopA = printed
group_b AxorB = printed
group_b AplusB = printed

-- the paper's colour with that step
abbrev pub colour_by : Operator → Float → Float → Float → Float → Float
colour_by o CA αA CB αB = part (group_a o) CA αA (fraction (FA o) αB) ⊕ part (group_b o) CB αB (fraction (FB o) αA)

-- the paper's coverage, where Atop and DstAtop have the one picture's coverage for αA × αB + αB × (1 − αA), which is it in exact arithmetic
abbrev pub coverage_by : Operator → Float → Float → Float
coverage_by clear αA αB = coverage clear αA αB
coverage_by A αA αB = coverage A αA αB
coverage_by B αA αB = coverage B αA αB
coverage_by AoverB αA αB = coverage AoverB αA αB
coverage_by BoverA αA αB = coverage BoverA αA αB
coverage_by AinB αA αB = coverage AinB αA αB
coverage_by BinA αA αB = coverage BinA αA αB
coverage_by AoutB αA αB = coverage AoutB αA αB
coverage_by BoutA αA αB = coverage BoutA αA αB
coverage_by AatopB αA αB = αB
coverage_by BatopA αA αB = αA
coverage_by AxorB αA αB = coverage AxorB αA αB
coverage_by AplusB αA αB = coverage AplusB αA αB

-- ---- the inputs
-- A term x × 0 is left out beside y. That is no difference where x is finite, since the term is a zero, nor where y is a NaN, since the sum is one.
abbrev pub LeftOut : Float → Float → Type 0
LeftOut x y = T (finite x || is_nan y)

-- DstIn and DstOut clear a pixel whose alpha a is at most 0. That is no difference where colour times alpha, y, is a zero.
abbrev pub Cleared : Float → Float → Type 0
Cleared a y = T (le a f0) → Zero y

-- The colours are equal where this holds, and but for Over and DstOver only there. Over's coverage, by which it divides, is above 0 or a NaN.
abbrev pub ColourOutside : Operator → Float → Float → Float → Float → Type 0
ColourOutside clear CA αA CB αB = T (finite (CA ⊗ αA)) × T (finite (CB ⊗ αB))
ColourOutside A CA αA CB αB = LeftOut (CB ⊗ αB) (CA ⊗ αA)
ColourOutside B CA αA CB αB = LeftOut (CA ⊗ αA) (CB ⊗ αB)
ColourOutside AoverB CA αA CB αB = le (coverage AoverB αA αB) f0 ≡ false
ColourOutside BoverA CA αA CB αB = le (coverage BoverA αA αB) f0 ≡ false
ColourOutside AinB CA αA CB αB = LeftOut (CB ⊗ αB) (CA ⊗ (αA ⊗ αB))
ColourOutside BinA CA αA CB αB = LeftOut (CA ⊗ αA) (CB ⊗ (αB ⊗ αA)) × Cleared (αB ⊗ αA) (CB ⊗ (αB ⊗ αA))
ColourOutside AoutB CA αA CB αB = LeftOut (CB ⊗ αB) (CA ⊗ (αA ⊗ (f1 ⊖ αB)))
ColourOutside BoutA CA αA CB αB = LeftOut (CA ⊗ αA) (CB ⊗ (αB ⊗ (f1 ⊖ αA))) × Cleared (αB ⊗ (f1 ⊖ αA)) (CB ⊗ (αB ⊗ (f1 ⊖ αA)))
ColourOutside AatopB CA αA CB αB = Unit {0}
ColourOutside BatopA CA αA CB αB = Unit {0}
ColourOutside AxorB CA αA CB αB = Unit {0}
ColourOutside AplusB CA αA CB αB = Unit {0}

-- and the alphas where this does, and only there: the same of the coverages, and no alpha below 0 is cleared
abbrev pub AlphaOutside : Operator → Float → Float → Type 0
AlphaOutside clear αA αB = T (finite αA) × T (finite αB)
AlphaOutside A αA αB = LeftOut αB αA
AlphaOutside B αA αB = LeftOut αA αB
AlphaOutside AoverB αA αB = lt (coverage AoverB αA αB) f0 ≡ false
AlphaOutside BoverA αA αB = lt (coverage BoverA αA αB) f0 ≡ false
AlphaOutside AinB αA αB = LeftOut αB (αA ⊗ αB)
AlphaOutside BinA αA αB = LeftOut αA (αB ⊗ αA) × (lt (αB ⊗ αA) f0 ≡ false)
AlphaOutside AoutB αA αB = LeftOut αB (αA ⊗ (f1 ⊖ αB))
AlphaOutside BoutA αA αB = LeftOut αA (αB ⊗ (f1 ⊖ αA)) × (lt (αB ⊗ (f1 ⊖ αA)) f0 ≡ false)
AlphaOutside AatopB αA αB = Unit {0}
AlphaOutside BatopA αA αB = Unit {0}
AlphaOutside AxorB αA αB = Unit {0}
AlphaOutside AplusB αA αB = Unit {0}
