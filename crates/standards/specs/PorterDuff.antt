-- T. Porter and T. Duff, "Compositing Digital Images", 1984: the pair of fractions, its table, and the two sums. Written from the paper, with its names.
-- Each operation is rounded once to binary32, and grouped as the paper prints it, from left to right. Definitions only.
-- Picture A is the source, picture B the destination. The paper's colours are premultiplied: a straight colour C with coverage α enters as c = C × α.
use Rattle.std.specs.Prelude.{Float}
use Rattle.float_steps.specs.Notation.{◌⊕◌, ◌⊖◌, ◌⊗◌, f0, f1}

-- how much of a picture is kept: none of it; all of it; what lies inside the other picture; what lies outside it
pub data Fraction : Type 0 where
  none whole inside outside : Fraction

-- as a number, where α is the other picture's coverage
abbrev pub fraction : Fraction → Float → Float
fraction none α = f0
fraction whole α = f1
fraction inside α = α
fraction outside α = f1 ⊖ α

pub data Operator : Type 0 where
  clear A B AoverB BoverA AinB BinA AoutB BoutA AatopB BatopA AxorB AplusB : Operator

-- the paper's table: FA
abbrev pub FA : Operator → Fraction
FA clear = none
FA A = whole
FA B = none
FA AoverB = whole
FA BoverA = outside
FA AinB = inside
FA BinA = none
FA AoutB = outside
FA BoutA = none
FA AatopB = inside
FA BatopA = outside
FA AxorB = outside
FA AplusB = whole

-- and FB
abbrev pub FB : Operator → Fraction
FB clear = none
FB A = none
FB B = whole
FB AoverB = outside
FB BoverA = whole
FB AinB = none
FB BinA = inside
FB AoutB = none
FB BoutA = outside
FB AatopB = outside
FB BatopA = inside
FB AxorB = outside
FB AplusB = whole

-- cA × FA + cB × FB, of the straight colours CA and CB
abbrev pub colour : Operator → Float → Float → Float → Float → Float
colour o CA αA CB αB = CA ⊗ αA ⊗ fraction (FA o) αB ⊕ CB ⊗ αB ⊗ fraction (FB o) αA

-- αA × FA + αB × FB
abbrev pub coverage : Operator → Float → Float → Float
coverage o αA αB = αA ⊗ fraction (FA o) αB ⊕ αB ⊗ fraction (FB o) αA
