-- The thirteen operators that Porter and Duff define, one theorem each, in the operator's form: first a colour, then the alpha. s is the source's pixel, d
-- the destination's, and c any of the three colours. A hypothesis excludes inputs that docs/DIFFERENCES.md lists, and, but for the colours of Over and
-- DstOver, no input at which the two sides are equal (Needed.antt). Each is an instance of Fractions.antt. `operator_is` (FractionSteps.antt) has what is
-- stored, without a hypothesis. Assumes nothing.
use mathlib.Core.Path.{◌≡◌}
use mathlib.Core.Bool.{true, false}
use lib.Dec.{T}
use lib.Ieee.{Float, lt, le}
use lib.Ieee.Scale.{finite}
use Rattle.float_steps.specs.Notation.{◌⊕◌, ◌⊖◌, ◌⊗◌, ◌⊘◌, f0, f1}
use Rattle.float_steps.specs.Order.{smaller_of}
use Rattle.ieee_laws.specs.Same.{Same}
use Rattle.operators.specs.declared.CompositeOp.{CompositeOp}
use Rattle.operators.specs.declared.CompositeOp.TheVariants as O
use Rattle.pictures.specs.declared.Rgba.{Rgba}
use Rattle.pixels.specs.declared.Params.{Params}
use Rattle.pixels.specs.Pixel.{pixel_of}
use Rattle.standards.specs.PorterDuff.{Operator, clear, A, B, AoverB, BoverA, AinB, BinA, AoutB, BoutA, AatopB, BatopA, AxorB, AplusB, colour, coverage}
use Rattle.standards.specs.Operators.{Colour, at, Held}
use Rattle.standards.specs.FractionDifferences.{coverage_first, part, LeftOut, Cleared}
use Rattle.standards.proofs.Fractions.{colour_is, alpha_is, over_kept, dst_over_kept}

module _ (p : Params) (s d : Rgba) (hs : Held s) (hd : Held d) (c : Colour) where
  -- the pixel's colour and alpha
  abbrev C : CompositeOp → Float
  C o = at c (pixel_of o p s d)

  abbrev α : CompositeOp → Float
  α o = (pixel_of o p s d).a

  abbrev S : Float
  S = at c s

  abbrev sa : Float
  sa = s.a

  abbrev D : Float
  D = at c d

  abbrev da : Float
  da = d.a

  -- the paper's colour and coverage
  abbrev P : Operator → Float
  P o = colour o (at c s) s.a (at c d) d.a

  abbrev Q : Operator → Float
  Q o = coverage o s.a d.a

  -- ---- stored as in the paper
  pub clear_is : (T (finite (S ⊗ sa)) × T (finite (D ⊗ da)) → Same (C O.Clear) (P clear)) × (T (finite sa) × T (finite da) → Same (α O.Clear) (Q clear))
  clear_is = (colour_is p s d hs hd c clear, alpha_is p s d hs hd clear)

  -- with the source's coverage multiplied by the fraction first
  pub in_is : (LeftOut (D ⊗ da) (S ⊗ (sa ⊗ da)) → Same (C O.In) (part coverage_first S sa da ⊕ D ⊗ da ⊗ f0)) × (LeftOut da (sa ⊗ da) → Same (α O.In) (Q AinB))
  in_is = (colour_is p s d hs hd c AinB, alpha_is p s d hs hd AinB)

  pub out_is : (LeftOut (D ⊗ da) (S ⊗ (sa ⊗ (f1 ⊖ da))) → Same (C O.Out) (part coverage_first S sa (f1 ⊖ da) ⊕ D ⊗ da ⊗ f0)) × (LeftOut da (sa ⊗ (f1 ⊖ da)) → Same (α O.Out) (Q AoutB))
  out_is = (colour_is p s d hs hd c AoutB, alpha_is p s d hs hd AoutB)

  -- with the destination's alpha kept
  pub atop_is : (C O.Atop ≡ P AatopB) × (α O.Atop ≡ da)
  atop_is = (colour_is p s d hs hd c AatopB tt, alpha_is p s d hs hd AatopB tt)

  -- with the source's alpha kept
  pub dst_atop_is : (C O.DstAtop ≡ P BatopA) × (α O.DstAtop ≡ sa)
  dst_atop_is = (colour_is p s d hs hd c BatopA tt, alpha_is p s d hs hd BatopA tt)

  pub xor_is : (C O.Xor ≡ P AxorB) × (α O.Xor ≡ Q AxorB)
  xor_is = (colour_is p s d hs hd c AxorB tt, alpha_is p s d hs hd AxorB tt)

  -- cut at 1
  pub plus_is : (C O.Plus ≡ smaller_of (P AplusB) f1) × (α O.Plus ≡ smaller_of (Q AplusB) f1)
  plus_is = (colour_is p s d hs hd c AplusB tt, alpha_is p s d hs hd AplusB tt)

  -- ---- stored straight: colour times alpha is the paper's
  pub src_is : (LeftOut (D ⊗ da) (S ⊗ sa) → Same (C O.Src ⊗ α O.Src) (P A)) × (LeftOut da sa → Same (α O.Src) (Q A))
  src_is = (colour_is p s d hs hd c A, alpha_is p s d hs hd A)

  pub dst_is : (LeftOut (S ⊗ sa) (D ⊗ da) → Same (C O.Dst ⊗ α O.Dst) (P B)) × (LeftOut sa da → Same (α O.Dst) (Q B))
  dst_is = (colour_is p s d hs hd c B, alpha_is p s d hs hd B)

  -- with the destination's coverage multiplied by the fraction first
  pub dst_in_is : (LeftOut (S ⊗ sa) (D ⊗ (da ⊗ sa)) × Cleared (da ⊗ sa) (D ⊗ (da ⊗ sa)) → Same (C O.DstIn ⊗ α O.DstIn) (S ⊗ sa ⊗ f0 ⊕ part coverage_first D da sa)) × (LeftOut sa (da ⊗ sa) × (lt (da ⊗ sa) f0 ≡ false) → Same (α O.DstIn) (Q BinA))
  dst_in_is = (colour_is p s d hs hd c BinA, alpha_is p s d hs hd BinA)

  pub dst_out_is : (LeftOut (S ⊗ sa) (D ⊗ (da ⊗ (f1 ⊖ sa))) × Cleared (da ⊗ (f1 ⊖ sa)) (D ⊗ (da ⊗ (f1 ⊖ sa))) → Same (C O.DstOut ⊗ α O.DstOut) (S ⊗ sa ⊗ f0 ⊕ part coverage_first D da (f1 ⊖ sa))) × (LeftOut sa (da ⊗ (f1 ⊖ sa)) × (lt (da ⊗ (f1 ⊖ sa)) f0 ≡ false) → Same (α O.DstOut) (Q BoutA))
  dst_out_is = (colour_is p s d hs hd c BoutA, alpha_is p s d hs hd BoutA)

  -- ---- stored divided by the coverage; where nothing is covered, the destination's colour
  pub over_is : (le (Q AoverB) f0 ≡ false → C O.Over ≡ P AoverB ⊘ Q AoverB) × (le (Q AoverB) f0 ≡ true → C O.Over ≡ D) × (lt (Q AoverB) f0 ≡ false → Same (α O.Over) (Q AoverB))
  over_is = (colour_is p s d hs hd c AoverB, over_kept p s d hs hd c, alpha_is p s d hs hd AoverB)

  pub dst_over_is : (le (Q BoverA) f0 ≡ false → C O.DstOver ≡ P BoverA ⊘ Q BoverA) × (le (Q BoverA) f0 ≡ true → C O.DstOver ≡ D) × (lt (Q BoverA) f0 ≡ false → Same (α O.DstOver) (Q BoverA))
  dst_over_is = (colour_is p s d hs hd c BoverA, dst_over_kept p s d hs hd c, alpha_is p s d hs hd BoverA)
