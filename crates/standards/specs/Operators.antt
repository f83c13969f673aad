-- Which of the compositor's operators each document defines, and the parts of a pixel that the statements speak of. Definitions only.
use Rattle.std.specs.Prelude.{T, Float}
use Rattle.std.specs.Float.{binary32}
use Rattle.std.specs.Float.Ieee.{fits}
use Rattle.operators.specs.declared.CompositeOp.{CompositeOp}
use Rattle.operators.specs.declared.CompositeOp.TheVariants as O
use Rattle.pictures.specs.declared.Rgba.{Rgba}
use Rattle.standards.specs.PorterDuff.{Operator, clear, A, B, AoverB, BoverA, AinB, BinA, AoutB, BoutA, AatopB, BatopA, AxorB, AplusB}
use Rattle.standards.specs.Compositing.{Mode, multiply, screen, overlay, darken, lighten, color_dodge, color_burn, hard_light, soft_light, difference, exclusion}

abbrev pub porter_duff_op : Operator → CompositeOp
porter_duff_op clear = O.Clear
porter_duff_op A = O.Src
porter_duff_op B = O.Dst
porter_duff_op AoverB = O.Over
porter_duff_op BoverA = O.DstOver
porter_duff_op AinB = O.In
porter_duff_op BinA = O.DstIn
porter_duff_op AoutB = O.Out
porter_duff_op BoutA = O.DstOut
porter_duff_op AatopB = O.Atop
porter_duff_op BatopA = O.DstAtop
porter_duff_op AxorB = O.Xor
porter_duff_op AplusB = O.Plus

abbrev pub blend_op : Mode → CompositeOp
blend_op multiply = O.Multiply
blend_op screen = O.Screen
blend_op overlay = O.Overlay
blend_op darken = O.Darken
blend_op lighten = O.Lighten
blend_op color_dodge = O.ColorDodge
blend_op color_burn = O.ColorBurn
blend_op hard_light = O.HardLight
blend_op soft_light = O.SoftLight
blend_op difference = O.Difference
blend_op exclusion = O.Exclusion

pub data Colour : Type 0 where
  red green blue : Colour

abbrev pub at : Colour → Rgba → Float
at red p = p.r
at green p = p.g
at blue p = p.b

-- what a pixel of f32 is: each of its values is one that binary32 has, NaN and the infinities included
pub record Held (p : Rgba) : Type 0 where
  pub r : T (fits binary32 p.r)
  pub g : T (fits binary32 p.g)
  pub b : T (fits binary32 p.b)
  pub a : T (fits binary32 p.a)
