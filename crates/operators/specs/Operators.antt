-- The operators: their numbers, `CompositeOp::ALL` (composite.rs 198 to 269), their names, `name` (composite.rs 272 to 345), their conventions,
-- `convention` (composite.rs 916 to 943), and which are maps, `is_map` (composite.rs 380 to 382).
-- Document 01: "Numbers follow `CompositeOp::ALL`", and "`convention` decides division by the union alpha, even where comments group otherwise".
-- An operator has one line, in `line`; the list of the operators, their count, their numbers and the names are read from it. There is no test for equal
-- operators, so that a list alone would give an operator no number: each line names the operator after it.
use Rattle.std.specs.Prelude.{Bool, ◌||◌, List, [], ◌∷◌, ℕ, zero, suc, ◌-◌, eqb, length, get_or}
use Rattle.std.proofs.Math.Option.{Option, none, some}
use Prim.Native.String.{String}
use Rattle.operators.specs.declared.CompositeOp.{CompositeOp}
use Rattle.operators.specs.declared.CompositeOp.TheVariants as O
use Rattle.operators.specs.declared.Convention.{Convention}
use Rattle.operators.specs.declared.Convention.TheVariants.{Premult, Divided, OnPremult, PremultOnly}

-- an operator's name, how it combines its blend with the alphas, and the operator after it
pub record Line : Type 0 where
  pub name : String
  pub by : Convention
  pub next : Option CompositeOp

abbrev pub row : String → Convention → CompositeOp → Line
row n c o = record { name = n; by = c; next = some o }

abbrev pub last : String → Convention → Line
last n c = record { name = n; by = c; next = none }

-- Each operator's line, in the order of `ALL`: its name, its convention, the operator after it. The Rust's Premult is "every other".
abbrev pub line : CompositeOp → Line
line O.Over = row "over" Premult O.In
line O.In = row "in" Premult O.Out
line O.Out = row "out" Premult O.Atop
line O.Atop = row "atop" Premult O.Xor
line O.Xor = row "xor" Premult O.Plus
line O.Plus = row "plus" Premult O.Multiply
line O.Multiply = row "multiply" Premult O.Screen
line O.Screen = row "screen" Premult O.Overlay
line O.Overlay = row "overlay" Divided O.Darken
line O.Darken = row "darken" OnPremult O.Lighten
line O.Lighten = row "lighten" Premult O.Difference
line O.Difference = row "difference" Premult O.HardLight
line O.HardLight = row "hardlight" Divided O.SoftLight
line O.SoftLight = row "softlight" Divided O.ColorDodge
line O.ColorDodge = row "colordodge" Divided O.ColorBurn
line O.ColorBurn = row "colorburn" Divided O.Clear
line O.Clear = row "clear" Premult O.Src
line O.Src = row "src" Premult O.Dst
line O.Dst = row "dst" Premult O.DstOver
line O.DstOver = row "dstover" Premult O.DstIn
line O.DstIn = row "dstin" Premult O.DstOut
line O.DstOut = row "dstout" Premult O.DstAtop
line O.DstAtop = row "dstatop" Premult O.MinusDst
line O.MinusDst = row "minusdst" Divided O.MinusSrc
line O.MinusSrc = row "minussrc" Divided O.DivideDst
line O.DivideDst = row "dividedst" OnPremult O.DivideSrc
line O.DivideSrc = row "dividesrc" OnPremult O.ModulusAdd
line O.ModulusAdd = row "modulusadd" PremultOnly O.ModulusSubtract
line O.ModulusSubtract = row "modulussubtract" PremultOnly O.Exclusion
line O.Exclusion = row "exclusion" PremultOnly O.LinearBurn
line O.LinearBurn = row "linearburn" Premult O.LinearDodge
line O.LinearDodge = row "lineardodge" Divided O.LinearLight
line O.LinearLight = row "linearlight" Divided O.VividLight
line O.VividLight = row "vividlight" Divided O.PinLight
line O.PinLight = row "pinlight" Divided O.HardMix
line O.HardMix = row "hardmix" Divided O.PegtopLight
line O.PegtopLight = row "pegtoplight" Divided O.SoftBurn
line O.SoftBurn = row "softburn" Divided O.SoftDodge
line O.SoftDodge = row "softdodge" Divided O.Stamp
line O.Stamp = row "stamp" Premult O.Freeze
line O.Freeze = row "freeze" Divided O.Reflect
line O.Reflect = row "reflect" Divided O.Negate
line O.Negate = row "negate" PremultOnly O.Interpolate
line O.Interpolate = row "interpolate" PremultOnly O.Mathematics
line O.Mathematics = row "mathematics" Divided O.Blend
line O.Blend = row "blend" Premult O.Dissolve
line O.Dissolve = row "dissolve" Premult O.Rmse
line O.Rmse = row "rmse" Premult O.DarkenIntensity
line O.DarkenIntensity = row "darkenintensity" Premult O.LightenIntensity
line O.LightenIntensity = row "lightenintensity" Premult O.Hue
line O.Hue = row "hue" Premult O.Saturate
line O.Saturate = row "saturate" Premult O.Luminize
line O.Luminize = row "luminize" Premult O.Colorize
line O.Colorize = row "colorize" Premult O.CopyRed
line O.CopyRed = row "copyred" Premult O.CopyGreen
line O.CopyGreen = row "copygreen" Premult O.CopyBlue
line O.CopyBlue = row "copyblue" Premult O.CopyAlpha
line O.CopyAlpha = row "copyalpha" Premult O.CopyCyan
line O.CopyCyan = row "copycyan" Premult O.CopyMagenta
line O.CopyMagenta = row "copymagenta" Premult O.CopyYellow
line O.CopyYellow = row "copyyellow" Premult O.CopyBlack
line O.CopyBlack = row "copyblack" Premult O.ChangeMask
line O.ChangeMask = row "changemask" Premult O.Bumpmap
line O.Bumpmap = row "bumpmap" Premult O.Threshold
line O.Threshold = row "threshold" Premult O.Displace
line O.Displace = row "displace" Premult O.Distort
line O.Distort = row "distort" Premult O.Blur
line O.Blur = row "blur" Premult O.Intensity
line O.Intensity = row "intensity" Premult O.Modulate
line O.Modulate = last "modulate" Premult

abbrev pub convention : CompositeOp → Convention
convention o = (line o).by

-- the operators from one on, as long as n suffices
abbrev pub onward : ℕ → Option CompositeOp → List CompositeOp
onward zero o = []
onward (suc n) none = []
onward (suc n) (some o) = o ∷ onward n (line o).next

-- all of them; 256 is more than there are
abbrev pub operators : List CompositeOp
operators = onward 256 (some O.Over)

-- the operators have the numbers below this one
abbrev pub count : ℕ
count = length operators

-- an operator's number: as many stand before it
abbrev pub number_of : CompositeOp → ℕ
number_of o = count - length (onward 256 (some o))

-- the operator with a number; past the last number, Over
abbrev pub op_at : ℕ → CompositeOp
op_at n = get_or operators n O.Over

-- one operator is another
abbrev pub same_op : CompositeOp → CompositeOp → Bool
same_op o p = eqb (number_of o) (number_of p)

-- the operators that read the source as a map rather than as a picture to blend
abbrev pub is_map : CompositeOp → Bool
is_map o = same_op o O.Displace || same_op o O.Distort || same_op o O.Blur
