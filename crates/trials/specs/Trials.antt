-- Document 01, "Trial values": the starred values, proved about the definitions by one theorem over one table. A wrong value in it computes to ⊥.
-- Floats are given by their words.
use Rattle.std.specs.Prelude.{ℕ, Bool, true, false, cond, ◌&&◌, List, [], ◌∷◌, ◌++◌, map, T, eqb, get_or, ℤ, pos, negsuc, ◌-ℤ◌, Option, Some, None}
use Prim.Native.String.{String}
use Rattle.std.specs.Float.Ieee.{of_bits, to_bits, add, sub, mul, div, rem, lt, le, eq, is_nan}
use Rattle.float_steps.specs.Words.{value_of, word_of}
use Rattle.float_steps.specs.Order.{smaller_of, clamp_of}
use Rattle.float_steps.specs.Remainder.{rem_euclid_of, wrap_of}
use Rattle.float_steps.specs.Root.{sqrt_of}
use Rattle.float_steps.specs.Whole.{byte_of}
use Rattle.faults.specs.Faults.{NONE}
use Rattle.operators.specs.Numbers.{named}
use Rattle.operators.specs.declared.CompositeOp.{CompositeOp}
use Rattle.operators.specs.declared.CompositeOp.TheVariants as O
use Rattle.places.specs.Placement.{placement_of}
use Rattle.places.specs.Indices.{axis_index}
use Rattle.places.specs.declared.Gravity.TheVariants.{Centre}
use Rattle.names.specs.Names.{bytes, entries, is_kept, lower, from_name}
use Rattle.pictures.specs.declared.Rgba.{Rgba}
use Rattle.blends.specs.Blends.{color_burn_of}
use Rattle.pixels.specs.Channel.{over_union_of}
use Rattle.pixels.specs.Pixel.{over_by, unused, pixel_of}
use Rattle.pictures.specs.Shapes.{nat_of, outside_z, bad_channels, shape_of, bad_shape}
use Rattle.layers.specs.Faults.{bad_placing, bad_source, bad_window, layer_fault}
use Rattle.layers.specs.Inputs.{Inputs, inputs_of, bad_stack, bad_dst, rows_fault, job_fault}
use Rattle.job.specs.Job.{Answer}
use Rattle.job.specs.Memory.{Mem, mem_of, position_of, stored}
use Rattle.job.specs.Job.{memory_fault, call_fault}
use Rattle.job.specs.Call.{write_at, run_of, accepted_of, call_of}
use Rattle.job.specs.Model.{blocks, picture_writes, write_sequence, Call, allowed, Seen, model_of}
use Rattle.job.specs.Demand.{program_of, history}
use Rattle.tray.specs.Answers.{NameAnswer, name_of}

-- a case: what a definition is applied to, and what it must give
pub data Case : Type 0 where
  wraps : ℕ → ℕ → Case
  roots : ℕ → ℕ → Case
  byte : ℕ → ℕ → Case
  -- an operator's pixel of the source and of the destination, red, green, blue, alpha
  pixel : CompositeOp → List ℕ → List ℕ → List ℕ → Case
  -- the centre of a destination's and a source's side
  centre : ℕ → ℕ → ℤ → Case
  -- a tile at an offset, of a source so wide: a column, and the source's column there
  tile : ℕ → ℕ → ℕ → ℕ → Case
  -- the operator that a name spells, or the number under which it is refused
  name : String → ℕ → Case
  unknown : String → ℕ → Case
  -- calls of a job with so many stores: of each the stores made, the position after it, and 1 where it finished, by the program's definition and by the
  -- reference model (document 01: the account)
  job : List ℕ → List ℕ → Case

-- the pixel of four words
abbrev pub pixel_at : List ℕ → Rgba
pixel_at w = record { r = value_of (get_or w 0 0); g = value_of (get_or w 1 0); b = value_of (get_or w 2 0); a = value_of (get_or w 3 0) }

abbrev pub same_words : Rgba → List ℕ → Bool
same_words p w = eqb (word_of p.r) (get_or w 0 0) && (eqb (word_of p.g) (get_or w 1 0) && (eqb (word_of p.b) (get_or w 2 0) && eqb (word_of p.a) (get_or w 3 0)))

abbrev pub same_integer : ℤ → ℤ → Bool
same_integer (pos m) (pos n) = eqb m n
same_integer (pos m) (negsuc n) = false
same_integer (negsuc m) (pos n) = false
same_integer (negsuc m) (negsuc n) = eqb m n

abbrev pub is_at : Option ℕ → ℕ → Bool
is_at (Some m) n = eqb m n
is_at None n = false

-- what a caller is answered who has the operator 70, which is none
abbrev pub name_answer : String → NameAnswer
name_answer text = name_of (from_name (bytes text)) 70

abbrev pub same_answer : NameAnswer → ℕ → ℕ → Bool
same_answer a number operator = eqb a.number number && eqb a.operator operator

-- the number of the job, which the values do not depend on
abbrev pub number : ℕ
number = 77

-- a destination of 2 by 1 pixels and one layer, Over with all channels and the window of a card of edition 1, on work buffers that hold anything
abbrev pub two_by_one : Inputs
two_by_one =
    inputs_of (shape_of (pos 2) (pos 1) (pos 1)) (0x3f00_0000 ∷ 0x3f80_0000 ∷ []) (pos 1)
    (pos 0 ∷ pos 0 ∷ pos 0 ∷ pos 0 ∷ pos 62 ∷ pos 0 ∷ pos 1 ∷ pos 1 ∷ pos 1 ∷ pos 0 ∷ pos 0 ∷ pos 0 ∷ pos 2048 ∷ pos 2048 ∷ [])
    (0 ∷ 0 ∷ 0 ∷ 0 ∷ [])
    (0x3e80_0000 ∷ [])

abbrev pub begun : Mem
begun = mem_of (9 ∷ 9 ∷ 9 ∷ 9 ∷ 9 ∷ 9 ∷ 9 ∷ 9 ∷ []) (7 ∷ 7 ∷ 7 ∷ 7 ∷ 7 ∷ 7 ∷ 7 ∷ 7 ∷ []) (0 ∷ number ∷ [])

-- of each call, as a row has it
abbrev pub numbers : List Seen → List ℕ
numbers [] = []
numbers (s ∷ ss) =
    map (λ (a : Answer). a.stores) s.told
    ++ position_of s.mem ∷ map (λ (a : Answer). cond a.finished 1 0) s.told
    ++ numbers ss

abbrev pub calls : (Mem → Call → Seen) → List ℕ → List ℕ
calls by allowances = numbers (history by begun (map allowed allowances))

abbrev pub same_list : List ℕ → List ℕ → Bool
same_list [] [] = true
same_list [] (y ∷ ys) = false
same_list (x ∷ xs) [] = false
same_list (x ∷ xs) (y ∷ ys) = eqb x y && same_list xs ys

abbrev pub holds : Case → Bool
holds (wraps v r) = eqb (word_of (wrap_of (value_of v))) r
holds (roots v r) = eqb (word_of (sqrt_of (value_of v))) r
holds (byte v r) = eqb (byte_of (value_of v)) r
holds (pixel op s d r) = same_words (pixel_of op unused (pixel_at s) (pixel_at d)) r
holds (centre dst src r) = same_integer (placement_of Centre dst dst src src (pos 0) (pos 0)).x r
holds (tile offset width column r) = is_at (axis_index true width (pos column -ℤ pos offset)) r
holds (name text r) = same_answer (name_answer text) NONE r
holds (job allowances r) = same_list (calls (program_of two_by_one number) allowances) r && same_list (calls (model_of two_by_one) allowances) r
holds (unknown text r) = same_answer (name_answer text) r 70

abbrev pub all : List Case → Bool
all [] = true
all (c ∷ cs) = holds c && all cs

abbrev pub table : List Case
table =
    -- Over, (1,0,0,0.5) on (0,0,1,1): (0.5,0,0.5,1)
    pixel O.Over (0x3f80_0000 ∷ 0 ∷ 0 ∷ 0x3f00_0000 ∷ []) (0 ∷ 0 ∷ 0x3f80_0000 ∷ 0x3f80_0000 ∷ []) (0x3f00_0000 ∷ 0 ∷ 0x3f00_0000 ∷ 0x3f80_0000 ∷ [])
    -- Over, both alphas 0, the destination's colour (0.25,0.5,0.75): that colour, alpha 0
    ∷ pixel O.Over (0x3f80_0000 ∷ 0x3f80_0000 ∷ 0x3f80_0000 ∷ 0 ∷ []) (0x3e80_0000 ∷ 0x3f00_0000 ∷ 0x3f40_0000 ∷ 0 ∷ []) (0x3e80_0000 ∷ 0x3f00_0000 ∷ 0x3f40_0000 ∷ 0 ∷ [])
    -- In, opaque white on alpha 0.5: 0.5 four times
    ∷ pixel O.In (0x3f80_0000 ∷ 0x3f80_0000 ∷ 0x3f80_0000 ∷ 0x3f80_0000 ∷ []) (0 ∷ 0 ∷ 0 ∷ 0x3f00_0000 ∷ []) (0x3f00_0000 ∷ 0x3f00_0000 ∷ 0x3f00_0000 ∷ 0x3f00_0000 ∷ [])
    -- ColorBurn, opaque black on opaque white: (0,0,0,1)
    ∷ pixel O.ColorBurn (0 ∷ 0 ∷ 0 ∷ 0x3f80_0000 ∷ []) (0x3f80_0000 ∷ 0x3f80_0000 ∷ 0x3f80_0000 ∷ 0x3f80_0000 ∷ []) (0 ∷ 0 ∷ 0 ∷ 0x3f80_0000 ∷ [])
    -- ModulusAdd, opaque 0.75 grey on opaque 0.5 grey: 0.75, alpha 1
    ∷ pixel O.ModulusAdd (0x3f40_0000 ∷ 0x3f40_0000 ∷ 0x3f40_0000 ∷ 0x3f80_0000 ∷ []) (0x3f00_0000 ∷ 0x3f00_0000 ∷ 0x3f00_0000 ∷ 0x3f80_0000 ∷ []) (0x3f40_0000 ∷ 0x3f40_0000 ∷ 0x3f40_0000 ∷ 0x3f80_0000 ∷ [])
    -- wrap of 2, -1, 1.25: 1, -0, 0.25
    ∷ wraps 0x4000_0000 0x3f80_0000
    ∷ wraps 0xbf80_0000 0x8000_0000
    ∷ wraps 0x3fa0_0000 0x3e80_0000
    -- Centre, destination 4, source 7: -1; destination 7, source 4: 1
    ∷ centre 4 7 (negsuc 0)
    ∷ centre 7 4 (pos 1)
    -- tile, offset 1, source width 3: column 0 reads 2
    ∷ tile 1 3 0 2
    -- root of 2: 3FB504F3 hexadecimal
    ∷ roots 0x4000_0000 0x3fb5_04f3
    -- byte of 0.5: 128; of NaN: 0
    ∷ byte 0x3f00_0000 128
    ∷ byte 0x7fc0_0000 0
    -- "Soft-Light" 13; "SRC over" 0; "minus" 23; empty 3 (refused)
    ∷ name "Soft-Light" 13
    ∷ name "SRC over" 0
    ∷ name "minus" 23
    ∷ unknown "" 3
    -- tray 2 by 1, one layer, calls of 7, 7, 100 stores: made 7, 7, 10; marks 1, 2, 4; finished at the last
    ∷ job (7 ∷ 7 ∷ 100 ∷ []) (7 ∷ 1 ∷ 0 ∷ 7 ∷ 2 ∷ 0 ∷ 10 ∷ 4 ∷ 1 ∷ [])
    ∷ []

pub trials : T (all table)
unfolding wrap_of rem_euclid_of sqrt_of byte_of smaller_of clamp_of color_burn_of over_union_of over_by placement_of axis_index from_name entries is_kept lower history program_of model_of write_sequence picture_writes blocks stored call_of accepted_of call_fault memory_fault job_fault bad_stack bad_dst rows_fault layer_fault named bad_placing bad_source bad_window bad_shape bad_channels outside_z nat_of run_of write_at of_bits to_bits add sub mul div rem lt le eq is_nan
trials = tt
