-- A spot's faults and what a call answers (document 02, A.6): "The job is checked as before, without work pictures or mark; a spot off the tray, or more than
-- four map layers, is 15 after those checks. A refusal gives four zeros and 0 reads." Definitions only.
use Rattle.std.specs.Prelude.{Bool, cond, not, ◌||◌, ℕ, ◌+◌, ◌*◌, eqb, ltb, ℤ, pos, Result, Ok, Err}
use Rattle.std.specs.Int.Signed.{lt_z}
use Rattle.faults.specs.Faults.{NONE, SPOT}
use Rattle.faults.specs.Numbers.{number_of}
use Rattle.layers.specs.declared.Refusal.{Refusal}
use Rattle.layers.specs.Faults.{fault_if}
use Rattle.layers.specs.Inputs.{Inputs, Verdict, verdict, job_fault}
use Rattle.pictures.specs.Shapes.{nat_of}
use Rattle.pictures.specs.Widen.{words_of}
use Rattle.pictures.specs.declared.Words.{Words}
use Rattle.spots.specs.declared.SpotColour.{SpotColour}
use Rattle.spots.specs.Spots.{colour_of, reads_of, maps_of}

-- the most map layers of a job whose spots are worked out
abbrev pub most_maps : ℕ
most_maps = 4

abbrev pub layer_count : Inputs → ℕ
layer_count i = nat_of i.count

-- a coordinate is not one of a side: 0 to side - 1
abbrev pub off : (side at : ℤ) → Bool
off side at = lt_z at (pos 0) || not (lt_z at side)

-- SPOT: the spot is off the destination, or the whole job has too many map layers
unfoldable pub bad_spot : Inputs → (x y : ℤ) → Bool
bad_spot i x y = off i.shape.width x || off i.shape.height y || ltb most_maps (maps_of i.table i.args (layer_count i))

-- the first fault of a call: of its inputs, else of the spot, which concerns no layer
unfoldable pub spot_fault : Inputs → (x y : ℤ) → Verdict
spot_fault i x y = cond (eqb (job_fault i).number NONE) (verdict (fault_if (bad_spot i x y) SPOT) 0) (job_fault i)

-- the spot's pixel, row by row
abbrev pub pixel_at : Inputs → (x y : ℤ) → ℕ
pixel_at i x y = nat_of y * nat_of i.shape.width + nat_of x

-- ---- the answers

-- the number of a call's first fault and that fault's layer, or 0 and 0; the spot's colour, and its reads
pub record Answer : Type 0 where
  pub number : ℕ
  pub layer : ℕ
  pub colour : Words
  pub reads : ℕ

abbrev pub answer : (number layer : ℕ) → (colour : Words) → (reads : ℕ) → Answer
answer number layer colour reads = record { number = number; layer = layer; colour = colour; reads = reads }

abbrev pub refusal : Verdict → Answer
refusal v = answer v.number v.layer (words_of 0 0 0 0) 0

-- the colour that the spot has in the last picture, and its reads
abbrev pub acceptance : Inputs → (x y : ℤ) → Answer
acceptance i x y = let j = pixel_at i x y in answer NONE 0 (colour_of i (layer_count i) j) (reads_of i (layer_count i) j)

-- what a call answers
unfoldable pub spot_of : Inputs → (x y : ℤ) → Answer
spot_of i x y = cond (eqb (spot_fault i x y).number NONE) (acceptance i x y) (refusal (spot_fault i x y))

-- the same of what the code answers
abbrev pub answer_of : Result SpotColour Refusal → Answer
answer_of (Ok s) = answer NONE 0 s.colour s.reads
answer_of (Err r) = refusal (verdict (number_of r.fault) r.layer)
