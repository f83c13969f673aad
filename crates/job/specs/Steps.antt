-- What the functions between a call and `store` ask, and what they leave. Definitions only.
use Rattle.std.specs.Prelude.{◌≡◌, List, ℕ, ◌+◌, ◌*◌, ◌/◌, ◌%◌, ◌<◌, ◌≤◌, length}
use Rattle.faults.specs.Faults.{NONE}
use Rattle.layers.specs.Inputs.{inputs_in, job_fault}
use Rattle.pictures.specs.Widen.{rgba_at}
use Rattle.job.specs.declared.Extent.{Extent}
use Rattle.job.specs.declared.Part.{Part}
use Rattle.job.specs.Memory.{Mem}
use Rattle.job.specs.Job.{pixel_count, layer_count}
use Rattle.job.specs.Call.{phase_pixel, run_of}
use Rattle.job.specs.Uses.{Works, Batch, Midway}

-- a bound of positions and of places in a list, 2^62; it is slack
abbrev pub most_position : ℕ
most_position = 4611686018427387904

-- ---- writes

-- those of an accepted call, as the code is lent its inputs
abbrev pub batch_in : Extent → Batch
batch_in e = record { inputs = inputs_in e.inputs; start = e.start; due = e.due }

-- A part's writes are the next: of its first pixel none has been made.
pub record NextPart (b : Batch) (uses : ℕ) (p : Part) (m : Mem) : Type 0 where
  pub midway : Midway b uses m
  pub fresh : uses % 5 ≡ 0
  pub place : b.start + uses / 5 ≡ p.k * pixel_count b.inputs + p.from
  pub inside : 5 * p.from + p.n ≤ 5 * pixel_count b.inputs
  pub left : uses + p.n ≤ b.due

-- n writes have been made
pub record Ran (b : Batch) (uses n uses' : ℕ) (m m' : Mem) : Type 0 where
  pub memory : m' ≡ run_of b.inputs (5 * b.start + uses) n m
  pub count : uses' ≡ uses + n

-- ---- the buffer

-- the pixels of a part, the last one also when some of its writes are not
abbrev pub pixels_of : Part → ℕ
pixels_of p = (p.n + 4) / 5

-- they can be composed
pub record Fillable (b : Batch) (p : Part) (work0 work1 : List ℕ) : Type 0 where
  pub fit : (job_fault b.inputs).number ≡ NONE
  pub works : Works (pixel_count b.inputs) work0 work1
  pub phase : p.k ≤ layer_count b.inputs
  pub inside : p.from + pixels_of p ≤ pixel_count b.inputs

-- it holds them, from its pixel x on
pub record Buffered (b : Batch) (p : Part) (m : Mem) (x : ℕ) (buf : List ℕ) : Type 0 where
  pub room : 4 * (x + pixels_of p) ≤ length buf
  pub pixel : (y : ℕ) → 5 * y < p.n → rgba_at buf 4 (x + y) ≡ phase_pixel b.inputs m p.k (p.from + y)
