-- A job by its inputs (document 01): its numbers, the checks of its memory, which come after those of its inputs, and its answers.
-- Definitions only.
use Rattle.std.specs.Prelude.{Bool, false, cond, ℕ, ◌+◌, ◌*◌, ◌/◌, ◌%◌, eqb, ltb, length, Result, Ok, Err}
use Rattle.faults.specs.Faults.{NONE, WORK, MARK, JOB_NUMBER}
use Rattle.faults.specs.Numbers.{number_of}
use Rattle.layers.specs.declared.Refusal.{Refusal}
use Rattle.pictures.specs.Shapes.{nat_of}
use Rattle.layers.specs.Inputs.{Inputs, Verdict, verdict, job_fault}
use Rattle.job.specs.declared.Progress.{Progress}
use Rattle.job.specs.Memory.{Mem, position_of, job_number_of}

-- ---- a job's numbers

-- the pixels of the destination, and of each picture (document 01: N)
abbrev pub pixel_count : Inputs → ℕ
pixel_count i = nat_of i.shape.width * nat_of i.shape.height

abbrev pub layer_count : Inputs → ℕ
layer_count i = nat_of i.count

-- the phase of position p, and its pixel
abbrev pub phase_at : Inputs → ℕ → ℕ
phase_at i p = p / pixel_count i

abbrev pub pixel_at : Inputs → ℕ → ℕ
pixel_at i p = p % pixel_count i

-- the position of a finished job
abbrev pub end_of : Inputs → ℕ
end_of i = (layer_count i + 1) * pixel_count i

-- ---- the checks

-- WORK, MARK and JOB NUMBER, of a call under the number `job`. The checkpoint is two numbers, its position and its job's number.
unfoldable pub memory_fault : (pixels end job : ℕ) → Mem → ℕ
memory_fault pixels end job m =
    cond (eqb (length m.work0) (4 * pixels))
    (cond (eqb (length m.work1) (4 * pixels))
    (cond (eqb (length m.checkpoint) 2)
    (cond (ltb end (position_of m)) MARK
    (cond (eqb (job_number_of m) job) NONE JOB_NUMBER))
    MARK) WORK) WORK

-- the first fault of a call: of its inputs, else of its memory
unfoldable pub call_fault : Inputs → (job : ℕ) → Mem → Verdict
call_fault i job m = cond (eqb (job_fault i).number NONE) (verdict (memory_fault (pixel_count i) (end_of i) job m) 0) (job_fault i)

-- ---- the answers

-- the number of a call's first fault and that fault's layer, or 0 and 0; the writes that it made; whether the job is finished
pub record Answer : Type 0 where
  pub number : ℕ
  pub layer : ℕ
  pub stores : ℕ
  pub finished : Bool

abbrev pub acceptance : (stores : ℕ) → (finished : Bool) → Answer
acceptance stores finished = record { number = NONE; layer = 0; stores = stores; finished = finished }

abbrev pub refusal : Verdict → Answer
refusal v = record { number = v.number; layer = v.layer; stores = 0; finished = false }

-- the same of what the code answers
abbrev pub answer_of : Result Progress Refusal → Answer
answer_of (Ok p) = acceptance p.stores p.finished
answer_of (Err r) = refusal (verdict (number_of r.fault) r.layer)
