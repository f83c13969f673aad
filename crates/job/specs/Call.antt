-- What one call of a job leaves and answers, for every input and every memory that it is lent (document 01, "Stores and the mark"). Definitions only.
use Rattle.std.specs.Prelude.{cond, ℕ, zero, suc, ◌+◌, ◌-◌, ◌*◌, ◌/◌, ◌%◌, min, eqb}
use Rattle.faults.specs.Faults.{NONE}
use Rattle.pictures.specs.Shapes.{nat_of}
use Rattle.layers.specs.Inputs.{Inputs}
use Rattle.layers.specs.Layers.{layer_at}
use Rattle.pictures.specs.declared.Words.{Words}
use Rattle.pictures.specs.Widen.{rgba_at}
use Rattle.compose.specs.Compose.{composed_at}
use Rattle.job.specs.declared.Write.{Write}
use Rattle.job.specs.Job.{phase_at, pixel_at, end_of, call_fault, Answer, acceptance, refusal}
use Rattle.job.specs.Memory.{Mem, position_of, put, work_of, write_of}

-- ---- the writes of an accepted call

-- Pixel j of phase k, by the memory that it finds: phase 0 widens the destination, phase k + 1 composites layer k on the picture in work k mod 2.
unfoldable pub phase_pixel : Inputs → Mem → (k j : ℕ) → Words
phase_pixel i m zero j = rgba_at i.dst (nat_of i.shape.channels) j
phase_pixel i m (suc k) j =
    composed_at i.samples (layer_at i.table i.args k) (nat_of i.shape.width) (nat_of i.shape.height) (rgba_at (work_of k m) 4) j

-- Write t of the job, counted from its start, five a position: the phase of position p is p / N, its pixel p mod N.
unfoldable pub write_at : Inputs → Mem → (t : ℕ) → Write
write_at i m t = let p = t / 5 in let k = phase_at i p in let j = pixel_at i p in write_of k j (phase_pixel i m k j) (p + 1) (t % 5)

-- the memory after n writes from write t on
unfoldable pub run_of : Inputs → (t n : ℕ) → Mem → Mem
run_of i t zero m = m
run_of i t (suc n) m = let before = run_of i t n m in put (write_at i before (t + n)) before

-- ---- a call

-- the writes that an accepted call makes: those that it is allowed, or all that are left
abbrev pub made_of : Inputs → (allowance : ℕ) → Mem → ℕ
made_of i allowance m = min allowance (5 * (end_of i - position_of m))

-- what an accepted call leaves
abbrev pub left_by : Inputs → (allowance : ℕ) → Mem → Mem
left_by i allowance m = run_of i (5 * position_of m) (made_of i allowance m) m

pub record Outcome : Type 0 where
  pub mem : Mem
  pub answer : Answer

abbrev pub outcome : Mem → Answer → Outcome
outcome m r = record { mem = m; answer = r }

unfoldable pub accepted_of : Inputs → (allowance : ℕ) → Mem → Outcome
accepted_of i allowance m =
    let after = left_by i allowance m in record { mem = after; answer = acceptance (made_of i allowance m) (eqb (position_of after) (end_of i)) }

-- what a call under the number `job` leaves and answers
unfoldable pub call_of : Inputs → (job allowance : ℕ) → Mem → Outcome
call_of i job allowance m =
    cond (eqb (call_fault i job m).number NONE) (accepted_of i allowance m) (record { mem = m; answer = refusal (call_fault i job m) })
