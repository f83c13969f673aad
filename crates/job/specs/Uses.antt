-- What each use of `store` is asked, and uses one after the other (document 01: "one function makes each store", "after the i-th use, the memory that a
-- call allowed i leaves"). Definitions only; proofs/Uses has the theorems.
use Rattle.std.specs.Prelude.{◌≡◌, List, [], ◌∷◌, ℕ, ◌+◌, ◌*◌, ◌/◌, ◌<◌, ◌≤◌, length}
use Rattle.faults.specs.Faults.{NONE}
use Rattle.layers.specs.Inputs.{Inputs, job_fault}
use Rattle.job.specs.declared.Write.{Write}
use Rattle.job.specs.Memory.{Mem, position_of, put}
use Rattle.job.specs.Job.{pixel_count, end_of}
use Rattle.job.specs.Call.{write_at, made_of}

-- ---- the state of a call

-- both work buffers have the length of a picture of so many pixels
pub record Works (pixels : ℕ) (work0 work1 : List ℕ) : Type 0 where
  pub length0 : length work0 ≡ 4 * pixels
  pub length1 : length work1 ≡ 4 * pixels

-- lists of the lengths that a job asks for
pub record Sized (i : Inputs) (m : Mem) : Type 0 where
  pub works : Works (pixel_count i) m.work0 m.work1
  pub checkpoint : length m.checkpoint ≡ 2

-- The writes of an accepted call: those of the job with these inputs, from the position `start` on, `due` of them.
pub record Batch : Type 0 where
  pub inputs : Inputs
  pub start : ℕ
  pub due : ℕ

-- of a call that finds memory m and is allowed so many
abbrev pub batch_of : Inputs → (allowance : ℕ) → Mem → Batch
batch_of i allowance m = record { inputs = i; start = position_of m; due = made_of i allowance m }

-- The call has made `uses` of them: the inputs have no fault, the lists have their lengths, the position is where the count says, and no write that is due
-- is past the job's end.
pub record Midway (b : Batch) (uses : ℕ) (m : Mem) : Type 0 where
  pub fit : (job_fault b.inputs).number ≡ NONE
  pub sized : Sized b.inputs m
  pub position : position_of m ≡ b.start + uses / 5
  pub within : 5 * b.start + b.due ≤ 5 * end_of b.inputs

-- ---- the uses

-- What `store` asks of a use: the call has made `uses` of its writes and has some left; and this is the next, by the memory now.
pub record NextUse (b : Batch) (uses : ℕ) (m : Mem) (w : Write) : Type 0 where
  pub midway : Midway b uses m
  pub left : uses < b.due
  pub next : w ≡ write_at b.inputs m (5 * b.start + uses)

-- uses one after the other: each finds the memory and the count that the one before it leaves, as the contract of `store` has them
unfoldable pub UsesFrom : Batch → (uses : ℕ) → Mem → List Write → Type 0
UsesFrom b uses m [] = Unit {0}
UsesFrom b uses m (w ∷ ws) = NextUse b uses m w × UsesFrom b (uses + 1) (put w m) ws
