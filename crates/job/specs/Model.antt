-- The reference model of a job (document 01: the account), written from documents 01 and 02 alone: the pictures, the write sequence (document 01: the
-- store list), and what each kind of call does to the job's memory and answers. Definitions only.
use Rattle.std.specs.Prelude.{Bool, cond, List, [], ◌∷◌, ◌++◌, ℕ, zero, suc, ◌+◌, ◌*◌, eqb, length, take, drop}
use Rattle.pictures.specs.Shapes.{nat_of}
use Rattle.layers.specs.Inputs.{Inputs}
use Rattle.layers.specs.Layers.{layer_at}
use Rattle.pictures.specs.FlatWords.{flat}
use Rattle.pictures.specs.Widen.{rgba_at}
use Rattle.compose.specs.Compose.{composed_at}
use Rattle.job.specs.declared.Write.{Write}
use Rattle.job.specs.Memory.{Mem, position_of, stored, five_writes}
use Rattle.job.specs.Job.{pixel_count, layer_count, end_of, call_fault, Answer, acceptance, refusal}
use Rattle.job.specs.Loans.{Loan, lent}

-- ---- the pictures

-- picture 0 is the widened destination; picture k + 1 is what demand 2's definition gives for layer k on picture k, four channels
unfoldable pub picture_of : Inputs → ℕ → List ℕ
picture_of i zero = flat (rgba_at i.dst (nat_of i.shape.channels)) 0 (pixel_count i)
picture_of i (suc k) =
    flat
    (composed_at i.samples (layer_at i.table i.args k) (nat_of i.shape.width) (nat_of i.shape.height) (rgba_at (picture_of i k) 4))
    0
    (pixel_count i)

-- ---- the write sequence

-- the lists f a, f (a + 1), .. one after the other, n of them
unfoldable pub blocks : {A : Type 0} → (ℕ → List A) → (a n : ℕ) → List A
blocks f a zero = []
blocks f a (suc n) = f a ++ blocks f (suc a) n

-- of picture k: each of its pixels j in turn
unfoldable pub picture_writes : Inputs → ℕ → List Write
picture_writes i k =
    blocks (λ j. five_writes k j (rgba_at (picture_of i k) 4 j) (k * pixel_count i + j + 1)) 0 (pixel_count i)

-- each picture in turn
unfoldable pub write_sequence : Inputs → List Write
write_sequence i = blocks (picture_writes i) 0 (layer_count i + 1)

-- ---- the calls

pub data Call : Type 0 where
  -- a call with the job's inputs, number, work buffers and checkpoint, allowed so many writes
  allowed : (allowance : ℕ) → Call
  -- the same, cut after so many writes
  cut : (allowance writes : ℕ) → Call
  -- a call that is refused, with whatever inputs, number, allowance and lists; uncut or not
  refused : Inputs → (number allowance : ℕ) → Loan → (uncut : Bool) → Call

-- what is seen of a call: the job's memory after it, and its answer if it was not cut
pub record Seen : Type 0 where
  pub mem : Mem
  pub told : List Answer

-- the entries of the write sequence that a call makes, allowed so many: from entry 5 × position on, counted from 0, or all that follow if fewer
abbrev pub entries_of : Inputs → (allowance : ℕ) → Mem → List Write
entries_of i allowance m = take allowance (drop (5 * position_of m) (write_sequence i))

unfoldable pub model_of : Inputs → Mem → Call → Seen
model_of i m (allowed allowance) =
    let entries = entries_of i allowance m in
    let after = stored entries m in
    record { mem = after; told = acceptance (length entries) (eqb (position_of after) (end_of i)) ∷ [] }
model_of i m (cut allowance writes) = record { mem = stored (take writes (entries_of i allowance m)) m; told = [] }
model_of i m (refused inputs number allowance loan uncut) =
    record { mem = m; told = cond uncut (refusal (call_fault inputs number (lent loan m)) ∷ []) [] }
