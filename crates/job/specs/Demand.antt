-- The customer's demand 3 as a statement: a list of calls as the program makes them, by their contract, beside the same list in the reference model.
-- Definitions only; proofs/Demand has the theorem.
use Rattle.std.specs.Prelude.{◌≡◌, cond, List, [], ◌∷◌, ℕ, zero, suc, ◌+◌, ◌*◌, ◌/◌, ◌<◌, min, length, take}
use Rattle.faults.specs.Faults.{NONE}
use Rattle.layers.specs.Inputs.{Inputs}
use Rattle.job.specs.Memory.{Mem, position_of, work_of}
use Rattle.job.specs.Job.{phase_at, pixel_at, layer_count, end_of, call_fault}
use Rattle.job.specs.declared.Write.{Write}
use Rattle.job.specs.Call.{call_of}
use Rattle.job.specs.Uses.{batch_of, UsesFrom}
use Rattle.job.specs.Loans.{lent, returned}
use Rattle.job.specs.Model.{picture_of, entries_of, Call, allowed, cut, refused, Seen, model_of}

-- ---- the program's calls

-- What a call of the program leaves and answers, by its contract; the job's own calls are under its number `job`. A call cut after so many writes is a
-- call allowed so many.
unfoldable pub program_of : Inputs → (job : ℕ) → Mem → Call → Seen
program_of i job m (allowed allowance) = record { mem = (call_of i job allowance m).mem; told = (call_of i job allowance m).answer ∷ [] }
program_of i job m (cut allowance writes) = record { mem = (call_of i job (min writes allowance) m).mem; told = [] }
program_of i job m (refused inputs number allowance loan uncut) =
    let o = call_of inputs number allowance (lent loan m) in
    record { mem = returned loan m o.mem; told = cond uncut (o.answer ∷ []) [] }

-- ---- lists of calls

-- what is seen, call after call
unfoldable pub history : (Mem → Call → Seen) → Mem → List Call → List Seen
history step m [] = []
history step m (c ∷ cs) = step m c ∷ history step (step m c).mem cs

-- the job's memory after a list of calls
unfoldable pub memory_after : (Mem → Call → Seen) → Mem → List Call → Mem
memory_after step m [] = m
memory_after step m (c ∷ cs) = memory_after step (step m c).mem cs

-- a call that the list has as refused is refused
abbrev pub FairCall : Mem → Call → Type 0
FairCall m (allowed allowance) = Unit {0}
FairCall m (cut allowance writes) = Unit {0}
FairCall m (refused inputs number allowance loan uncut) = (call_fault inputs number (lent loan m)).number ≡ NONE → ⊥

unfoldable pub Fair : Inputs → Mem → List Call → Type 0
Fair i m [] = Unit {0}
Fair i m (c ∷ cs) = FairCall m c × Fair i (model_of i m c).mem cs

-- ---- what lies under the checkpoint

-- the picture beneath phase k: the destination itself beneath phase 0
abbrev pub beneath_in : Inputs → Mem → ℕ → List ℕ
beneath_in i m zero = i.dst
beneath_in i m (suc k) = work_of k m

abbrev pub beneath_of : Inputs → ℕ → List ℕ
beneath_of i zero = i.dst
beneath_of i (suc k) = picture_of i k

-- memory m, after a list of calls, at its position: the picture that is being written, right up to the position, and the whole picture beneath it
pub record Underway (i : Inputs) (m : Mem) : Type 0 where
  pub written :
      let k = phase_at i (position_of m) in let n = 4 * pixel_at i (position_of m) in take n (work_of k m) ≡ take n (picture_of i k)
  pub beneath : let k = phase_at i (position_of m) in beneath_in i m k ≡ beneath_of i k

pub record Demand3 (i : Inputs) (job : ℕ) (start : Mem) (calls : List Call) : Type 0 where
  -- call for call, the program leaves the model's bits and gives the model's answers
  pub same : history (program_of i job) start calls ≡ history (model_of i) start calls
  -- and after the whole list
  pub memory : memory_after (program_of i job) start calls ≡ memory_after (model_of i) start calls
  -- the checkpoint is still two numbers, and the second one the job's
  pub number : let m = memory_after (program_of i job) start calls in m.checkpoint ≡ position_of m ∷ job ∷ []
  -- a further call of the job has no fault
  pub accepted : (call_fault i job (memory_after (program_of i job) start calls)).number ≡ NONE
  -- under a finished position lies the last picture, in work (layers mod 2)
  pub finished :
      position_of (memory_after (program_of i job) start calls) ≡ end_of i
      → work_of (layer_count i) (memory_after (program_of i job) start calls) ≡ picture_of i (layer_count i)
  -- under an earlier one
  pub earlier : position_of (memory_after (program_of i job) start calls) < end_of i → Underway i (memory_after (program_of i job) start calls)
  -- a further call, uncut and allowed n writes, gains floor(n / 5) pixels, or all that are left
  pub gain :
      (n : ℕ)
      → position_of (call_of i job n (memory_after (program_of i job) start calls)).mem
      ≡ min (position_of (memory_after (program_of i job) start calls) + n / 5) (end_of i)
  -- and its uses of `store`, one after the other as the contract of `store` allows them, are the model's entries, from the first on
  pub uses :
      (n : ℕ) (ws : List Write)
      → let m = memory_after (program_of i job) start calls in
      UsesFrom (batch_of i n m) 0 m ws → ws ≡ take (length ws) (entries_of i n m)
