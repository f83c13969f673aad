-- A job's calls as they were before document 02's A.5: no call carries a job number, and the checkpoint is one number, its position. That calls under one
-- number throughout leave and answer the same, but for that number, is shown in proofs/JobNumber. Definitions only.
use Rattle.std.specs.Prelude.{cond, List, [], ◌∷◌, ℕ, ◌*◌, min, eqb, ltb, length}
use Rattle.faults.specs.Faults.{NONE, WORK, MARK}
use Rattle.layers.specs.Inputs.{Inputs, Verdict, verdict, job_fault}
use Rattle.job.specs.Memory.{Mem, mem_of, position_of}
use Rattle.job.specs.Job.{pixel_count, end_of, refusal}
use Rattle.job.specs.Call.{Outcome, outcome, accepted_of}
use Rattle.job.specs.Loans.{lent, returned}
use Rattle.job.specs.Model.{Call, allowed, cut, refused, Seen}

-- ---- a call

-- `memory_fault` and `call_fault` (Job), where the checkpoint is one number
unfoldable pub unnumbered_memory_fault : (pixels end : ℕ) → Mem → ℕ
unnumbered_memory_fault pixels end m =
    cond (eqb (length m.work0) (4 * pixels))
    (cond (eqb (length m.work1) (4 * pixels))
    (cond (eqb (length m.checkpoint) 1)
    (cond (ltb end (position_of m)) MARK NONE)
    MARK) WORK) WORK

unfoldable pub unnumbered_fault : Inputs → Mem → Verdict
unnumbered_fault i m = cond (eqb (job_fault i).number NONE) (verdict (unnumbered_memory_fault (pixel_count i) (end_of i) m) 0) (job_fault i)

-- `call_of` (Call); what an accepted call leaves and answers is as it was
unfoldable pub unnumbered_of : Inputs → (allowance : ℕ) → Mem → Outcome
unnumbered_of i allowance m =
    cond (eqb (unnumbered_fault i m).number NONE) (accepted_of i allowance m) (outcome m (refusal (unnumbered_fault i m)))

-- `program_of` (Demand). That a refused call does the same is not shown: of a checkpoint of one number it is lent something else than of two.
unfoldable pub unnumbered_program : Inputs → Mem → Call → Seen
unnumbered_program i m (allowed allowance) = record { mem = (unnumbered_of i allowance m).mem; told = (unnumbered_of i allowance m).answer ∷ [] }
unnumbered_program i m (cut allowance writes) = record { mem = (unnumbered_of i (min writes allowance) m).mem; told = [] }
unnumbered_program i m (refused inputs number allowance loan uncut) =
    let o = unnumbered_of inputs allowance (lent loan m) in
    record { mem = returned loan m o.mem; told = cond uncut (o.answer ∷ []) [] }

-- ---- the number dropped

abbrev pub without_number : Mem → Mem
without_number m = mem_of m.work0 m.work1 (position_of m ∷ [])

abbrev pub seen_without : Seen → Seen
seen_without s = record { mem = without_number s.mem; told = s.told }

-- ---- calls under one number

-- the job's own calls, under its number, cut or not, and a list of these alone
abbrev pub OwnCall : Call → Type 0
OwnCall (allowed allowance) = Unit {0}
OwnCall (cut allowance writes) = Unit {0}
OwnCall (refused inputs number allowance loan uncut) = ⊥

unfoldable pub Own : List Call → Type 0
Own [] = Unit {0}
Own (c ∷ cs) = OwnCall c × Own cs
