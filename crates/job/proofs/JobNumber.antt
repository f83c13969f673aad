-- What document 02's A.5 promises of the job number, over the definitions:
-- - no call, on whatever memory, changes of the checkpoint anything but its position (`number_kept`); after any list of a job's calls, refused ones among
--   them, the second number is the job's (`number` of `Demand3`, specs/Demand);
-- - the checkpoint of a call that is accepted has the call's number (`accepted_number`), and a call whose number differs is refused (`other_refused`);
-- - JOB NUMBER is asked last (`number_last`), at every position that the job's own call is accepted at, the end among them (`other_number`);
-- - after any list of a job's calls a call under another number is one of those that the reference model has as refused (`other_after`), and no call of
--   another job goes on from there (`no_mixture`);
-- - work under one number throughout leaves, marks and answers what it did before there were numbers (`as_before`).
-- Assumes nothing.
use mathlib.Core.Path.{◌≡◌, refl, sym, ap, ◌∙◌}
use mathlib.Core.Bool.{Bool, true, false, cond}
use mathlib.Core.List.{List, [], ◌∷◌, map}
use Prim.Native.Nat.{ℕ, zero, suc, ◌+◌, ◌*◌, ◌/◌, ◌≤◌, min}
use native.Mathlib.Omega.{arith}
use lib.Dec.{eqb, ltb}
use lib.ListN.{length, get_or, drop}
use lib.Seq.{take_all}
use borrow.Author.Tests.{eq-eqb, ne_eqb, eqb-true, le-ltb}
use Rattle.faults.specs.Faults.{NONE, WORK, MARK, JOB_NUMBER}
use Rattle.layers.specs.Inputs.{Inputs, Verdict, verdict, job_fault}
use Rattle.job.specs.declared.Write.{Write}
use Rattle.job.specs.declared.Write.TheVariants.{Work0, Work1, Checkpoint}
use Rattle.job.specs.Memory.{Mem, position_of, job_number_of, put}
use Rattle.job.specs.Job.{pixel_count, phase_at, pixel_at, end_of, memory_fault, call_fault, Answer, refusal}
use Rattle.job.specs.Call.{phase_pixel, write_at, run_of, made_of, Outcome, outcome, accepted_of, call_of}
use Rattle.job.specs.Loans.{Loan, of_work0, of_work1, of_checkpoint, lent}
use Rattle.job.specs.Model.{Call, allowed, cut, refused}
use Rattle.job.specs.Demand.{program_of, history, memory_after, FairCall, Demand3}
use Rattle.job.specs.Uses.{Sized}
use Rattle.job.specs.Unnumbered.{unnumbered_memory_fault, unnumbered_fault, unnumbered_of, unnumbered_program, without_number, seen_without, OwnCall, Own}
use Rattle.job.proofs.Checked.{call_number, two_numbers, call_midway, call_refused}
use Rattle.job.proofs.Runs.{put_kept}

-- ---- what no call changes

run_kept : (i : Inputs) (t n : ℕ) (m : Mem) → drop 1 (run_of i t n m).checkpoint ≡ drop 1 m.checkpoint
unfolding run_of
run_kept i t zero m = refl
run_kept i t (suc n) m = put_kept (write_at i (run_of i t n m) (t + n)) (run_of i t n m) ∙ run_kept i t n m

chosen_kept : (b : Bool) (o : Outcome) (m : Mem) (a : Answer) → drop 1 o.mem.checkpoint ≡ drop 1 m.checkpoint
    → drop 1 (cond b o (outcome m a)).mem.checkpoint ≡ drop 1 m.checkpoint
chosen_kept true o m a h = h
chosen_kept false o m a h = refl

-- A call cut after so many writes is a call allowed so many, so that this is of cut calls too.
pub number_kept : (i : Inputs) (job allowance : ℕ) (m : Mem) → drop 1 (call_of i job allowance m).mem.checkpoint ≡ drop 1 m.checkpoint
unfolding call_of accepted_of
number_kept i job allowance m =
    chosen_kept (eqb (call_fault i job m).number NONE) (accepted_of i allowance m) m (refusal (call_fault i job m)) (run_kept i _ _ m)

-- ---- the number of an accepted call

answered : (b : Bool) (o : Outcome) (m : Mem) (v : Verdict) → eqb v.number NONE ≡ b → (cond b o (outcome m (refusal v))).answer.number ≡ NONE
    → v.number ≡ NONE
answered true o m v e n = eqb-true _ _ e
answered false o m v e n = n

-- The checkpoint of a call that answers 0 is its position and the call's number.
pub accepted_number :
    (i : Inputs) (job allowance : ℕ) (m : Mem)
    → (call_of i job allowance m).answer.number ≡ NONE
    → m.checkpoint ≡ position_of m ∷ job ∷ []
unfolding call_of
accepted_number i job allowance m e = two_numbers i job m (answered _ (accepted_of i allowance m) m (call_fault i job m) refl e)

-- ---- the place of JOB NUMBER among the faults

-- `memory_fault` by its tests
abbrev fault_by : (work0 work1 two past own : Bool) → ℕ
fault_by work0 work1 two past own = cond work0 (cond work1 (cond two (cond past MARK (cond own NONE JOB_NUMBER)) MARK) WORK) WORK

memory_last : (w0 w1 two past a b : Bool) → (fault_by w0 w1 two past a ≡ NONE → ⊥) → (fault_by w0 w1 two past a ≡ JOB_NUMBER → ⊥)
    → fault_by w0 w1 two past b ≡ fault_by w0 w1 two past a
memory_last false w1 two past a b n0 n14 = refl
memory_last true false two past a b n0 n14 = refl
memory_last true true false past a b n0 n14 = refl
memory_last true true true true a b n0 n14 = refl
memory_last true true true false true b n0 n14 = absurd (n0 refl)
memory_last true true true false false b n0 n14 = absurd (n14 refl)

chosen_last : (c : Bool) (f g : ℕ) (v : Verdict) → ((f ≡ NONE → ⊥) → (f ≡ JOB_NUMBER → ⊥) → g ≡ f)
    → ((cond c (verdict f 0) v).number ≡ NONE → ⊥) → ((cond c (verdict f 0) v).number ≡ JOB_NUMBER → ⊥)
    → cond c (verdict g 0) v ≡ cond c (verdict f 0) v
chosen_last true f g v h n0 n14 = rw (h n0 n14)
chosen_last false f g v h n0 n14 = refl

-- It is asked last: any other fault is the same under every number.
pub number_last :
    (i : Inputs) (a b : ℕ) (m : Mem)
    → ((call_fault i a m).number ≡ NONE → ⊥)
    → ((call_fault i a m).number ≡ JOB_NUMBER → ⊥)
    → call_fault i b m ≡ call_fault i a m
unfolding call_fault memory_fault
number_last i a b m =
    let size = 4 * pixel_count i in
    let w0 = eqb (length m.work0) size in
    let w1 = eqb (length m.work1) size in
    let two = eqb (length m.checkpoint) 2 in
    let past = ltb (end_of i) (position_of m) in
    chosen_last (eqb (job_fault i).number NONE) _ _ (job_fault i) (memory_last w0 w1 two past (eqb (job_number_of m) a) (eqb (job_number_of m) b))

-- ---- another number

-- A call whose number is not the checkpoint's has a fault, and leaves all as it was.
pub other_refused :
    (i : Inputs) (job allowance : ℕ) (m : Mem)
    → (job_number_of m ≡ job → ⊥)
    → ((call_fault i job m).number ≡ NONE → ⊥) × (call_of i job allowance m ≡ outcome m (refusal (call_fault i job m)))
other_refused i job allowance m h =
    let n : (call_fault i job m).number ≡ NONE → ⊥ = λ e. h (call_number i job m e) in
    (n, sym (call_refused i allowance m job refl n))

-- the loan of all of a job's memory
abbrev pub whole : Inputs → Loan
whole i = record { work0 = of_work0 0 (4 * pixel_count i); work1 = of_work1 0 (4 * pixel_count i); checkpoint = of_checkpoint 0 2 }

-- at a checkpoint of the job, at any position up to its end, a call with the job's inputs and memory
module _ (i : Inputs) (job : ℕ) (m : Mem) (fit : (call_fault i job m).number ≡ NONE) where
  sized : Sized i m
  sized = (call_midway i job m fit 0).sized

  whole_lent : lent (whole i) m ≡ m
  whole_lent =
      let l0 : length m.work0 ≤ 4 * pixel_count i = omega (arith, sized.works.length0) in
      let l1 : length m.work1 ≤ 4 * pixel_count i = omega (arith, sized.works.length1) in
      let l : length m.checkpoint ≤ 2 = omega (arith, sized.checkpoint) in
      rw (take_all _ m.work0 l0, take_all _ m.work1 l1, take_all _ m.checkpoint l)

  module _ (other : ℕ) (differs : other ≡ job → ⊥) where
    pub other_number : call_fault i other m ≡ verdict JOB_NUMBER 0
    unfolding call_fault memory_fault
    other_number =
        let v = call_midway i job m fit 0 in
        let n : job_number_of m ≡ other → ⊥ = λ e. differs (sym e ∙ call_number i job m fit) in
        let w : position_of m ≤ end_of i = omega arith in
        let works = v.sized.works in
        rw (eq-eqb _ _ v.fit, eq-eqb _ _ works.length0, eq-eqb _ _ works.length1, eq-eqb _ _ v.sized.checkpoint, le-ltb _ _ w, ne_eqb _ _ n)

    other_fair : (allowance : ℕ) (uncut : Bool) → FairCall m (refused i other allowance (whole i) uncut)
    other_fair allowance uncut e = let n = rw (whole_lent, other_number) at e in absurd (omega arith)

-- After any list of a job's calls, begun or taken up (`demand_3`, `taken_up`):
module _ (i : Inputs) (job : ℕ) (start : Mem) (calls : List Call) (d : Demand3 i job start calls) where
  abbrev now : Mem
  now = memory_after (program_of i job) start calls

  -- a call with the job's inputs and memory and another number is one of the refused ones, as `Fair` asks of it, and its fault is JOB NUMBER;
  pub other_after :
      (other allowance : ℕ) (uncut : Bool)
      → (other ≡ job → ⊥)
      → FairCall now (refused i other allowance (whole i) uncut) × (call_fault i other now ≡ verdict JOB_NUMBER 0)
  other_after other allowance uncut differs =
      (other_fair i job now d.accepted other differs allowance uncut, other_number i job now d.accepted other differs)

  -- and one under another number with whatever inputs, of whatever job, is refused, and leaves all as it was.
  pub no_mixture :
      (j : Inputs) (other allowance : ℕ)
      → (other ≡ job → ⊥)
      → ((call_fault j other now).number ≡ NONE → ⊥) × (call_of j other allowance now ≡ outcome now (refusal (call_fault j other now)))
  no_mixture j other allowance differs =
      other_refused j other allowance now (λ n. differs (sym n ∙ ap (λ (c : List ℕ). get_or c 1 0) d.number))

-- ---- as before

-- memory with a checkpoint of two numbers, the second one the job's
abbrev pub Numbered : (job : ℕ) → Mem → Type 0
Numbered job m = m.checkpoint ≡ position_of m ∷ job ∷ []

module _ (job : ℕ) where
  put_numbered : (w : Write) (m : Mem) → Numbered job m → Numbered job (put w m)
  put_numbered (Work0 at word) m two = two
  put_numbered (Work1 at word) m two = two
  put_numbered (Checkpoint position) m two = rw two refl

  put_without : (w : Write) (m : Mem) → Numbered job m → without_number (put w m) ≡ put w (without_number m)
  put_without (Work0 at word) m two = refl
  put_without (Work1 at word) m two = refl
  put_without (Checkpoint position) m two = rw two refl

  module _ (i : Inputs) where
    pixel_same : (m : Mem) (k j : ℕ) → phase_pixel i (without_number m) k j ≡ phase_pixel i m k j
    unfolding phase_pixel
    pixel_same m zero j = refl
    pixel_same m (suc k) j = refl

    write_same : (m : Mem) (t : ℕ) → write_at i (without_number m) t ≡ write_at i m t
    unfolding write_at
    write_same m t = rw (pixel_same m (phase_at i (t / 5)) (pixel_at i (t / 5)))

    run_numbered : (t n : ℕ) (m : Mem) → Numbered job m → Numbered job (run_of i t n m)
    unfolding run_of
    run_numbered t zero m two = two
    run_numbered t (suc n) m two = put_numbered (write_at i (run_of i t n m) (t + n)) (run_of i t n m) (run_numbered t n m two)

    run_without : (t n : ℕ) (m : Mem) → Numbered job m → without_number (run_of i t n m) ≡ run_of i t n (without_number m)
    unfolding run_of
    run_without t zero m two = refl
    run_without t (suc n) m two =
        let r = run_of i t n m in
        put_without (write_at i r (t + n)) r (run_numbered t n m two)
        ∙ rw (← (run_without t n m two), write_same r (t + n))

-- an outcome with the number dropped
abbrev outcome_without : Outcome → Outcome
outcome_without o = outcome (without_number o.mem) o.answer

chosen_without : (b : Bool) (o p : Outcome) (m : Mem) (a : Answer) → outcome_without o ≡ p
    → outcome_without (cond b o (outcome m a)) ≡ cond b p (outcome (without_number m) a)
chosen_without true o p m a h = h
chosen_without false o p m a h = refl

chosen_numbered : (job : ℕ) (b : Bool) (o : Outcome) (m : Mem) (a : Answer) → Numbered job o.mem → Numbered job m
    → Numbered job (cond b o (outcome m a)).mem
chosen_numbered job true o m a h two = h
chosen_numbered job false o m a h two = two

module _ (i : Inputs) (job allowance : ℕ) (m : Mem) (two : Numbered job m) where
  fault_before : call_fault i job m ≡ unnumbered_fault i (without_number m)
  unfolding call_fault memory_fault unnumbered_fault unnumbered_memory_fault
  fault_before = rw (two, eq-eqb job job refl)

  accepted_before : outcome_without (accepted_of i allowance m) ≡ accepted_of i allowance (without_number m)
  unfolding accepted_of
  accepted_before = rw (← (run_without job i (5 * position_of m) (made_of i allowance m) m two))

  -- Of one call: the same memory but for the number, and the same answer; also where it is refused.
  pub call_before : outcome_without (call_of i job allowance m) ≡ unnumbered_of i allowance (without_number m)
  unfolding call_of unnumbered_of
  call_before =
      rw (← fault_before)
      (chosen_without (eqb (call_fault i job m).number NONE) (accepted_of i allowance m) _ m (refusal (call_fault i job m)) accepted_before)

  call_numbered : Numbered job (call_of i job allowance m).mem
  unfolding call_of accepted_of
  call_numbered =
      chosen_numbered job (eqb (call_fault i job m).number NONE) (accepted_of i allowance m) m (refusal (call_fault i job m)) (run_numbered job i _ _ m two) two

module _ (i : Inputs) (job : ℕ) where
  program_before : (m : Mem) (c : Call) → Numbered job m → OwnCall c → seen_without (program_of i job m c) ≡ unnumbered_program i (without_number m) c
  unfolding program_of unnumbered_program
  program_before m (allowed n) two own = rw (← (call_before i job n m two))
  program_before m (cut n k) two own = rw (← (call_before i job (min k n) m two))
  program_before m (refused inputs number n loan uncut) two own = absurd own

  program_numbered : (m : Mem) (c : Call) → Numbered job m → OwnCall c → Numbered job (program_of i job m c).mem
  unfolding program_of
  program_numbered m (allowed n) two own = call_numbered i job n m two
  program_numbered m (cut n k) two own = call_numbered i job (min k n) m two
  program_numbered m (refused inputs number n loan uncut) two own = absurd own

  -- Of any list of the job's own calls, cut or not, from any memory with the job's number: call for call the same pictures, positions and answers as before
  -- there were numbers, and the same after the whole list. Whether the job has a fault is not asked.
  pub as_before :
      (m : Mem) (calls : List Call)
      → Numbered job m
      → Own calls
      → (map seen_without (history (program_of i job) m calls) ≡ history (unnumbered_program i) (without_number m) calls)
      × (without_number (memory_after (program_of i job) m calls) ≡ memory_after (unnumbered_program i) (without_number m) calls)
  unfolding history memory_after Own
  as_before m [] two own = (refl, refl)
  as_before m (c ∷ cs) two own =
      let e = program_before m c two own.0 in
      let r = as_before (program_of i job m c).mem cs (program_numbered m c two own.0) own.1 in
      (rw (r.0, ← e), rw (← e) r.1)
