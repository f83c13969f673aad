-- DEMAND 3, one theorem about a list of calls of any length: `demand_3`, at the end of this file. Its hypotheses are all there: a job whose call at
-- position 0 has no fault, whatever its work buffers hold; and a list of calls in which those that are named as refused are refused. `taken_up` says the
-- same of a job that is taken up in the middle. Both rest on the call's contract (specs/Call), on what `store` asks (specs/Uses) and on the reference
-- model (specs/Model) alone. Assumes nothing.
use mathlib.Core.Path.{◌≡◌, refl, ◌∙◌, sym}
use mathlib.Core.List.{List, [], ◌∷◌}
use mathlib.Core.Logic.{⊎_elim}
use Prim.Native.Nat.{ℕ, zero, suc, ◌+◌, ◌-◌, ◌*◌, ◌/◌, ◌<◌, ◌≤◌, min}
use native.Mathlib.Nat.{min-le_right, min-eq_left, min-eq_right, zero-div, zero-mod, add-zero, eq-zero-or-pos}
use native.Mathlib.Numerals.{add-one}
use native.Mathlib.Omega.{arith}
use lib.Dec.{eqb}
use lib.ListN.{length, take, length-take}
use lib.Seq.{ext_get_or, take_all, take-take, take-length}
use Rattle.faults.specs.Faults.{NONE}
use Rattle.layers.specs.Inputs.{Inputs}
use Rattle.job.specs.declared.Write.{Write}
use Rattle.job.specs.Memory.{Mem, mem_of, position_of, job_number_of, stored, work_of}
use Rattle.job.specs.Job.{pixel_count, phase_at, layer_count, end_of, call_fault, acceptance}
use Rattle.job.specs.Call.{made_of, left_by, outcome, accepted_of, call_of}
use Rattle.job.specs.Loans.{lent}
use Rattle.job.specs.Model.{picture_of, entries_of, Call, allowed, cut, refused, model_of}
use Rattle.job.specs.Demand.{program_of, history, memory_after, FairCall, Fair, beneath_in, beneath_of, Underway, Demand3}
use Rattle.job.specs.Uses.{batch_of, Midway}
use Rattle.job.proofs.Runs.{stored_number, place_div, start_midway}
use Rattle.job.proofs.Sequence.{work_length, picture_length, left_length, Beneath, Here, begun_again, Progress, Made, made}
use Rattle.job.proofs.Checked.{some_pixel, call_number, own_number, two_numbers, call_midway, midway_call, call_made, call_refused}
use Rattle.job.proofs.Loans.{returned_same}
use Rattle.job.proofs.Uses.{uses_are}

-- ---- parts of a list

take_cut : {A : Type 0} (k n : ℕ) (xs : List A) → take (min k n) xs ≡ take k (take n xs)
take_cut k n xs =
    ⊎_elim
    (λ (e : k - n ≡ 0). let h : k ≤ n = omega arith in rw (min-eq_left, take-take))
    (λ (e : 0 < k - n). let h : n ≤ k = omega arith in rw (min-eq_right, take_all k (take n xs) (rw length-take (omega arith))))
    (eq-zero-or-pos (k - n))

take_min : {A : Type 0} (n : ℕ) (xs : List A) → take (min n (length xs)) xs ≡ take n xs
take_min n xs = rw (take_cut, take-length)

-- ---- an accepted call

module _ (i : Inputs) (n : ℕ) (m : Mem) (v : Progress i m) where
  abbrev entries : List Write
  entries = entries_of i n m

  abbrev after : Mem
  after = stored entries m

  all : Made i m (made_of i n m)
  all = made i m (made_of i n m) (min-le_right n _) v

  -- it leaves what the entries leave that the model makes, and counts them
  left_is : left_by i n m ≡ after
  left_is = all.same ∙ rw (← (left_length i (position_of m)), take_min)

  call_is : call_of i (job_number_of m) n m ≡ outcome after (acceptance (length entries) (eqb (position_of after) (end_of i)))
  unfolding accepted_of
  call_is = rw (← (call_made i n m _ v.fit), left_is, length-take, left_length)

  left_midway : Midway (batch_of i n m) (made_of i n m) after
  left_midway = rw left_is at (start_midway (call_midway i _ m v.fit n) (made_of i n m))

  -- it has gained floor(made / 5) pixels
  gained : position_of after ≡ min (position_of m + n / 5) (end_of i)
  gained = let c = left_midway in omega arith

  -- and leaves memory that the next call can take up
  stays_one : Progress i after
  stays_one =
      let e : position_of after ≡ (5 * position_of m + made_of i n m) / 5 = left_midway.position ∙ omega arith in
      record { fit = midway_call left_midway (omega arith); here = λ z. rw e (begun_again i (rw left_is at (all.here z))) }

-- ---- calls one after the other

module _ (i : Inputs) where
  program_is : (m : Mem) (c : Call) → Progress i m → FairCall m c → program_of i (job_number_of m) m c ≡ model_of i m c
  unfolding program_of model_of
  program_is m (allowed n) v f = rw (call_is i n m v)
  program_is m (cut n k) v f = rw (call_is i (min k n) m v, take_cut)
  program_is m (refused inputs number n loan uncut) v f = rw (← (call_refused inputs n (lent loan m) number refl f), returned_same loan m)

  stays : (m : Mem) (c : Call) → Progress i m → Progress i (model_of i m c).mem
  unfolding model_of
  stays m (allowed n) v = stays_one i n m v
  stays m (cut n k) v = rw take_cut at (stays_one i (min k n) m v)
  stays m (refused inputs number n loan uncut) v = v

  number_stays : (m : Mem) (c : Call) → job_number_of (model_of i m c).mem ≡ job_number_of m
  unfolding model_of
  number_stays m (allowed n) = stored_number _ m
  number_stays m (cut n k) = stored_number _ m
  number_stays m (refused inputs number n loan uncut) = refl

  calls_are : (job : ℕ) (m : Mem) (cs : List Call) → job_number_of m ≡ job → Progress i m → Fair i m cs
      → (history (program_of i job) m cs ≡ history (model_of i) m cs)
      × (memory_after (program_of i job) m cs ≡ memory_after (model_of i) m cs)
      × Progress i (memory_after (model_of i) m cs)
      × (job_number_of (memory_after (model_of i) m cs) ≡ job)
  unfolding history memory_after Fair
  calls_are job m [] own v f = (refl, refl, v, own)
  calls_are job m (c ∷ cs) own v f =
      let e = rw own at (program_is m c v f.0) in
      let r = calls_are job (model_of i m c).mem cs (number_stays m c ∙ own) (stays m c v) f.1 in
      (rw (e, r.0), rw e r.1, r.2, r.3)

-- ---- what lies under the position

module _ (i : Inputs) (m : Mem) (v : Progress i m) where
  finished_is : let k = layer_count i in position_of m ≡ end_of i → work_of k m ≡ picture_of i k
  finished_is e =
      let k = layer_count i in
      let l = work_length i m k (call_midway i _ m v.fit 0).sized in
      let s : position_of m ≡ suc k * pixel_count i + 0 = e ∙ rw (add-one, add-zero) in
      ⊎_elim
      (λ z. ext_get_or 0 _ _ (l ∙ sym (picture_length i k)) (λ x h. absurd (omega arith)))
      (λ z. (v.here z).below k (sym (place_div (pixel_count i) (position_of m) (suc k) 0 s z)))
      (eq-zero-or-pos (pixel_count i))

  beneath_is : (k : ℕ) → Beneath i m k → beneath_in i m k ≡ beneath_of i k
  beneath_is zero h = refl
  beneath_is (suc k) h = h k refl

  earlier_is : position_of m < end_of i → Underway i m
  earlier_is l =
      let h = v.here (some_pixel i (position_of m) l) in
      record { written = rw add-zero at h.right; beneath = beneath_is (phase_at i (position_of m)) h.below }

-- ---- calls on memory that a call can take up

module _ (i : Inputs) (job : ℕ) (m : Mem) where
  below_of : (k : ℕ) → beneath_in i m k ≡ beneath_of i k → Beneath i m k
  below_of zero h b e = absurd (omega arith)
  below_of (suc k) h b e = let x : b ≡ k = omega arith in rw x h

  underway_here : Underway i m → Here i m (position_of m) 0
  underway_here u = record { right = rw add-zero u.written; below = below_of (phase_at i (position_of m)) u.beneath }

  from_here : job_number_of m ≡ job → Progress i m → (calls : List Call) → Fair i m calls → Demand3 i job m calls
  from_here own v calls f =
      let r = calls_are i job m calls own v f in
      let end = memory_after (model_of i) m calls in
      let p = r.2 in
      let o = r.3 in
      record {
        same = r.0;
        memory = r.1;
        number = rw r.1 (two_numbers i _ end p.fit ∙ rw o);
        accepted = rw (r.1, ← o) p.fit;
        finished = rw r.1 (finished_is i end p);
        earlier = rw r.1 (earlier_is i end p);
        gain = rw r.1 (λ n. rw (← o) (rw (call_is i n end p) (gained i n end p)));
        uses = rw r.1 (λ n ws. uses_are i end n ws p);
      }

-- DEMAND 3, taken up: the same from any memory in which a call has no fault, the picture being written is right up to the position and the one beneath it
-- is whole. What the work buffers hold beyond may be anything: so a job may be taken up from a position that was kept together with these pictures alone.
pub taken_up :
    (i : Inputs) (job : ℕ) (m : Mem)
    → (call_fault i job m).number ≡ NONE
    → Underway i m
    → (calls : List Call)
    → Fair i m calls
    → Demand3 i job m calls
taken_up i job m e u =
    from_here i job m (call_number i job m e) (record { fit = own_number i job m e; here = λ z. underway_here i job m u })

-- DEMAND 3. Of any job that is free of faults at position 0 under its number, whatever its work buffers hold, any list of calls, with any allowances, any
-- of them cut after any number of writes, refused ones among them with whatever inputs, numbers and lists, leaves and answers what the reference model says.
pub demand_3 :
    (i : Inputs) (job : ℕ) (work0 work1 : List ℕ)
    → (call_fault i job (mem_of work0 work1 (0 ∷ job ∷ []))).number ≡ NONE
    → (calls : List Call)
    → Fair i (mem_of work0 work1 (0 ∷ job ∷ [])) calls
    → Demand3 i job (mem_of work0 work1 (0 ∷ job ∷ [])) calls
demand_3 i job work0 work1 e =
    let m = mem_of work0 work1 (0 ∷ job ∷ []) in
    from_here i job m refl (record {
      fit = e;
      here = λ z. record { right = rw zero-mod refl; below = λ b x. absurd (omega (arith, zero-div (pixel_count i))) };
    })
