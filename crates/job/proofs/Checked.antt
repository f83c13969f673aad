-- What a call without a fault has of its inputs and its memory, and that this is what its writes ask. Assumes nothing.
use mathlib.Core.Path.{◌≡◌, refl, ◌∙◌}
use mathlib.Core.List.{List, [], ◌∷◌}
use mathlib.Core.Bool.{Bool, true, false, cond}
use mathlib.Core.Logic.{⊎_elim}
use Prim.Native.Nat.{ℕ, suc, ◌+◌, ◌*◌, ◌<◌, ◌≤◌}
use native.Mathlib.Nat.{add-zero, zero-add, mul-le-mul, mul-zero, mod-lt, div-lt_iff_lt-mul, eq-zero-or-pos}
use native.Mathlib.Omega.{arith}
use lib.Dec.{eqb, ltb}
use lib.ListN.{length, get_or}
use borrow.Author.Tests.{eq-eqb, ne_eqb, eqb-true, ltb-false, le-ltb}
use Rattle.places.specs.Bounds.{slack}
use Rattle.layers.specs.Inputs.{Inputs, Verdict, verdict, job_fault}
use Rattle.layers.proofs.Accepted.{accepted, destination}
use Rattle.job.specs.Memory.{Mem, position_of, job_number_of}
use Rattle.job.specs.Job.{pixel_count, layer_count, phase_at, pixel_at, end_of, memory_fault, call_fault, acceptance, refusal}
use Rattle.job.specs.Call.{made_of, outcome, accepted_of, call_of}
use Rattle.job.specs.Steps.{Ran}
use Rattle.job.specs.Uses.{Sized, Batch, batch_of, Midway}

-- ---- the faults

-- a fault of the inputs, and one of the memory
module _ (i : Inputs) (job : ℕ) (m : Mem) {v : Verdict} (found : v ≡ job_fault i) where
  pub inputs_fault : (v.number ≡ 0 → ⊥) → v ≡ call_fault i job m
  unfolding call_fault
  inputs_fault h = rw (← found, ne_eqb v.number 0 h)

  pub memory_fault_lem : {f : ℕ} → v.number ≡ 0 → f ≡ memory_fault (pixel_count i) (end_of i) job m → verdict f 0 ≡ call_fault i job m
  unfolding call_fault
  memory_fault_lem e g = rw (← found, eq-eqb v.number 0 e, g)

-- no fault of a call is none of its inputs and none of its memory
neither : (v : Verdict) (f : ℕ) → (cond (eqb v.number 0) (verdict f 0) v).number ≡ 0 → (v.number ≡ 0) × (f ≡ 0)
neither v f h =
    ⊎_elim
    (λ e. (e, rw (eq-eqb v.number 0 e) at h))
    (λ l. let e = rw (ne_eqb v.number 0 (omega arith)) at h in absurd (omega arith))
    (eq-zero-or-pos v.number)

cond_zero : (b : Bool) (x n : ℕ) → cond b x (suc n) ≡ 0 → (b ≡ true) × (x ≡ 0)
cond_zero true x n e = (refl, e)
cond_zero false x n e = absurd (omega arith)

zero_cond : (b : Bool) (n x : ℕ) → cond b (suc n) x ≡ 0 → (b ≡ false) × (x ≡ 0)
zero_cond true n x e = absurd (omega arith)
zero_cond false n x e = (refl, e)

-- a list of two numbers
two : (xs : List ℕ) → length xs ≡ 2 → xs ≡ get_or xs 0 0 ∷ get_or xs 1 0 ∷ []
two [] e = absurd (omega arith)
two (x ∷ []) e = absurd (omega arith)
two (x ∷ y ∷ []) e = refl
two (x ∷ y ∷ z ∷ zs) e = absurd (omega arith)

-- memory without a fault: lists of the job's lengths, a position that is not past the end, and the call's number
memory_none : (i : Inputs) (job : ℕ) (m : Mem) → memory_fault (pixel_count i) (end_of i) job m ≡ 0
    → Sized i m × (position_of m ≤ end_of i) × (job_number_of m ≡ job)
unfolding memory_fault
memory_none i job m e =
    let a = cond_zero (eqb (length m.work0) (4 * pixel_count i)) _ 8 e in
    let b = cond_zero (eqb (length m.work1) (4 * pixel_count i)) _ 8 a.1 in
    let d = cond_zero (eqb (length m.checkpoint) 2) _ 9 b.1 in
    let p = zero_cond (ltb (end_of i) (position_of m)) 9 _ d.1 in
    let n = cond_zero (eqb (job_number_of m) job) _ 13 p.1 in (
      record { works = record { length0 = eqb-true _ _ a.0; length1 = eqb-true _ _ b.0 }; checkpoint = eqb-true _ _ d.0 },
      ltb-false (end_of i) (position_of m) p.0,
      eqb-true _ _ n.0,
    )

-- ---- bounds of accepted inputs

-- a position before the end is one of a job that has pixels, and of one of its phases
module _ (i : Inputs) (p : ℕ) (room : p < end_of i) where
  pub some_pixel : 0 < pixel_count i
  some_pixel = ⊎_elim (λ z. let r = rw z at room in absurd (omega (arith, mul-zero (layer_count i + 1)))) (λ h. h) (eq-zero-or-pos (pixel_count i))

  pub phase_within : phase_at i p ≤ layer_count i
  phase_within = let k : phase_at i p < layer_count i + 1 = (div-lt_iff_lt-mul some_pixel).1 room in omega arith

  pub pixel_within : pixel_at i p < pixel_count i
  pixel_within = mod-lt p some_pixel

-- bounds of a job's pixels and layers; a thousand layers would still fit
pub record Bounded (i : Inputs) : Type 0 where
  pub pixels : pixel_count i ≤ slack * slack
  pub layers : layer_count i + 1 ≤ 1024
  pub end : end_of i ≤ 1024 * (slack * slack)

pub bounded : (i : Inputs) → (job_fault i).number ≡ 0 → Bounded i
bounded i e =
    let a = accepted i e in
    let d = destination i a in
    let pixels : pixel_count i ≤ slack * slack = mul-le-mul d.width d.height in
    let layers : layer_count i + 1 ≤ 1024 = omega (arith, a.count.most) in
    record { pixels = pixels; layers = layers; end = mul-le-mul layers pixels }

-- ---- a call without a fault

module _ (i : Inputs) (job : ℕ) (m : Mem) (e : (call_fault i job m).number ≡ 0) where
  none : ((job_fault i).number ≡ 0) × (memory_fault (pixel_count i) (end_of i) job m ≡ 0)
  unfolding call_fault
  none = neither (job_fault i) _ e

  -- its number is the checkpoint's
  pub call_number : job_number_of m ≡ job
  call_number = (memory_none i job m none.1).2

  pub own_number : (call_fault i (job_number_of m) m).number ≡ 0
  own_number = rw call_number e

  -- and its checkpoint is the position and that number
  pub two_numbers : m.checkpoint ≡ position_of m ∷ job ∷ []
  two_numbers = two m.checkpoint (memory_none i job m none.1).0.checkpoint ∙ rw call_number

  pub call_inputs : (job_fault i).number ≡ 0
  call_inputs = none.0

  -- it has made none of its writes
  pub call_midway : (allowance : ℕ) → Midway (batch_of i allowance m) 0 m
  call_midway allowance = let h = memory_none i job m none.1 in omega (arith, call_inputs)

-- a call under the checkpoint's number has no fault on what another leaves
pub midway_call : {b : Batch} {uses : ℕ} {m : Mem} → Midway b uses m → uses ≤ b.due → (call_fault b.inputs (job_number_of m) m).number ≡ 0
unfolding call_fault memory_fault
midway_call {b} {uses} {m} h l =
    let w : position_of m ≤ end_of b.inputs = omega arith in
    search (eq-eqb, le-ltb)

-- ---- the outcome

module _ (i : Inputs) (allowance : ℕ) (m : Mem) where
  pub call_accepted : {uses end : ℕ} {m' : Mem} → end ≡ end_of i → Ran (batch_of i allowance m) 0 (made_of i allowance m) uses m m'
      → outcome m' (acceptance uses (eqb (position_of m') end)) ≡ accepted_of i allowance m
  unfolding accepted_of
  call_accepted e f = rw (e, f.memory, f.count, add-zero, zero-add)

  pub call_refused : (job : ℕ) {v : Verdict} → v ≡ call_fault i job m → (v.number ≡ 0 → ⊥) → outcome m (refusal v) ≡ call_of i job allowance m
  unfolding call_of
  call_refused job {v} e h = rw (← e, ne_eqb v.number 0 h)

  pub call_made : (job : ℕ) → (call_fault i job m).number ≡ 0 → accepted_of i allowance m ≡ call_of i job allowance m
  unfolding call_of
  call_made job e = rw (eq-eqb (call_fault i job m).number 0 e)
