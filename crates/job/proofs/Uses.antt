-- The uses of `store` in a call, each as its contract allows it, with the call's own inputs and one count (tests/one-writer sees to these): after n of them
-- memory is what a call allowed n leaves (`uses_leave`), over however many pictures; and they are the entries of the model's write sequence, in their
-- order (`uses_are`). There are such uses, as many as are due (`uses_can`). Assumes nothing.
use mathlib.Core.Path.{◌≡◌, refl, sym, ap, ◌∙◌}
use mathlib.Core.List.{List, [], ◌∷◌}
use Prim.Native.Nat.{ℕ, zero, suc, ◌+◌, ◌-◌, ◌*◌, ◌≤◌}
use native.Mathlib.Nat.{add-zero, zero-add, min-eq_left}
use native.Mathlib.Numerals.{add-one}
use native.Mathlib.Omega.{arith}
use lib.ListN.{length, take, drop}
use lib.Seq.{drop-cons, take-take}
use Rattle.faults.specs.Faults.{NONE}
use Rattle.layers.specs.Inputs.{Inputs}
use Rattle.job.specs.declared.Write.{Write}
use Rattle.job.specs.declared.Write.TheVariants.{Checkpoint}
use Rattle.job.specs.Memory.{Mem, put, stored, position_of}
use Rattle.job.specs.Job.{end_of, call_fault}
use Rattle.job.specs.Call.{write_at, run_of, accepted_of, call_of}
use Rattle.job.specs.Uses.{Batch, batch_of, Midway, NextUse, UsesFrom}
use Rattle.job.specs.Model.{write_sequence, entries_of}
use Rattle.job.proofs.Checked.{call_midway, call_made}
use Rattle.job.proofs.Parts.{ran_midway, use_ran}
use Rattle.job.proofs.Sequence.{sequence_length, entry, Progress, write_next, made}

-- no more uses than writes are due
few : (b : Batch) (u : ℕ) (r : Mem) (ws : List Write) → u ≤ b.due → UsesFrom b u r ws → u + length ws ≤ b.due
unfolding UsesFrom
few b u r [] h v = omega arith
few b u r (w ∷ ws) h (n, v) = omega (arith, few b (u + 1) (put w r) ws (omega (arith, n.left)) v)

module _ (i : Inputs) (m : Mem) (allowance : ℕ) where
  abbrev b : Batch
  b = batch_of i allowance m

  -- memory after n writes of the call
  abbrev after : ℕ → Mem
  after n = run_of i (5 * position_of m) n m

  one : {u : ℕ} {r : Mem} {w : Write} → r ≡ after u → NextUse b u r w → put w r ≡ after (u + 1)
  unfolding run_of
  one e n = rw (n.next, e, add-one)

  leave : (u : ℕ) (r : Mem) (ws : List Write) → r ≡ after u → UsesFrom b u r ws → (n : ℕ) → n ≤ length ws → stored (take n ws) r ≡ after (u + n)
  unfolding UsesFrom stored
  leave u r ws e v zero h = e ∙ ap after (sym (add-zero u))
  leave u r [] e v (suc n) h = absurd (omega arith)
  leave u r (w ∷ ws) e v (suc n) h = leave (u + 1) (put w r) ws (one e v.0) v.1 n (omega arith) ∙ ap after (omega arith)

  entries : (u : ℕ) (r : Mem) (ws : List Write) → Progress i m → r ≡ after u → UsesFrom b u r ws
      → ws ≡ take (length ws) (drop (5 * position_of m + u) (write_sequence i))
  unfolding UsesFrom
  entries u r [] v e d = refl
  entries u r (w ∷ ws) v e (n, d) =
      let t = 5 * position_of m + u in
      let l = n.left in
      let o : w ≡ entry i t = n.next ∙ rw e (write_next i m u (omega arith) (made i m u (omega arith) v)) in
      let a : suc t ≡ 5 * position_of m + (u + 1) = omega arith in
      rw (o, drop-cons (write_sequence i) t (Checkpoint 0) (omega (arith, sequence_length i)), a, ← (entries (u + 1) (put w r) ws v (one e n) d))

  -- After n uses of an accepted call, made one after the other from the count 0 on, memory is what the call, allowed n, leaves.
  pub uses_leave :
      (job : ℕ) (ws : List Write)
      → (call_fault i job m).number ≡ NONE
      → UsesFrom (batch_of i allowance m) 0 m ws
      → (n : ℕ)
      → n ≤ length ws
      → stored (take n ws) m ≡ (call_of i job n m).mem
  unfolding run_of accepted_of
  uses_leave job ws e u n h =
      let l = few b 0 m ws (omega arith) u in
      let all : n ≤ 5 * (end_of i - position_of m) = omega arith in
      rw (leave 0 m ws refl u n h, zero-add, ← (call_made i n m job e), min-eq_left)

  -- From memory that is right up to its position, as each call of a job finds it (proofs/Demand), they are the model's entries, from the first on.
  pub uses_are : (ws : List Write) → Progress i m → UsesFrom (batch_of i allowance m) 0 m ws → ws ≡ take (length ws) (entries_of i allowance m)
  unfolding run_of
  uses_are ws v u =
      let l = few b 0 m ws (omega arith) u in
      rw (take-take (length ws) allowance _ (omega arith)) (rw add-zero at (entries 0 m ws v refl u))

-- And they can be made, all that are due.
unfoldable pub uses_of : Batch → (uses n : ℕ) → Mem → List Write
uses_of b u zero m = []
uses_of b u (suc n) m = let w = write_at b.inputs m (5 * b.start + u) in w ∷ uses_of b (u + 1) n (put w m)

can : {b : Batch} (n : ℕ) {u : ℕ} {m : Mem} → Midway b u m → u + n ≤ b.due → UsesFrom b u m (uses_of b u n m) × (length (uses_of b u n m) ≡ n)
unfolding uses_of UsesFrom
can zero h l = (tt, refl)
can {b} (suc n) {u} {m} h l =
    let x : NextUse b u m (write_at b.inputs m (5 * b.start + u)) = record { midway = h; left = omega arith; next = refl } in
    let r = can n (ran_midway (use_ran x (refl, refl)) h) (omega arith) in
    ((x, r.0), ap suc r.1)

pub uses_can :
    (i : Inputs) (job : ℕ) (m : Mem) (allowance : ℕ)
    → (call_fault i job m).number ≡ NONE
    → let b = batch_of i allowance m in let ws = uses_of b 0 b.due m in UsesFrom b 0 m ws × (length ws ≡ b.due)
uses_can i job m allowance e = can _ (call_midway i job m e allowance) (omega arith)
