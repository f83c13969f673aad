-- What a refused call is lent for its work buffers and its checkpoint, "with whatever arguments" (document 01): for each of the three any slice of the
-- job's own lists of that type, or another list, by its numbers; and what the job's memory is after it. Definitions only; proofs/Loans has the law.
use Rattle.std.specs.Prelude.{List, ◌++◌, ℕ, take, drop}
use Rattle.job.specs.Memory.{Mem, mem_of}

-- the numbers of xs from number `first` on, `count` of them or all that follow if fewer; so the whole list is the slice from 0 on that is long enough
abbrev pub slice : (first count : ℕ) → (xs : List ℕ) → List ℕ
slice first count xs = take count (drop first xs)

-- xs with ys in place of that slice
abbrev pub with_slice : (first count : ℕ) → (xs ys : List ℕ) → List ℕ
with_slice first count xs ys = take first xs ++ (ys ++ drop count (drop first xs))

-- what a call can be lent in a slot for numbers of so many bits (work buffers 32, a checkpoint 64): a slice of one of the job's lists, or another list
pub data Slot : (bits : ℕ) → Type 0 where
  of_work0 : (first count : ℕ) → Slot 32
  of_work1 : (first count : ℕ) → Slot 32
  of_checkpoint : (first count : ℕ) → Slot 64
  other : {bits : ℕ} → List ℕ → Slot bits

-- the three slots of a call
pub record Loan : Type 0 where
  pub work0 : Slot 32
  pub work1 : Slot 32
  pub checkpoint : Slot 64

-- what a slot is lent of the job's memory
abbrev pub lent_in : {bits : ℕ} → Slot bits → Mem → List ℕ
lent_in (of_work0 first count) m = slice first count m.work0
lent_in (of_work1 first count) m = slice first count m.work1
lent_in (of_checkpoint first count) m = slice first count m.checkpoint
lent_in (other xs) m = xs

-- the memory that a call finds
abbrev pub lent : Loan → Mem → Mem
lent l m = mem_of (lent_in l.work0 m) (lent_in l.work1 m) (lent_in l.checkpoint m)

-- the job's memory once what a slot was lent has become xs
abbrev pub put_back : {bits : ℕ} → Slot bits → (xs : List ℕ) → Mem → Mem
put_back (of_work0 first count) xs m = mem_of (with_slice first count m.work0 xs) m.work1 m.checkpoint
put_back (of_work1 first count) xs m = mem_of m.work0 (with_slice first count m.work1 xs) m.checkpoint
put_back (of_checkpoint first count) xs m = mem_of m.work0 m.work1 (with_slice first count m.checkpoint xs)
put_back (other ys) xs m = m

-- The job's memory once a call has left what it was lent as `after`: the slots are put back one after the other. The type also has loans in which two
-- slots are lent the same numbers, which a host may not make (include/tray.h); of these the slot that is put back last counts. `returned` is asked of
-- refused calls alone, which change none of their numbers, so that all of them are put back as they were.
abbrev pub returned : Loan → Mem → (after : Mem) → Mem
returned l m after = put_back l.checkpoint after.checkpoint (put_back l.work1 after.work1 (put_back l.work0 after.work0 m))
