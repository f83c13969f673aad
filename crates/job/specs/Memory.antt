-- The memory that a job is lent (document 01, "Stores and the mark"): two work buffers (document 01: work pictures) and a checkpoint (document 01:
-- mark), a list with the job's position at index 0 and the job's number at index 1 (document 02, A.5). One write (document 01: a store) changes one
-- number. Definitions only.
use Rattle.std.specs.Prelude.{◌≡◌, cond, List, [], ◌∷◌, ℕ, ◌+◌, ◌*◌, ◌%◌, eqb, get_or, set}
use Rattle.pictures.specs.declared.Words.{Words}
use Rattle.job.specs.declared.Memory.{Memory}
use Rattle.job.specs.declared.Write.{Write}
use Rattle.job.specs.declared.Write.TheVariants.{Work0, Work1, Checkpoint}

pub record Mem : Type 0 where
  pub work0 : List ℕ
  pub work1 : List ℕ
  pub checkpoint : List ℕ

abbrev pub mem_of : List ℕ → List ℕ → List ℕ → Mem
mem_of work0 work1 checkpoint = record { work0 = work0; work1 = work1; checkpoint = checkpoint }

-- the same as the code is lent it
abbrev pub mem_in : Memory → Mem
mem_in m = mem_of m.work0.now m.work1.now m.checkpoint.now

-- the lists are still those that were lent
pub record SameLists (m m' : Memory) : Type 0 where
  pub work0 : m'.work0.ghost_name ≡ m.work0.ghost_name
  pub work1 : m'.work1.ghost_name ≡ m.work1.ghost_name
  pub checkpoint : m'.checkpoint.ghost_name ≡ m.checkpoint.ghost_name

-- the job's position: the pixels that it has written, over all pictures
abbrev pub position_of : Mem → ℕ
position_of m = get_or m.checkpoint 0 0

-- the number of the job that the checkpoint belongs to; no write changes it
abbrev pub job_number_of : Mem → ℕ
job_number_of m = get_or m.checkpoint 1 0

-- the memory after one write
abbrev pub put : Write → Mem → Mem
put (Work0 at word) m = mem_of (set m.work0 at word) m.work1 m.checkpoint
put (Work1 at word) m = mem_of m.work0 (set m.work1 at word) m.checkpoint
put (Checkpoint position) m = mem_of m.work0 m.work1 (set m.checkpoint 0 position)

-- the memory after several writes, in their order
unfoldable pub stored : List Write → Mem → Mem
stored [] m = m
stored (w ∷ ws) m = stored ws (put w m)

-- picture k stands in work k mod 2
abbrev pub work_in : ℕ → List ℕ → List ℕ → List ℕ
work_in k work0 work1 = cond (eqb (k % 2) 0) work0 work1

abbrev pub work_of : ℕ → Mem → List ℕ
work_of k m = work_in k m.work0 m.work1

-- a word of picture k
abbrev pub word_write : ℕ → ℕ → ℕ → Write
word_write k at word = cond (eqb (k % 2) 0) (Work0 at word) (Work1 at word)

-- the five writes of pixel j of picture k: red, green, blue, alpha, then the position
abbrev pub five_writes : (k j : ℕ) → Words → (position : ℕ) → List Write
five_writes k j w position =
    word_write k (4 * j) w.r
    ∷ word_write k (4 * j + 1) w.g
    ∷ word_write k (4 * j + 2) w.b
    ∷ word_write k (4 * j + 3) w.a
    ∷ Checkpoint position
    ∷ []

-- write c of them
abbrev pub write_of : (k j : ℕ) → Words → (position c : ℕ) → Write
write_of k j w position c = get_or (five_writes k j w position) c (Checkpoint 0)
