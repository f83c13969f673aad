-- What a line of a job asks, call after call, and where its answers end. Definitions only.
use Rattle.std.specs.Prelude.{cond, List, [], ◌∷◌, ◌++◌, ℕ, ℤ, drop}
use Rattle.vector_lines.specs.declared.numbers.Read.{Read}
use Rattle.vector_lines.specs.Numbers.{nowhere, expected_at, u64_at, signed_at}
use Rattle.pictures.specs.declared.Shape.{Shape}
use Rattle.vector_rooms.specs.declared.Room.{Room}
use Rattle.vector_rooms.specs.declared.Lists.{Lists}
use Rattle.vector_rooms.specs.declared.Memory.{Memory}
use Rattle.vector_rooms.specs.Rooms.{Placed, placed, given, room_of, room_at, no_numbers, shape_at, dst_at, layers_at, inputs_by}
use Rattle.vector_rooms.specs.Rooms.{memory_fits, memory_at, left_at}
use Rattle.layers.specs.Inputs.{Inputs}
use Rattle.job.specs.Memory.{Mem, mem_of, position_of}
use Rattle.job.specs.Call.{call_of}
use Rattle.tray.specs.Answers.{HostOutcome, job_outcome}

-- a place in the line, and the job's memory
pub record Played : Type 0 where
  pub next : ℕ
  pub mem : Mem

abbrev pub played : ℕ → Mem → Played
played next mem = record { next = next; mem = mem }

-- number layer stores finished mark
unfoldable pub outcome_at : List ℕ → ℕ → HostOutcome → Played
outcome_at line at o =
    played
    (expected_at line
    (expected_at line (expected_at line (expected_at line (expected_at line at o.number) o.layer) o.stores) o.finished)
    (position_of o.mem))
    o.mem

-- a call
abbrev pub call_at : List ℕ → Inputs → (job allowance : ℕ) → Played → Played
call_at line inputs job allowance p = outcome_at line p.next (job_outcome (call_of inputs job allowance p.mem))

-- the calls one after the other: of each its job number, then its allowance; a number that is left over is out of form
unfoldable pub calls_at : List ℕ → Inputs → (calls : List ℕ) → Played → Played
calls_at line inputs [] p = p
calls_at line inputs (job ∷ []) p = played nowhere p.mem
calls_at line inputs (job ∷ allowance ∷ rest) p = calls_at line inputs rest (call_at line inputs job allowance p)

-- ---- a line of a job

-- the parts of the lists that are lent, as many elements as each list's count says, and the lists once the parts are back
abbrev pub lent_on : Memory → Mem
lent_on m = mem_of (given m.work0) (given m.work1) (given m.checkpoint)

abbrev pub back_in : {n : ℕ} → Room ℕ n → List ℕ → Room ℕ n
back_in r part = room_of (part ++ drop r.count r.items) r.count

abbrev pub back_on : Memory → Mem → Memory
back_on m part = record {
  work0 = back_in m.work0 part.work0;
  work1 = back_in m.work1 part.work1;
  checkpoint = back_in m.checkpoint part.checkpoint;
}

abbrev pub back_from : Memory → Played → Placed Memory
back_from m p = placed p.next (back_on m p.mem)

-- no call is made where a count is more than there is room for
unfoldable pub called_at : List ℕ → Inputs → (calls : List ℕ) → Placed Memory → Placed Memory
called_at line inputs calls p =
    cond (memory_fits p.kept) (back_from p.kept (calls_at line inputs calls (played p.next (lent_on p.kept)))) (placed nowhere p.kept)

-- the calls, and after them the memory that they must leave; '=' there is the memory before them
unfoldable pub left_on : List ℕ → Memory → Placed Memory → Placed Memory
left_on line due p = left_at line (placed p.next due) p.kept

unfoldable pub called_on : List ℕ → Inputs → Memory → Placed (Room ℕ 32) → Placed Memory
called_on line inputs m calls = left_on line m (called_at line inputs (given calls.kept) (placed calls.next m))

unfoldable pub asked_at : List ℕ → Inputs → Placed Memory → Placed Memory
asked_at line inputs p = called_on line inputs p.kept (room_at (u64_at line) line p.next (no_numbers 32))

-- WORK0 WORK1 MARK CALLS: the calls' answers, WORK0 WORK1 MARK
abbrev pub played_at : List ℕ → Inputs → Placed Memory → Placed Memory
played_at line inputs p = asked_at line inputs (memory_at line p)

-- the lists of the layers, and those of the memory with the place
pub record Jobbed : Type 0 where
  pub lists : Lists
  pub work : Placed Memory

abbrev pub jobbed : Lists → Placed Memory → Jobbed
jobbed lists work = record { lists = lists; work = work }

unfoldable pub job_on : List ℕ → Shape → ℤ → Placed Lists → Memory → Jobbed
job_on line shape layers p m = jobbed p.kept (played_at line (inputs_by shape layers p.kept) (placed p.next m))

unfoldable pub job_with : List ℕ → Shape → Lists → Memory → Read ℤ → Jobbed
job_with line shape l m layers = job_on line shape layers.value (layers_at line (placed layers.next l)) m

unfoldable pub job_from : List ℕ → Shape → Placed Lists → Memory → Jobbed
job_from line shape p m = job_with line shape p.kept m (signed_at line p.next)

unfoldable pub job_by : List ℕ → Read Shape → Lists → Memory → Jobbed
job_by line shape l m = job_from line shape.value (dst_at line (placed shape.next l)) m

-- J width height channels DST layers TABLE ARGS SAMPLES, and the above
abbrev pub job_at : List ℕ → Lists → Memory → Jobbed
job_at line = job_by line (shape_at line)
