-- Laws on the calls of a job, one after the other, and on what a line of a job says of them. Assumes nothing.
use mathlib.Core.Path.{◌≡◌, sym, ap, ◌∙◌}
use mathlib.Core.Bool.{Bool, true, false}
use mathlib.Core.List.{List, [], ◌∷◌}
use Prim.Native.Nat.{ℕ, ◌-◌, ◌<◌, ◌≤◌}
use native.Mathlib.Omega.{arith}
use mir.Facts.{to_z-of_z}
use mir.Syntax.{w64}
use mir.Val.{SFits, to_z, of_z}
use lib.IntN.{ℤ}
use lib.ListN.{length, get_or, take, drop}
use lib.Seq.{take-length}
use Rattle.vector_lines.specs.declared.numbers.Read.{Read}
use Rattle.vector_lines.specs.Numbers.{nowhere, expected_at, u32_at, u64_at, signed_at}
use Rattle.vector_rooms.specs.declared.Room.{Room}
use Rattle.vector_rooms.specs.declared.Lists.{Lists}
use Rattle.vector_rooms.specs.declared.Memory.{Memory}
use Rattle.vector_rooms.specs.Rooms.{Placed, placed, given, room_at, no_numbers, with_dst, dst_at, layers_at, shape_at, inputs_by}
use Rattle.vector_rooms.specs.Rooms.{memory_fits, memory_at, left_at}
use Rattle.pictures.specs.Shapes.{shape_of}
use Rattle.pictures.specs.declared.Shape.{Shape}
use Rattle.layers.specs.Inputs.{Inputs, inputs_of}
use Rattle.job.specs.Memory.{Mem, position_of}
use Rattle.job.specs.Call.{call_of}
use Rattle.tray.specs.Answers.{HostOutcome, host_outcome, job_outcome}
use Rattle.vector_jobs.specs.Jobs.{Played, played, outcome_at, call_at, calls_at, lent_on, back_from, called_at}
use Rattle.vector_jobs.specs.Jobs.{left_on, called_on, asked_at, played_at, jobbed, job_on, job_with, job_from, job_by, job_at}

-- the inputs of a call, with each number as it is read back from its bits
abbrev bits : Inputs → Inputs
bits i =
    inputs_of
    (shape_of (to_z w64 (of_z w64 i.shape.width)) (to_z w64 (of_z w64 i.shape.height)) (to_z w64 (of_z w64 i.shape.channels)))
    i.dst (to_z w64 (of_z w64 i.count))
    i.table i.args i.samples

-- ---- one call

-- the five numbers of an answer, each at the place after the one before it
outcome_read : (line : List ℕ) (at : ℕ) (m : Mem) (due : HostOutcome) {n l s f p r1 r2 r3 r4 r5 : ℕ} → host_outcome m n l s f ≡ due
    → r1 ≡ expected_at line at n → r2 ≡ expected_at line r1 l → r3 ≡ expected_at line r2 s → r4 ≡ expected_at line r3 f
    → p ≡ position_of m → r5 ≡ expected_at line r4 p → played r5 m ≡ outcome_at line at due
unfolding outcome_at
outcome_read line at m due told e1 e2 e3 e4 e e5 = rw (e5, e, e4, e3, e2, e1) (ap (λ (o : HostOutcome). outcome_at line at o) told)

pub call_answered : (line : List ℕ) (at job allowance : ℕ) (i : Inputs) (m : Mem) {got : Mem} {n l s f p r1 r2 r3 r4 r5 : ℕ}
    → SFits w64 i.shape.width → SFits w64 i.shape.height → SFits w64 i.shape.channels → SFits w64 i.count
    → host_outcome got n l s f ≡ job_outcome (call_of (bits i) job allowance m) → r1 ≡ expected_at line at n → r2 ≡ expected_at line r1 l
    → r3 ≡ expected_at line r2 s → r4 ≡ expected_at line r3 f → p ≡ position_of got → r5 ≡ expected_at line r4 p
    → played r5 got ≡ call_at line i job allowance (played at m)
call_answered line at job allowance i m {got} fw fh fc fl told =
    outcome_read line at got (job_outcome (call_of i job allowance m)) (rw (to_z-of_z fw, to_z-of_z fh, to_z-of_z fc, to_z-of_z fl) at told)

-- ---- the calls one after the other

-- the calls that are made: those that are left come to what all of them do
pub record Calling (line : List ℕ) (inputs : Inputs) (calls : List ℕ) (start : Played) (left : List ℕ) (now : Played) : Type 0 where
  pub rest : calls_at line inputs calls start ≡ calls_at line inputs left now

module _ {line calls left : List ℕ} {inputs : Inputs} {start now : Played} (s : Calling line inputs calls start left now) where
  pub one_made : {next : Played} → 2 ≤ length left → next ≡ call_at line inputs (get_or left 0 0) (get_or left 1 0) now
      → Calling line inputs calls start (take (length left - 2) (drop 2 left)) next
  unfolding calls_at
  one_made h e = go left h s.rest e
    where
      go : (left : List ℕ) {next : Played} → 2 ≤ length left → calls_at line inputs calls start ≡ calls_at line inputs left now
          → next ≡ call_at line inputs (get_or left 0 0) (get_or left 1 0) now
          → Calling line inputs calls start (take (length left - 2) (drop 2 left)) next
      go [] h r e = absurd (omega arith)
      go (job ∷ []) h r e = absurd (omega arith)
      go (job ∷ allowance ∷ rest) {next} h r e =
          let many : length (job ∷ allowance ∷ rest) - 2 ≡ length rest = omega arith in
          let all : take (length (job ∷ allowance ∷ rest) - 2) rest ≡ rest = ap (λ (n : ℕ). take n rest) many ∙ take-length rest in
          record { rest = r ∙ ap (λ (p : Played). calls_at line inputs rest p) (sym e) ∙ ap (λ (l : List ℕ). calls_at line inputs l next) (sym all) }

  pub all_made : length left ≡ 0 → now ≡ calls_at line inputs calls start
  unfolding calls_at
  all_made h = go left h s.rest
    where
      go : (left : List ℕ) → length left ≡ 0 → calls_at line inputs calls start ≡ calls_at line inputs left now → now ≡ calls_at line inputs calls start
      go [] h r = sym r
      go (job ∷ rest) h r = absurd (omega arith)

  pub one_left : 0 < length left → length left < 2 → played nowhere now.mem ≡ calls_at line inputs calls start
  unfolding calls_at
  one_left some few = go left some few s.rest
    where
      go : (left : List ℕ) → 0 < length left → length left < 2 → calls_at line inputs calls start ≡ calls_at line inputs left now
          → played nowhere now.mem ≡ calls_at line inputs calls start
      go [] some few r = absurd (omega arith)
      go (job ∷ []) some few r = sym r
      go (job ∷ allowance ∷ rest) some few r = absurd (omega arith)

-- ---- a line of a job

-- the calls on the parts of the memory that are lent, or none where a count is more than there is room for
module _ (line : List ℕ) (inputs : Inputs) (calls : List ℕ) (at : ℕ) (m : Memory) {t : Bool} (test : t ≡ memory_fits m) where
  pub no_room : t ≡ false → placed nowhere m ≡ called_at line inputs calls (placed at m)
  unfolding called_at
  no_room e = rw (← test, e)

  pub parts_called : {q : Played} → t ≡ true → q ≡ calls_at line inputs calls (played at (lent_on m))
      → back_from m q ≡ called_at line inputs calls (placed at m)
  unfolding called_at
  parts_called e is = rw (← test, e, is)

-- the memory, the numbers of the calls, the calls and what they must leave, one after the other
pub played_read : (line : List ℕ) (inputs : Inputs) (s : Placed Memory) {m out : Memory} {list : Room ℕ 32} {calls : List ℕ} {p q r place : ℕ}
    → placed p m ≡ memory_at line s → placed q list ≡ room_at (u64_at line) line p (no_numbers 32) → calls ≡ given list
    → placed r out ≡ called_at line inputs calls (placed q m) → {left : Memory} → placed place left ≡ left_at line (placed r m) out
    → placed place left ≡ played_at line inputs s
unfolding asked_at called_on left_on
played_read line inputs s {m} e1 e2 e3 e4 e5 =
    e5
    ∙ ap (λ (p : Placed Memory). left_on line m p) (rw e3 at e4)
    ∙ ap (λ (r : Placed (Room ℕ 32)). called_on line inputs m r) e2
    ∙ ap (λ (p : Placed Memory). asked_at line inputs p) e1

-- a job's lists, one after the other
pub job_read : (line : List ℕ) (l : Lists) (m : Memory) {shape : Read Shape} {d : Room ℕ 256} {n : Read ℤ} {kept : Lists} {i : Inputs}
    {p q place : ℕ} {left : Memory}
    → shape ≡ shape_at line → placed p d ≡ room_at (u32_at line) line shape.next l.dst → n ≡ signed_at line p
    → placed q kept ≡ layers_at line (placed n.next (with_dst l (placed p d)).kept)
    → i ≡ inputs_by shape.value n.value kept → placed place left ≡ played_at line i (placed q m)
    → jobbed kept (placed place left) ≡ job_at line l m
unfolding job_by job_from job_with job_on dst_at
job_read line l m {shape} {d} {n} {kept} e1 e2 e3 e4 e5 e6 =
    ap (λ (w : Placed Memory). jobbed kept w) (rw e5 at e6)
    ∙ ap (λ (p : Placed Lists). job_on line shape.value n.value p m) e4
    ∙ ap (λ (k : Read ℤ). job_with line shape.value (with_dst l (placed 0 d)).kept m k) e3
    ∙ ap (λ (r : Placed (Room ℕ 256)). job_from line shape.value (with_dst l r) m) e2
    ∙ ap (λ (s : Read Shape). job_by line s l m) e1
