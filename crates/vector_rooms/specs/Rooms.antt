-- The lists that lines share (oracle/README.md): each is read over what it was, and a list's numbers are the first `count` items of its room. Definitions only.
use Rattle.std.specs.Prelude.{Bool, ◌&&◌, List, ℕ, eqb, leb, ℤ, pos, length, take, replicate}
use Rattle.std.specs.Cmp.Lexicographic.{pointwise}
use Rattle.vector_lines.specs.declared.numbers.Read.{Read}
use Rattle.vector_lines.specs.Numbers.{u32_at, u64_at, signed_at}
use Rattle.vector_lines.specs.Lists.{Listed, list_by, if_same}
use Rattle.pictures.specs.declared.Shape.{Shape}
use Rattle.pictures.specs.Shapes as Shapes
use Rattle.layers.specs.Inputs.{Inputs, inputs_of}
use Rattle.vector_rooms.specs.declared.Room.{Room}
use Rattle.vector_rooms.specs.declared.Lists.{Lists}
use Rattle.vector_rooms.specs.declared.Asked.{Asked}
use Rattle.vector_rooms.specs.declared.Memory.{Memory}
use Rattle.vector_rooms.specs.declared.Rooms.{Rooms}

-- a place in a line, and what is kept when it is reached
pub record Placed (K : Type 0) : Type 0 where
  pub next : ℕ
  pub kept : K

abbrev pub placed : {K : Type 0} → ℕ → K → Placed K
placed next kept = record { next = next; kept = kept }

-- ---- one list

abbrev pub room_of : {A : Type 0} {n : ℕ} → List A → ℕ → Room A n
room_of items count = record { items = items; count = count }

-- the numbers of a list
abbrev pub given : {A : Type 0} {n : ℕ} → Room A n → List A
given r = take r.count r.items

-- the count is no more than there is room for
abbrev pub fits : {A : Type 0} {n : ℕ} → Room A n → Bool
fits r = leb r.count (length r.items)

abbrev pub room_by : {A : Type 0} {n : ℕ} → Listed A → Placed (Room A n)
room_by l = placed l.next (room_of l.list l.count)

-- a list that is read at a place over what it was
abbrev pub room_at : {A : Type 0} {n : ℕ} → (ℕ → Read A) → List ℕ → ℕ → Room A n → Placed (Room A n)
room_at read line at r = room_by (list_by read line at r.items r.count)

-- whether two lists have the same room and count, by a test of two elements
abbrev pub same_room : {A : Type 0} {n : ℕ} → (A → A → Bool) → (a b : Room A n) → Bool
same_room test a b = pointwise test a.items b.items && eqb a.count b.count

-- ---- width height channels

abbrev pub shaped_of : (width height channels : Read ℤ) → Read Shape
shaped_of width height channels = record { value = Shapes.shape_of width.value height.value channels.value; next = channels.next }

unfoldable pub channels_at : List ℕ → (width height : Read ℤ) → Read Shape
channels_at line width height = shaped_of width height (signed_at line height.next)

unfoldable pub height_at : List ℕ → (width : Read ℤ) → Read Shape
height_at line width = channels_at line width (signed_at line width.next)

abbrev pub shape_at : List ℕ → Read Shape
shape_at line = height_at line (signed_at line 1)

-- ---- DST, TABLE ARGS SAMPLES

abbrev pub with_dst : Lists → Placed (Room ℕ 256) → Placed Lists
with_dst l r = placed r.next (record { dst = r.kept; table = l.table; args = l.args; samples = l.samples })

abbrev pub with_table : Lists → Placed (Room ℤ 320) → Placed Lists
with_table l r = placed r.next (record { dst = l.dst; table = r.kept; args = l.args; samples = l.samples })

abbrev pub with_args : Lists → Placed (Room ℕ 128) → Placed Lists
with_args l r = placed r.next (record { dst = l.dst; table = l.table; args = r.kept; samples = l.samples })

abbrev pub with_samples : Lists → Placed (Room ℕ 2048) → Placed Lists
with_samples l r = placed r.next (record { dst = l.dst; table = l.table; args = l.args; samples = r.kept })

unfoldable pub dst_at : List ℕ → Placed Lists → Placed Lists
dst_at line p = with_dst p.kept (room_at (u32_at line) line p.next p.kept.dst)

unfoldable pub table_at : List ℕ → Placed Lists → Placed Lists
table_at line p = with_table p.kept (room_at (signed_at line) line p.next p.kept.table)

unfoldable pub args_at : List ℕ → Placed Lists → Placed Lists
args_at line p = with_args p.kept (room_at (u32_at line) line p.next p.kept.args)

unfoldable pub samples_at : List ℕ → Placed Lists → Placed Lists
samples_at line p = with_samples p.kept (room_at (u32_at line) line p.next p.kept.samples)

abbrev pub layers_at : List ℕ → Placed Lists → Placed Lists
layers_at line p = samples_at line (args_at line (table_at line p))

-- the inputs that the lists have, with a shape and a count of layers; and those that a function is lent
abbrev pub inputs_by : Shape → ℤ → Lists → Inputs
inputs_by shape layers l = inputs_of shape (given l.dst) layers (given l.table) (given l.args) (given l.samples)

abbrev pub inputs_in : Asked → Inputs
inputs_in a = inputs_of a.shape a.dst.now a.layers a.table.now a.args.now a.samples.now

-- the same for one layer
abbrev pub single_in : Asked → Inputs
single_in a = inputs_of a.shape a.dst.now (pos 1) a.table.now a.args.now a.samples.now

-- ---- WORK0 WORK1 MARK

abbrev pub memory_fits : Memory → Bool
memory_fits m = fits m.work0 && (fits m.work1 && fits m.checkpoint)

abbrev pub with_work0 : Memory → Placed (Room ℕ 256) → Placed Memory
with_work0 m r = placed r.next (record { work0 = r.kept; work1 = m.work1; checkpoint = m.checkpoint })

abbrev pub with_work1 : Memory → Placed (Room ℕ 256) → Placed Memory
with_work1 m r = placed r.next (record { work0 = m.work0; work1 = r.kept; checkpoint = m.checkpoint })

abbrev pub with_checkpoint : Memory → Placed (Room ℕ 4) → Placed Memory
with_checkpoint m r = placed r.next (record { work0 = m.work0; work1 = m.work1; checkpoint = r.kept })

unfoldable pub work0_at : List ℕ → Placed Memory → Placed Memory
work0_at line p = with_work0 p.kept (room_at (u32_at line) line p.next p.kept.work0)

unfoldable pub work1_at : List ℕ → Placed Memory → Placed Memory
work1_at line p = with_work1 p.kept (room_at (u32_at line) line p.next p.kept.work1)

unfoldable pub checkpoint_at : List ℕ → Placed Memory → Placed Memory
checkpoint_at line p = with_checkpoint p.kept (room_at (u64_at line) line p.next p.kept.checkpoint)

abbrev pub memory_at : List ℕ → Placed Memory → Placed Memory
memory_at line p = checkpoint_at line (work1_at line (work0_at line p))

-- the memory that must be left, once it is read: its place, if it is what the calls left, as many numbers and the same; and the memory, which is kept for
-- the next line
abbrev pub same_memory : (a b : Memory) → Bool
same_memory a b = same_room eqb a.work0 b.work0 && (same_room eqb a.work1 b.work1 && same_room eqb a.checkpoint b.checkpoint)

unfoldable pub left_by : (memory : Memory) → (due : Placed Memory) → Placed Memory
left_by memory due = placed (if_same (same_memory due.kept memory) due.next) due.kept

abbrev pub left_at : List ℕ → Placed Memory → (memory : Memory) → Placed Memory
left_at line due memory = left_by memory (memory_at line due)

-- ---- before the first line

abbrev pub no_numbers : {n : ℕ} → ℕ → Room ℕ n
no_numbers room = room_of (replicate room 0) 0

abbrev pub nothing_kept : Rooms
nothing_kept = record {
  lists = record { dst = no_numbers 256; table = room_of (replicate 320 (pos 0)) 0; args = no_numbers 128; samples = no_numbers 2048 };
  input = no_numbers 256;
  memory = record { work0 = no_numbers 256; work1 = no_numbers 256; checkpoint = no_numbers 4 };
}
