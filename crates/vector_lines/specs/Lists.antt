-- What a list of a line means: its numbers, one after the other, from a place on.
use Rattle.std.specs.Prelude.{Bool, cond, List, ℕ, zero, suc, ℤ, length, set}
use Rattle.vector_lines.specs.declared.numbers.Read.{Read}
use Rattle.vector_lines.specs.Numbers.{nowhere, u8_at, u32_at, u64_at, signed_at, head_at, count_at}

-- the place after i numbers, each of which is read at the place after the one before it
unfoldable pub place_of : {A : Type 0} → (ℕ → Read A) → ℕ → ℕ → ℕ
place_of read from zero = from
place_of read from (suc i) = (read (place_of read from i)).next

-- a list whose first i elements are these numbers
unfoldable pub filled : {A : Type 0} → (ℕ → Read A) → ℕ → List A → ℕ → List A
filled read from list zero = list
filled read from list (suc i) = set (filled read from list i) i (read (place_of read from i)).value

-- a list that was read, its count, and the place after it
pub record Listed (A : Type 0) : Type 0 where
  pub list : List A
  pub count : ℕ
  pub next : ℕ

abbrev pub listed : {A : Type 0} → List A → ℕ → ℕ → Listed A
listed list count next = record { list = list; count = count; next = next }

-- a list that is read at a place over what it had: the numbers that follow its head
unfoldable pub list_by : {A : Type 0} → (ℕ → Read A) → List ℕ → ℕ → List A → ℕ → Listed A
list_by read line at list count =
    listed
    (filled read (head_at (length list) line at).next list (head_at (length list) line at).value)
    (count_at (length list) line at count)
    (place_of read (head_at (length list) line at).next (head_at (length list) line at).value)

-- lists of bytes, of 32-bit words, of 64-bit numbers and of signed numbers
abbrev pub bytes_at : List ℕ → ℕ → List ℕ → ℕ → Listed ℕ
bytes_at line = list_by (u8_at line) line

abbrev pub words_at : List ℕ → ℕ → List ℕ → ℕ → Listed ℕ
words_at line = list_by (u32_at line) line

abbrev pub longs_at : List ℕ → ℕ → List ℕ → ℕ → Listed ℕ
longs_at line = list_by (u64_at line) line

abbrev pub integers_at : List ℕ → ℕ → List ℤ → ℕ → Listed ℤ
integers_at line = list_by (signed_at line) line

-- the next place after what was compared, if it is the same
unfoldable pub if_same : Bool → ℕ → ℕ
if_same is_same next = cond is_same next nowhere
