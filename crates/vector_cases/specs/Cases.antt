-- What each kind of line asks, and where its answer ends: `nowhere` where it is not what the library gives. Definitions only.
use Rattle.std.specs.Prelude.{Bool, cond, List, ℕ, eqb, ltb, ℤ, pos, length, take, replicate}
use Rattle.std.specs.Cmp.Lexicographic.{pointwise}
use Rattle.std.specs.Ordering.{int_eq}
use Rattle.vector_lines.specs.declared.numbers.Read.{Read}
use Rattle.vector_lines.specs.Numbers.{nowhere, number_at, u8_at, u32_at, u64_at, signed_at, expected_at, expected_signed_at}
use Rattle.vector_lines.specs.Lists.{Listed, list_by, if_same}
use Rattle.vector_rooms.specs.declared.Room.{Room}
use Rattle.vector_rooms.specs.declared.Lists.{Lists}
use Rattle.vector_rooms.specs.Rooms.{Placed, placed, given, room_at, no_numbers, shape_at, dst_at, layers_at, inputs_by}
use Rattle.pictures.specs.declared.Shape.{Shape}
use Rattle.names.specs.Names.{from_name}
use Rattle.narrowing.specs.Narrow.{Narrowed, narrow_of, narrow_bytes_of}
use Rattle.layers.specs.Inputs.{Inputs}
use Rattle.compose.specs.Single.{Composed, compose_of}
use Rattle.cards.specs.Answers.{Answer}
use Rattle.cards.specs.Answers.{Outcome, answer, read_of}
use Rattle.tray.specs.Answers.{NameAnswer, name_of}
use Rattle.vector_cases.specs.declared.CardAnswer.{CardAnswer}

-- ---- texts

-- what is answered to a text that was read, by the place after it and its bytes
unfoldable pub text_by : {n : ℕ} → (answered : ℕ → List ℕ → ℕ) → Placed (Room ℕ n) → ℕ
text_by answered p = answered p.next (given p.kept)

-- ---- names

-- number operator
abbrev pub named_at : List ℕ → ℕ → NameAnswer → ℕ
named_at line at a = expected_at line (expected_at line at a.number) a.operator

-- F NAME: number operator
abbrev pub name_at : List ℕ → ℕ
name_at line = text_by (λ at text. named_at line at (name_of (from_name text) 0)) (room_at {n = 128} (u8_at line) line 1 (no_numbers 128))

-- ---- outputs

-- the place after an output's list, if the output is that by a test of two elements
unfoldable pub listed_as : {A : Type 0} → (A → A → Bool) → List A → Listed A → ℕ
listed_as test out due = if_same (pointwise test (take due.count due.list) out) due.next

-- the place after an output, whose list is read over what it was before the call; '=' stands for one that is as it was
abbrev pub written_at : {A : Type 0} → (A → A → Bool) → (ℕ → Read A) → List ℕ → ℕ → (due out : List A) → ℕ
written_at test read line at due out = listed_as test out (list_by read line at due (length out))

-- an output of words and one of bytes, each of which is so before the call
abbrev pub words_written : List ℕ → ℕ → List ℕ → ℕ
words_written line at = written_at eqb (u32_at line) line at (replicate 256 2779096485)

abbrev pub bytes_written : List ℕ → ℕ → List ℕ → ℕ
bytes_written line at = written_at eqb (u8_at line) line at (replicate 256 165)

-- number OUT, of words and of bytes
abbrev pub words_after : List ℕ → ℕ → ℕ → List ℕ → ℕ
words_after line at number out = words_written line (expected_at line at number) out

abbrev pub bytes_after : List ℕ → ℕ → ℕ → List ℕ → ℕ
bytes_after line at number out = bytes_written line (expected_at line at number) out

-- ---- narrowings

unfoldable pub narrowed_at : List ℕ → ℕ → Narrowed → ℕ
narrowed_at line at n = words_after line at n.number n.output

unfoldable pub narrowed_bytes_at : List ℕ → ℕ → Narrowed → ℕ
narrowed_bytes_at line at n = bytes_after line at n.number n.output

-- the output that a line lends: so many elements, each a fill
abbrev pub lent_of : (fill count : ℕ) → List ℕ
lent_of fill count = take count (replicate 256 fill)

-- N and B, to words and to bytes, wanted INPUT length: number OUT. No output is longer than 256.
unfoldable pub narrowing_by : (to_bytes : Bool) → List ℕ → ℤ → List ℕ → Read ℕ → ℕ
narrowing_by to_bytes line wanted input length =
    cond (ltb 256 length.value) nowhere
    (cond to_bytes (narrowed_bytes_at line length.next (narrow_bytes_of wanted input (lent_of 165 length.value)))
    (narrowed_at line length.next (narrow_of wanted input (lent_of 2779096485 length.value))))

-- INPUT is kept
unfoldable pub narrowing_from : (to_bytes : Bool) → List ℕ → ℤ → Placed (Room ℕ 256) → Placed (Room ℕ 256)
narrowing_from to_bytes line wanted input =
    placed (narrowing_by to_bytes line wanted (given input.kept) (u64_at line input.next)) input.kept

unfoldable pub narrowing_after : (to_bytes : Bool) → List ℕ → (wanted : Read ℤ) → Room ℕ 256 → Placed (Room ℕ 256)
narrowing_after to_bytes line wanted input = narrowing_from to_bytes line wanted.value (room_at (u32_at line) line wanted.next input)

abbrev pub narrowing_at : (to_bytes : Bool) → List ℕ → Room ℕ 256 → Placed (Room ℕ 256)
narrowing_at to_bytes line = narrowing_after to_bytes line (signed_at line 1)

-- ---- compositions

unfoldable pub composed_at : List ℕ → ℕ → Composed → ℕ
composed_at line at c = words_after line at c.number c.output

-- length: number OUT
unfoldable pub composed_by : List ℕ → Inputs → (length : Read ℕ) → ℕ
composed_by line inputs length =
    cond (ltb 256 length.value) nowhere (composed_at line length.next (compose_of inputs (lent_of 2779096485 length.value)))

-- length: number OUT
unfoldable pub answered_at : List ℕ → Shape → Placed Lists → Placed Lists
answered_at line shape p = placed (composed_by line (inputs_by shape (pos 1) p.kept) (u64_at line p.next)) p.kept

unfoldable pub composition_by : List ℕ → Read Shape → Lists → Placed Lists
composition_by line shape l = answered_at line shape.value (layers_at line (dst_at line (placed shape.next l)))

-- C width height channels DST TABLE ARGS SAMPLES length: number OUT
abbrev pub composition_at : List ℕ → Lists → Placed Lists
composition_at line = composition_by line (shape_at line)

-- ---- cards

-- what each number of a table is before a card is read into it
abbrev pub table_fill : ℤ
table_fill = pos 2712756481427875237

-- TABLE, an output of signed numbers
abbrev pub table_written : List ℕ → ℕ → List ℤ → ℕ
table_written line at = written_at int_eq (signed_at line) line at (replicate 320 table_fill)

-- number line width height channels layers
abbrev pub answers_of : CardAnswer → Answer
answers_of a = answer a.number a.line a.width a.height a.channels a.layers

abbrev pub answers_at : List ℕ → ℕ → Answer → ℕ
answers_at line at a =
    expected_signed_at line
    (expected_signed_at line
    (expected_signed_at line (expected_signed_at line (expected_at line (expected_at line at a.number) a.line) a.width) a.height)
    a.channels)
    a.layers

-- number line width height channels layers TABLE ARGS: ARGS is an output of words
unfoldable pub read_at : List ℕ → ℕ → Outcome → ℕ
read_at line at o = words_written line (table_written line (answers_at line at o.answer) o.table) o.args

-- table args: how many numbers and words are lent, at most 320 and 128; then what is answered
unfoldable pub lent_to : List ℕ → (text : List ℕ) → (table args : Read ℕ) → ℕ
lent_to line text table args =
    read_at line args.next (read_of text (take table.value (replicate 320 table_fill)) (take args.value (replicate 128 2779096485)))

unfoldable pub lent_by : List ℕ → (text : List ℕ) → (table : Read ℕ) → ℕ
lent_by line text table = lent_to line text table (number_at 128 line table.next)

abbrev pub lent_at : List ℕ → ℕ → (text : List ℕ) → ℕ
lent_at line at text = lent_by line text (number_at 320 line at)

-- R TEXT table args: number line width height channels layers TABLE ARGS
abbrev pub card_at : List ℕ → ℕ
card_at line = text_by (lent_at line) (room_at {n = 2048} (u8_at line) line 1 (no_numbers 2048))
