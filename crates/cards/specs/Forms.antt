-- The form of a card's line is a text with holes (document 02, A.2). Printing fills the holes, reading takes the cells out again. Definitions only.
use Rattle.std.specs.Prelude.{Option, Some, None, Bool, true, false, cond, not, ◌||◌, ◌&&◌, List, [], ◌∷◌, ◌++◌, ℕ, zero, suc, eqb, ℤ}
use Prim.Native.Char.{code}
use Rattle.layers.specs.Limits.{arg_words}
use Rattle.names.specs.Names.{bytes, entries, lookup}
use Rattle.numerals.specs.Numbers.{decimal_of, hex_of}
use Rattle.cards.specs.Cells.{Cell, name, number, arguments, spell, is_cell, name_hole, number_hole, arguments_hole}

-- each line is ended by byte 10
abbrev pub newline : ℕ
newline = 10

-- The two forms. N is a hole for a name, D for a number, A for the arguments; every other byte stands for itself. "(tray 1 2 1 3)" has edition 1, width,
-- height and channels; "(layer over (place 0 3 -2) (flags 62) (source 0 2 1 3) (args 3f000000))" the name, gravity and two offsets, flags, start, width, height
-- and channels, and the arguments.
unfoldable pub tray_form : List ℕ
tray_form = bytes "(tray 1 D D D)" ++ newline ∷ []

unfoldable pub layer_form : List ℕ
layer_form = bytes "(layer N (place D D D) (flags D) (source D D D D) (argsA))" ++ newline ∷ []

unfoldable pub is_hole : ℕ → Bool
is_hole c = eqb c name_hole || (eqb c number_hole || eqb c arguments_hole)

-- ---- printing

abbrev pub fill : (form : List ℕ) → List Cell → List ℕ
fill [] vs = []
fill (c ∷ cs) [] = c ∷ fill cs []
fill (c ∷ cs) (v ∷ vs) = cond (is_hole c) (spell v ++ fill cs vs) (c ∷ fill cs (v ∷ vs))

-- the cells that a form may be filled with
abbrev pub fits : (form : List ℕ) → List Cell → Bool
fits [] [] = true
fits [] (v ∷ vs) = false
fits (c ∷ cs) [] = not (is_hole c) && fits cs []
fits (c ∷ cs) (v ∷ vs) = cond (is_hole c) (is_cell c v && fits cs vs) (fits cs (v ∷ vs))

-- ---- reading

-- the cells, and what is left of the text
pub data Scan : Type 0 where
  bad : Scan
  scanned : List Cell → List ℕ → Scan

-- a word ends at a space, at a closing bracket, or with the text
unfoldable pub is_end : ℕ → Bool
is_end b = eqb b (code " ") || eqb b (code ")")

abbrev pub word_of : List ℕ → List ℕ
word_of [] = []
word_of (b ∷ s) = cond (is_end b) [] (b ∷ word_of s)

abbrev pub rest_of : List ℕ → List ℕ
rest_of [] = []
rest_of (b ∷ s) = cond (is_end b) (b ∷ s) (rest_of s)

-- a word as a name or as a number
abbrev pub named : List ℕ → Option ℕ → Option Cell
named w (Some n) = Some (name w)
named w None = None

abbrev pub numbered : Option ℤ → Option Cell
numbered (Some z) = Some (number z)
numbered None = None

unfoldable pub cell_of : (hole : ℕ) → List ℕ → Option Cell
cell_of c w = cond (eqb c name_hole) (named w (lookup w entries)) (numbered (decimal_of w))

abbrev pub held : Option Cell → List ℕ → Scan
held None s = bad
held (Some v) s = scanned (v ∷ []) s

unfoldable pub read_word : (hole : ℕ) → List ℕ → Scan
read_word c s = held (cell_of c (word_of s)) (rest_of s)

-- what stands where an argument may stand: none, or a word after a space, or a space and no word
pub data Argument : Type 0 where
  ended : Argument
  no_word : Argument
  word : ℕ → List ℕ → Argument

abbrev pub as_word : Option ℕ → List ℕ → Argument
as_word (Some w) s = word w s
as_word None s = no_word

unfoldable pub read_argument : List ℕ → Argument
read_argument [] = ended
read_argument (b ∷ s) = cond (eqb b (code " ")) (as_word (hex_of (word_of s)) (rest_of s)) ended

-- arguments, at most so many
pub data Words : Type 0 where
  no_words : Words
  words : List ℕ → List ℕ → Words

abbrev pub one_more_word : ℕ → Words → Words
one_more_word w no_words = no_words
one_more_word w (words ws s) = words (w ∷ ws) s

abbrev pub after_argument : Argument → List ℕ → (List ℕ → Words) → Words
after_argument ended s f = words [] s
after_argument no_word s f = no_words
after_argument (word w t) s f = one_more_word w (f t)

abbrev pub read_words : ℕ → List ℕ → Words
read_words zero s = words [] s
read_words (suc m) s = after_argument (read_argument s) s (read_words m)

abbrev pub as_arguments : Words → Scan
as_arguments no_words = bad
as_arguments (words ws s) = scanned (arguments ws ∷ []) s

-- a byte that the form names
abbrev pub read_byte : ℕ → List ℕ → Scan
read_byte c [] = bad
read_byte c (b ∷ s) = cond (eqb b c) (scanned [] s) bad

-- one byte of a form
unfoldable pub read_one : ℕ → List ℕ → Scan
read_one c s =
    cond (eqb c name_hole || eqb c number_hole) (read_word c s)
    (cond (eqb c arguments_hole) (as_arguments (read_words arg_words s)) (read_byte c s))

abbrev pub also : List Cell → Scan → Scan
also vs bad = bad
also vs (scanned ws s) = scanned (vs ++ ws) s

abbrev pub and_then : Scan → (List ℕ → Scan) → Scan
and_then bad f = bad
and_then (scanned vs s) f = also vs (f s)

abbrev pub read_form : (form : List ℕ) → List ℕ → Scan
read_form [] s = scanned [] s
read_form (c ∷ cs) s = and_then (read_one c s) (read_form cs)
