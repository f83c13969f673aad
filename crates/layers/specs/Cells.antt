-- The rows of the layer table (document 01: sheet) and their numbers, and the words of a layer's arguments. Definitions only.
use Rattle.std.specs.Prelude.{List, ℕ, ◌*◌, ℤ, pos, get_or, take, drop}
use Rattle.layers.specs.Limits.{columns, arg_words}

-- row k of the layer table
abbrev pub row_at : List ℤ → ℕ → List ℤ
row_at table k = take columns (drop (k * columns) table)

-- the words of layer k's arguments
abbrev pub words_at : List ℕ → ℕ → List ℕ
words_at args k = take arg_words (drop (k * arg_words) args)

-- the number in a column of a row
abbrev pub cell_of : List ℤ → ℕ → ℤ
cell_of row column = get_or row column (pos 0)
