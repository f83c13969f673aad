-- Document 02's own lines: the card of a job of one layer, printed and read; another layer by the names of the columns; and two texts that are refused. Assumes
-- nothing.
use mathlib.Core.Path.{◌≡◌, refl}
use mathlib.Core.List.{List, [], ◌∷◌, ◌++◌}
use Prim.Native.Nat.{ℕ}
use lib.IntN.{pos, negsuc}
use Rattle.layers.specs.Cells.{cell_of}
use Rattle.layers.specs.Limits.{at_operator, at_gravity, at_right, at_down, at_flags, at_first, at_width, at_height, at_channels, at_count}
use Rattle.layers.specs.Limits.{at_left, at_top, at_window_width, at_window_height}
use Rattle.names.specs.Names.{bytes, entries}
use Rattle.numerals.specs.Digits.{digit_of, char_of, number_in}
use Rattle.numerals.specs.Numbers.{decimal_text, unsigned_of, decimal_of, hex_of}
use Rattle.cards.specs.Cells.{Cell, name, number, arguments}
use Rattle.cards.specs.Forms.{newline, tray_form, layer_form, is_hole, fill, is_end, read_word, read_argument, read_one}
use Rattle.cards.specs.Forms.{cell_of as cellIn}
use Rattle.cards.specs.Card.{Card, printed, bad_line, read, read_card}
use Rattle.cards.specs.Answers.{row_of, args_of}

tray_line : List ℕ
tray_line = bytes "(tray 1 2 1 3)" ++ newline ∷ []

layer_line : List ℕ
layer_line = bytes "(layer over (place 0 3 -2) (flags 62) (source 0 2 1 3) (args 3f000000))" ++ newline ∷ []

layer : List Cell
layer =
    name (bytes "over")
    ∷ number (pos 0) ∷ number (pos 3) ∷ number (negsuc 1)
    ∷ number (pos 62)
    ∷ number (pos 0) ∷ number (pos 2) ∷ number (pos 1) ∷ number (pos 3)
    ∷ arguments (0x3f000000 ∷ [])
    ∷ []

card : Card
card = record { tray = number (pos 2) ∷ number (pos 1) ∷ number (pos 3) ∷ []; layers = layer ∷ [] }

card_printed : printed card ≡ tray_line ++ layer_line
unfolding tray_line layer_line card layer tray_form layer_form is_hole decimal_text char_of
card_printed = refl

card_read : read_card (tray_line ++ layer_line) ≡ read card
unfolding tray_line layer_line card layer read_card tray_form layer_form is_hole is_end read_one read_word cellIn read_argument entries decimal_of unsigned_of number_in digit_of hex_of
card_read = refl

-- its row and its words: Over is operator 0, the last of its numbers counts the arguments, and after them stands the window of edition 1
row : row_of layer
    ≡ pos 0 ∷ pos 0 ∷ pos 3 ∷ negsuc 1 ∷ pos 62 ∷ pos 0 ∷ pos 2 ∷ pos 1 ∷ pos 3 ∷ pos 1 ∷ pos 0 ∷ pos 0 ∷ pos 2048 ∷ pos 2048 ∷ []
unfolding layer entries
row = refl

words : args_of (layer ∷ []) ≡ 0x3f000000 ∷ 0 ∷ 0 ∷ 0 ∷ []
unfolding layer
words = refl

-- a layer under an alias, each number another, and its row by the names of the columns
other : List Cell
other =
    name (bytes "copyopacity")
    ∷ number (pos 1) ∷ number (pos 2) ∷ number (pos 3)
    ∷ number (pos 4)
    ∷ number (pos 5) ∷ number (pos 6) ∷ number (pos 7) ∷ number (pos 8)
    ∷ arguments (0x7fc00001 ∷ 9 ∷ [])
    ∷ []

other_printed : fill layer_form other ≡ bytes "(layer copyopacity (place 1 2 3) (flags 4) (source 5 6 7 8) (args 7fc00001 00000009))" ++ newline ∷ []
unfolding other layer_form is_hole decimal_text char_of
other_printed = refl

other_row :
    cell_of (row_of other) at_operator ∷ cell_of (row_of other) at_gravity ∷ cell_of (row_of other) at_right ∷ cell_of (row_of other) at_down
    ∷ cell_of (row_of other) at_flags ∷ cell_of (row_of other) at_first ∷ cell_of (row_of other) at_width ∷ cell_of (row_of other) at_height
    ∷ cell_of (row_of other) at_channels ∷ cell_of (row_of other) at_count
    ∷ cell_of (row_of other) at_left ∷ cell_of (row_of other) at_top ∷ cell_of (row_of other) at_window_width ∷ cell_of (row_of other) at_window_height ∷ []
    ≡ pos 57 ∷ pos 1 ∷ pos 2 ∷ pos 3 ∷ pos 4 ∷ pos 5 ∷ pos 6 ∷ pos 7 ∷ pos 8 ∷ pos 2 ∷ pos 0 ∷ pos 0 ∷ pos 2048 ∷ pos 2048 ∷ []
unfolding other entries
other_row = refl

other_words : args_of (layer ∷ other ∷ []) ≡ 0x3f000000 ∷ 0 ∷ 0 ∷ 0 ∷ 0x7fc00001 ∷ 9 ∷ 0 ∷ 0 ∷ []
unfolding layer other
other_words = refl

-- a leading zero in the third line, and a last line without its end
leading_zero : read_card (tray_line ++ layer_line ++ bytes "(layer over (place 0 3 02) (flags 62) (source 0 2 1 3) (args))" ++ newline ∷ []) ≡ bad_line 3
unfolding tray_line layer_line read_card tray_form layer_form is_hole is_end read_one read_word cellIn read_argument entries decimal_of unsigned_of number_in digit_of hex_of
leading_zero = refl

no_end : read_card (tray_line ++ bytes "(layer over (place 0 3 2) (flags 62) (source 0 2 1 3) (args))") ≡ bad_line 2
unfolding tray_line read_card tray_form layer_form is_hole is_end read_one read_word cellIn read_argument entries decimal_of unsigned_of number_in digit_of hex_of
no_end = refl
