-- Document 01, "Float steps": a channel that comes out NaN is stored as bits 7FC00000 hexadecimal. Pictures are lent as words, the binary32 patterns;
-- a word's value is what the steps work on. `to_bits` of `lib.Ieee` gives a NaN just that pattern, and `of_bits` gives every NaN pattern the one NaN.
use Rattle.std.specs.Prelude.{ℕ, from_bits, to_bits, Float}
use Rattle.std.specs.Float.{binary32}

abbrev pub value_of : ℕ → Float
value_of w = from_bits binary32 w

abbrev pub word_of : Float → ℕ
word_of v = to_bits binary32 v
