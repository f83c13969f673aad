-- Signs for the rounded operations on binary32, and literals. Document 01, "Float steps": one rounding per operation; no fused steps.
-- A definition written with them reads like the Rust, and its parentheses are the Rust's order of operations.
use Rattle.std.specs.Prelude.{ℕ, from_bits, Float}
use Rattle.std.specs.Float.{binary32}
use Rattle.std.specs.Float.Ieee.{add, sub, mul, div}

infixl 6 ◌⊕◌ ◌⊖◌
infixl 7 ◌⊗◌ ◌⊘◌
-- a + b, a - b, a * b, a / b, each rounded once
abbrev pub ◌⊕◌ : Float → Float → Float
a ⊕ b = add binary32 a b

abbrev pub ◌⊖◌ : Float → Float → Float
a ⊖ b = sub binary32 a b

abbrev pub ◌⊗◌ : Float → Float → Float
a ⊗ b = mul binary32 a b

abbrev pub ◌⊘◌ : Float → Float → Float
a ⊘ b = div binary32 a b

-- a literal, by its bits
abbrev pub lit : ℕ → Float
lit w = from_bits binary32 w

-- 0.0, 1.0, 2.0, 0.5
abbrev pub f0 : Float
f0 = lit 0

abbrev pub f1 : Float
f1 = lit 0x3f80_0000

abbrev pub f2 : Float
f2 = lit 0x4000_0000

abbrev pub half : Float
half = lit 0x3f00_0000
