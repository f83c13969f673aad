-- The literals of composite.rs and deep.rs by their names, and W3C's. 0, 1, 2 and 0.5 stand in Notation. Where the Rust writes an expression, as 1.0 / 3.0, the
-- definition has that expression and no literal. `literals` proves of each that its bits are those of the f32 nearest to the number as it is written.
use Rattle.std.specs.Prelude.{ℕ, Bool, true, ◌&&◌, T, List, [], ◌∷◌, pos, ◌==◌, nat_lt, Float}
use Rattle.std.specs.Float.{binary32}
use Rattle.std.specs.Float.Ieee.{of_int, of_bits, to_bits, div}
use Rattle.float_steps.specs.Notation.{◌⊘◌, lit, f0, f1, f2, half}

-- 3.0, 4.0, 6.0, 12.0, 16.0, 20.0, 50.0, 100.0, 255.0
abbrev pub f3 : Float
f3 = lit 0x4040_0000

abbrev pub f4 : Float
f4 = lit 0x4080_0000

abbrev pub f6 : Float
f6 = lit 0x40c0_0000

abbrev pub f12 : Float
f12 = lit 0x4140_0000

abbrev pub f16 : Float
f16 = lit 0x4180_0000

abbrev pub f20 : Float
f20 = lit 0x41a0_0000

abbrev pub f50 : Float
f50 = lit 0x4248_0000

abbrev pub f100 : Float
f100 = lit 0x42c8_0000

abbrev pub f255 : Float
f255 = lit 0x437f_0000

-- 0.25, 0.05, 1e-6
abbrev pub quarter : Float
quarter = lit 0x3e80_0000

abbrev pub twentieth : Float
twentieth = lit 0x3d4c_cccd

abbrev pub millionth : Float
millionth = lit 0x3586_37bd

-- the weights of `intensity` (composite.rs 902 to 904) and, by document 02, of the gray: 0.212656, 0.715158, 0.072186
abbrev pub intensity_red : Float
intensity_red = lit 0x3e59_c27f

abbrev pub intensity_green : Float
intensity_green = lit 0x3f37_1498

abbrev pub intensity_blue : Float
intensity_blue = lit 0x3d93_d641

-- the weights of W3C's Lum: 0.3, 0.59, 0.11
abbrev pub lum_red : Float
lum_red = lit 0x3e99_999a

abbrev pub lum_green : Float
lum_green = lit 0x3f17_0a3d

abbrev pub lum_blue : Float
lum_blue = lit 0x3de1_47ae

-- ---- the table: a literal and what it is written as, n / d
pub record Literal : Type 0 where
  pub value : Float
  pub n : ℕ
  pub d : ℕ

abbrev pub decimal : Float → (n d : ℕ) → Literal
decimal value n d = record { value = value; n = n; d = d }

-- n and d are below 2^24, so that both are f32s, and their quotient, rounded once, is the f32 nearest to n / d
abbrev pub is_nearest : Literal → Bool
is_nearest l =
    nat_lt l.n 0x100_0000 && nat_lt l.d 0x100_0000
    && to_bits binary32 l.value == to_bits binary32 (of_int binary32 (pos l.n) ⊘ of_int binary32 (pos l.d))

abbrev pub all_nearest : List Literal → Bool
all_nearest [] = true
all_nearest (l ∷ ls) = is_nearest l && all_nearest ls

abbrev pub table : List Literal
table =
    decimal f0 0 1
    ∷ decimal f1 1 1
    ∷ decimal f2 2 1
    ∷ decimal half 5 10
    ∷ decimal f3 3 1
    ∷ decimal f4 4 1
    ∷ decimal f6 6 1
    ∷ decimal f12 12 1
    ∷ decimal f16 16 1
    ∷ decimal f20 20 1
    ∷ decimal f50 50 1
    ∷ decimal f100 100 1
    ∷ decimal f255 255 1
    ∷ decimal quarter 25 100
    ∷ decimal twentieth 5 100
    ∷ decimal millionth 1 1000000
    ∷ decimal intensity_red 212656 1000000
    ∷ decimal intensity_green 715158 1000000
    ∷ decimal intensity_blue 72186 1000000
    ∷ decimal lum_red 3 10
    ∷ decimal lum_green 59 100
    ∷ decimal lum_blue 11 100
    ∷ []

pub literals : T (all_nearest table)
unfolding of_bits to_bits of_int div
literals = tt
