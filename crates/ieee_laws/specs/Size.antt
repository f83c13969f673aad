-- What the laws say of a value's size and sign, and the numbers 1 and 2. Definitions only.
use Rattle.std.specs.Prelude.{Bool, true, false, not, ℕ, suc, ◌+◌, ◌*◌, ◌^◌, ◌≤◌, pos, T, ltb, Float}
use Rattle.std.specs.Float.{nan, inf, fin, Format}
use Rattle.std.specs.Float.Ieee.{emax, low, up, down}
use Rattle.std.specs.Float.Ieee.Exact.{HasValue}

abbrev pub one : Float
one = fin false 1 (pos 0)

abbrev pub two : Float
two = fin false 1 (pos 1)

-- a number of size at most N
abbrev pub AtMost : ℕ → Float → Type 0
AtMost N nan = ⊥
AtMost N (inf s) = ⊥
AtMost N (fin s m e) = m * up e ≤ N * down e

-- no NaN, and the sign is clear
abbrev pub Unsigned : Float → Type 0
Unsigned nan = ⊥
Unsigned (inf s) = T (not s)
Unsigned (fin s m e) = T (not s)

-- doubling does not carry a finite value past the format's largest one
abbrev pub doubles : Format → Float → Bool
doubles f nan = true
doubles f (inf s) = true
doubles f (fin s m e) = ltb (m * up e * 2) (2 ^ suc (emax f) * down e)

-- x and y are apart by at most half of u
abbrev pub Near : ℕ → ℕ → ℕ → Type 0
Near x y u = (x * 2 ≤ y * 2 + u) × (y * 2 ≤ x * 2 + u)

-- a number with a clear sign, n of the format's smallest values
abbrev pub Counts : Format → Float → ℕ → Type 0
Counts f x n = HasValue x false n (2 ^ low f)
