-- Document 01, "Float steps": the square root is the nearest f32, ties to even; of a negative or NaN, NaN; of a zero or plus infinity, itself.
-- Its meaning is a comparison of whole-number squares: `WholeRoot` and `NearestRoot` of proofs/ say in plain words what `root_of` and `nearest_root` are.
use Rattle.std.specs.Prelude.{ℕ, zero, suc, ◌+◌, ◌-◌, ◌*◌, ◌/◌, ◌^◌, ◌<◌, ◌≤◌, false, cond, ◌==◌, nat_le, Float}
use Prim.Native.Nat.{compare}
use Rattle.std.specs.Float.{nan, inf, fin, binary32}
use Rattle.std.specs.Float.Ieee.{up, down, size, nearest, units}

-- r is the whole root of n: the largest number whose square is at most n
abbrev pub IsRoot : ℕ → ℕ → Type 0
IsRoot r n = (r * r ≤ n) × (n < (r + 1) * (r + 1))

-- r + 1 where its square is at most n, and r otherwise
abbrev pub grown : ℕ → ℕ → ℕ
grown n r = cond (nat_le ((r + 1) * (r + 1)) n) (r + 1) r

-- the whole root of an n of at most d binary digits: twice the root of n / 4, or one more
unfoldable pub root_by : ℕ → ℕ → ℕ
root_by zero n = 0
root_by (suc d) n = grown n (2 * root_by d (n / 4))

-- the whole root of n
unfoldable pub root_of : ℕ → ℕ
unfolding root_by
root_of n = root_by (size n) n

-- The f32 that is nearest to the root of n / 2 ^ 298, which is √n of the format's smallest values, each 2 ^ -149.
-- √n has half as many digits as n has, and the format keeps 24 of them and drops k. So the result is q or q + 1 times 2 ^ k smallest values,
-- by how n compares with the square of the number half way between them, (q + 1 / 2) * 2 ^ k; both sides are taken four times.
unfoldable pub nearest_root : ℕ → Float
unfolding root_of
nearest_root n =
    let k = (size n + 1) / 2 - 24 in
    let u = 2 ^ k * 2 ^ k in
    let q = root_of (n / u) in
    units binary32 false (nearest q (compare (4 * n) ((2 * q + 1) * (2 * q + 1) * u))) k

-- the value m * 2 ^ e is m * up e / down e
unfoldable pub sqrt_of : Float → Float
unfolding nearest_root
sqrt_of nan = nan
sqrt_of (inf s) = cond s nan (inf false)
sqrt_of (fin s m e) = cond (m == 0) (fin s m e) (cond s nan (nearest_root (m * up e * 2 ^ 298 / down e)))
