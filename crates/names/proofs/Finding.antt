-- One step of the code's search through the 83 names: at the k-th, whose bytes begin at `at` and are m, and with n of the first bytes of the key x counted.
-- Assumes nothing.
use mathlib.Core.Path.{◌≡◌}
use mathlib.Core.Bool.{true, false}
use mathlib.Core.List.{List}
use Prim.Native.Nat.{ℕ, ◌+◌, ◌<◌, ◌≤◌}
use native.Mathlib.Omega.{arith}
use lib.ListN.{length, get_or, take, drop}
use Rattle.names.specs.Names.{same}
use Rattle.names.specs.Packed.{letters, lengths, most_letters, total}
use Rattle.std.specs.Prelude.{Some}
use Rattle.names.proofs.EndToEnd.{letters_count, names_count, none_longer}
use Rattle.names.proofs.Packing.{search_from, as_long, not_as_long, found, next, other, within}

module _ (k m at : ℕ) (h : k < 83) (e : m ≡ get_or lengths k 0) (f : at + total (drop k lengths) ≤ length letters) where
  listed : k < length lengths
  listed = omega (arith, names_count)

  -- the name lies within the bytes
  pub fits_after : at + m + total (drop (k + 1) lengths) ≤ length letters
  fits_after = within lengths at k m (length letters) listed e f

  pub room : at + m < 18446744073709551616
  room = omega (arith, fits_after, letters_count)

  module _ (x : List ℕ) (n : ℕ) (g : n ≡ length (take (most_letters + 1) x)) where
    short : m ≤ most_letters
    short = omega (arith, none_longer k h)

    -- a name of as many bytes as were counted is as long as the key
    alike : m ≡ n → length x ≡ m
    alike q = as_long x m most_letters short (omega arith)

    pub reads_within : m ≡ n → at + length x ≤ length letters
    reads_within q = omega (arith, alike q, fits_after)

    pub this_one : m ≡ n → same x (take (length x) (drop at letters)) ≡ true → search_from x letters lengths at k ≡ Some k
    this_one q t = found x letters lengths at k m listed e (alike q) t

    pub not_this : m ≡ n → same x (take (length x) (drop at letters)) ≡ false → search_from x letters lengths at k ≡ search_from x letters lengths (at + m) (k + 1)
    not_this q t = next x letters lengths at k m listed e (alike q) t

    pub not_its_length : (m ≡ n → ⊥) → search_from x letters lengths at k ≡ search_from x letters lengths (at + m) (k + 1)
    not_its_length d =
        other x letters lengths at k m listed e (omega (arith, fits_after))
        (not_as_long x m most_letters short (λ q. d (omega arith)))
