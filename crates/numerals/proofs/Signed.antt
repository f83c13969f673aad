-- A number of at most ten digits with a sign: it fits 64 bits, as does what is below 0 by it, and its bits are read back as the number. A word fits 32 bits.
use mathlib.Core.Path.{◌≡◌, refl, sym, ap, ◌∙◌}
use mathlib.Core.List.{List}
use Prim.Native.Nat.{ℕ, zero, suc, ◌+◌, ◌-◌, ◌<◌, ◌≤◌, ◌^◌}
use native.Mathlib.Nat.{pow-le-pow_right}
use native.Mathlib.Omega.{arith}
use lib.ListN.{length}
use lib.IntN.{pos, negsuc, ◌-ℤ◌}
use mir.Facts.{to_z-of_z}
use mir.Syntax.{w32, w64}
use mir.Val.{Fits, SFits, to_z, of_z}
use Rattle.numerals.specs.Digits.{number_in}
use Rattle.numerals.specs.Numbers.{unsigned_of, plus, minus}
use Rattle.std.specs.Prelude.{Some}
use Rattle.std.proofs.lemmas.Int.{ints}
use Rattle.numerals.proofs.Numbers.{number_back, value_most, unsigned_back}

module _ (s : List ℕ) (n : ℕ) (read : Some n ≡ unsigned_of s) where
  small : n < 10 ^ 10
  small = (unsigned_back s n (sym read)).1

  pub same_fits : SFits w64 (pos n)
  same_fits = let h = small in record { sfits = omega arith }

  pub same_bits : Some (to_z w64 n) ≡ plus (unsigned_of s)
  same_bits = let h = small in ap Some (omega (arith, ints)) ∙ ap plus read

  module _ (some : n ≡ 0 → ⊥) where
    below : pos 0 -ℤ to_z w64 n ≡ negsuc (n - 1)
    below = let h = small in omega (arith, ints)

    pub below_fits : SFits w64 (pos 0 -ℤ to_z w64 n)
    below_fits = let h = small in rw below (record { sfits = omega arith })

    amount : (n : ℕ) → (n ≡ 0 → ⊥) → minus (Some n) ≡ Some (negsuc (n - 1))
    amount zero h = absurd (h refl)
    amount (suc n) h = let q : suc n - 1 ≡ n = omega arith in rw q

    pub below_bits : Some (to_z w64 (of_z w64 (pos 0 -ℤ to_z w64 n))) ≡ minus (unsigned_of s)
    below_bits = ap Some (to_z-of_z below_fits ∙ below) ∙ (sym (amount n some) ∙ ap minus read)

pub word_fits : (s : List ℕ) (w : ℕ) → length s ≤ 8 → Some w ≡ number_in 16 s → Fits w32 w
word_fits s w h read =
    let q = number_back 16 s w (sym read) in
    let most : w < 16 ^ (0 + length s) = rw q.1 at (value_most 16 s 0 0 q.0 (omega arith)) in
    record { fits = omega (arith, pow-le-pow_right {n = 16} (omega arith) {i = 0 + length s} {j = 8} (omega arith)) }
