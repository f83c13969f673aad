-- Printing and reading numbers undo one another: one law each way over the base, padded or not. Assumes nothing.
use mathlib.Core.Path.{◌≡◌, refl, ap, ◌∙◌}
use mathlib.Core.Bool.{Bool, true, false, ◌||◌}
use mathlib.Core.List.{List, [], ◌∷◌}
use mathlib.Core.Logic.{◌⊎◌, inl, inr, ⊎_elim}
use Prim.Native.Nat.{ℕ, zero, suc, ◌+◌, ◌*◌, ◌-◌, ◌/◌, ◌%◌, ◌^◌, ◌<◌, ◌≤◌}
use native.Mathlib.Nat.{mod-lt, div-add-mod', div-lt_iff_lt-mul, pow-zero, pow-suc, suc-mul, mul-add-div_right, mul-add-mod_self_right, div-eq_of_lt, mod-eq_of_lt, add-zero, zero-mul, zero-add}
use native.Mathlib.Omega.{arith}
use lib.Dec.{leb, ltb}
use lib.ListN.{length}
use borrow.Author.Tests.{ltb-true, ltb-false, leb-false, lt-ltb, le-ltb, le-leb}
use Rattle.numerals.proofs.Bools.{split, and_true, or_false}
use Rattle.numerals.specs.Digits.{digit_of, char_of, value_from, are_digits, digits_from}

-- a digit and its byte
char_low : (d : ℕ) → d < 10 → char_of d ≡ 48 + d
unfolding char_of
char_low d h = rw (lt-ltb d 10 h)

char_high : (d : ℕ) → 10 ≤ d → char_of d ≡ 87 + d
unfolding char_of
char_high d h = rw (le-ltb d 10 h)

digit_low : (b : ℕ) → 48 ≤ b → b ≤ 57 → digit_of b ≡ b - 48
unfolding digit_of
digit_low b h g = rw (le-ltb b 48 h, lt-ltb b 58 (omega arith))

digit_high : (b : ℕ) → 97 ≤ b → b ≤ 102 → digit_of b ≡ b - 87
unfolding digit_of
digit_high b h g = rw (le-ltb b 48 (omega arith), le-ltb b 58 (omega arith), le-ltb b 97 h, lt-ltb b 103 (omega arith))

pub digit_char : (d : ℕ) → d < 16 → digit_of (char_of d) ≡ d
digit_char d h =
    split (ltb d 10)
    (λ e. let g = ltb-true _ _ e in rw (char_low d g, digit_low (48 + d) (omega arith) (omega arith)) (omega arith))
    (λ e. let g = ltb-false _ _ e in rw (char_high d g, digit_high (87 + d) (omega arith) (omega arith)) (omega arith))

-- a byte that is a digit is one of the two runs
runs : (b : ℕ) → digit_of b < 16 → ((48 ≤ b) × (b ≤ 57)) ⊎ ((97 ≤ b) × (b ≤ 102))
unfolding digit_of
runs b h =
    split (ltb b 48) (λ e. absurd (omega (arith, rw e at h)))
    (λ e. split (ltb b 58) (λ f. let p = ltb-false b 48 e in let q = ltb-true b 58 f in inl (p, omega arith))
    (λ f. split (ltb b 97) (λ g. absurd (omega (arith, rw (e, f, g) at h)))
    (λ g. split (ltb b 103) (λ i. let p = ltb-false b 97 g in let q = ltb-true b 103 i in inr (p, omega arith))
    (λ i. absurd (omega (arith, rw (e, f, g, i) at h))))))

pub char_digit : (b : ℕ) → digit_of b < 16 → char_of (digit_of b) ≡ b
char_digit b h =
    ⊎_elim
    (λ p. rw (digit_low b p.0 p.1, char_low (b - 48) (omega arith)) (omega arith))
    (λ p. rw (digit_high b p.0 p.1, char_high (b - 87) (omega arith)) (omega arith))
    (runs b h)

module _ (padded : Bool) (base : ℕ) (based : 0 < base) (small : base ≤ 16) where
  -- what is read of a printed number goes on as the number itself
  pub read_printed : (k n : ℕ) (bs : List ℕ) → n < base ^ k → value_from base 0 (digits_from padded base k n bs) ≡ value_from base n bs
  read_printed zero n bs h = ap (λ (m : ℕ). value_from base m bs) (omega (arith, pow-zero base))
  read_printed (suc k) n bs h =
      split (padded || leb base n)
      (λ e. rw e
      (read_printed k (n / base) (char_of (n % base) ∷ bs) ((div-lt_iff_lt-mul based).1 (rw pow-suc at h))
      ∙ ap (λ (m : ℕ). value_from base m bs) (rw (digit_char (n % base) (omega (arith, mod-lt n based))) (div-add-mod' n base))))
      (λ e. rw e (ap (λ (m : ℕ). value_from base m bs) (rw (zero-mul, zero-add) (digit_char n (omega (arith, leb-false base n (or_false padded e)))))))

  -- a number that goes on is not the last digit to be printed
  goes_on : (n d : ℕ) → (padded || ltb 0 n) ≡ true → (padded || leb base (n * base + d)) ≡ true
  goes_on n d e = by padded e
    where
      some : (n : ℕ) → ltb 0 n ≡ true → base ≤ n * base + d
      some zero f = let z : 0 < 0 = ltb-true 0 0 f in absurd (omega arith)
      some (suc m) f = rw suc-mul (omega arith)

      by : (p : Bool) → (p || ltb 0 n) ≡ true → (p || leb base (n * base + d)) ≡ true
      by true f = refl
      by false f = le-leb base (n * base + d) (some n f)

  stays : (n d : ℕ) → (padded || ltb 0 n) ≡ true → (padded || ltb 0 (n * base + d)) ≡ true
  stays n d e = by padded e
    where
      some : (n : ℕ) → ltb 0 n ≡ true → 0 < n * base + d
      some zero f = let z : 0 < 0 = ltb-true 0 0 f in absurd (omega arith)
      some (suc m) f = rw suc-mul (omega arith)

      by : (p : Bool) → (p || ltb 0 n) ≡ true → (p || ltb 0 (n * base + d)) ≡ true
      by true f = refl
      by false f = lt-ltb 0 (n * base + d) (some n f)

  -- what is printed of a number read is the number so far, printed, and the digits
  pub printed_read : (bs : List ℕ) (k n : ℕ) → are_digits base bs ≡ true → (padded || ltb 0 n) ≡ true → digits_from padded base (k + length bs) (value_from base n bs) [] ≡ digits_from padded base k n bs
  printed_read [] k n h e = rw add-zero
  printed_read (b ∷ bs) k n h e =
      let p = and_true (ltb (digit_of b) base) (are_digits base bs) h in
      let d = ltb-true (digit_of b) base p.0 in
      let q : k + suc (length bs) ≡ suc k + length bs = omega arith in
      ap (λ (m : ℕ). digits_from padded base m (value_from base n (b ∷ bs)) []) q
      ∙ (printed_read bs (suc k) (n * base + digit_of b) p.1 (stays n (digit_of b) e)
      ∙ rw (goes_on n (digit_of b) e, mul-add-div_right based n (digit_of b), div-eq_of_lt d, add-zero, mul-add-mod_self_right n base (digit_of b), mod-eq_of_lt d, char_digit b (omega arith)))
