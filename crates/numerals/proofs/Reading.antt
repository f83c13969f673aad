-- One step of reading digits, at place i of the text with the number n so far; and what each test of a number's reader says. Assumes nothing.
use mathlib.Core.Path.{◌≡◌, refl, ap, ◌∙◌}
use mathlib.Core.Bool.{cond, and-false}
use mathlib.Core.List.{List, [], ◌∷◌}
use Prim.Native.Nat.{ℕ, zero, suc, ◌+◌, ◌*◌, ◌-◌, ◌^◌, ◌<◌, ◌≤◌}
use native.Mathlib.Nat.{mul-le-mul_left, pow-suc, pow-le-pow_right}
use native.Mathlib.Numerals.{add-one}
use native.Mathlib.Omega.{arith}
use lib.Dec.{leb, ltb}
use lib.IntN.{ℤ, pos, negsuc, ◌-ℤ◌}
use lib.ListN.{length, get_or, take, drop}
use lib.Seq.{drop-cons, take_all}
use borrow.Author.Tests.{ltb-true, lt-ltb, le-leb, lt-leb, eq-eqb, ne_eqb}
use mir.Facts.{to_z_pos}
use mir.Syntax.{w64}
use mir.Val.{to_z}
use Rattle.numerals.proofs.Bools.{split}
use Rattle.numerals.specs.Digits.{digit_of, value_from, are_digits, number_in}
use Rattle.numerals.specs.Numbers.{unsigned_of, decimal_of, plus, minus}
use Rattle.std.specs.Prelude.{Option, Some, None}

-- what is left to read
abbrev pub left : ℕ → List ℕ → ℕ → ℕ → Option ℕ
left base s n i = cond (are_digits base (drop i s)) (Some (value_from base n (drop i s))) None

pub begun : (base : ℕ) (s : List ℕ) → number_in base s ≡ left base s 0 0
unfolding number_in
begun base s = refl

digit_is : (base x d : ℕ) → cond (ltb x base) (Some x) None ≡ Some d → (d < base) × (x ≡ d)
digit_is base x d e =
    split (ltb x base)
    (λ t. let f = rw t at e in let q : x ≡ d = cc in let g = ltb-true x base t in (omega arith, q))
    (λ t. let f = rw t at e in cc)

-- d is the digit at place i
module _ (base : ℕ) (s : List ℕ) (n i d : ℕ) (e : cond (ltb (digit_of (get_or s i 0)) base) (Some (digit_of (get_or s i 0))) None ≡ Some d) where
  pub taken : i < length s → left base s n i ≡ left base s (n * base + d) (i + 1)
  taken h = let p = digit_is base (digit_of (get_or s i 0)) d e in rw (add-one, ← p.1, drop-cons s i 0 h, lt-ltb (digit_of (get_or s i 0)) base (omega arith))

  -- the number grows by a digit
  pub grows : base ≤ 16 → n < 16 ^ i → n * base + d < 16 ^ (i + 1)
  grows b h =
      let p : 16 ^ (i + 1) ≡ 16 ^ i * 16 = rw (add-one, pow-suc) in
      omega (arith, mul-le-mul_left n b, (digit_is base (digit_of (get_or s i 0)) d e).0)

  -- .. and fits while there are ten digits at the most
  pub room : base ≤ 16 → i < 10 → n < 16 ^ i → n * base + d < 16 ^ 10
  room b g h = omega (arith, grows b h, pow-le-pow_right {n = 16} (omega arith) {i = i + 1} {j = 10} (omega arith))

-- the tests on a text that is to be a number
pub empty : (s : List ℕ) → length s < 1 → unsigned_of s ≡ None
unfolding unsigned_of
empty [] h = refl
empty (b ∷ s) h = absurd (omega arith)

pub zero_led : (s : List ℕ) → 2 ≤ length s → get_or s 0 0 ≡ 48 → unsigned_of s ≡ None
unfolding unsigned_of
zero_led [] h e = absurd (omega arith)
zero_led (b ∷ []) h e = absurd (omega arith)
zero_led (b ∷ c ∷ s) h e = rw (eq-eqb b 48 e, and-false (leb (length (b ∷ c ∷ s)) 10))

pub too_long : (s : List ℕ) → 10 < length s → unsigned_of s ≡ None
unfolding unsigned_of
too_long s h = rw (lt-leb (length s) 10 h)

pub led : (s : List ℕ) → 1 ≤ length s → length s ≤ 10 → (2 ≤ length s → get_or s 0 0 ≡ 48 → ⊥) → unsigned_of s ≡ number_in 10 s
unfolding unsigned_of
led [] g h e = absurd (omega arith)
led (b ∷ []) g h e = refl
led (b ∷ c ∷ s) g h e = rw (le-leb (length (b ∷ c ∷ s)) 10 h, ne_eqb b 48 (e (omega arith)))

-- what stands after a minus, and what is none
pub below_zero_lem : (s : List ℕ) → 1 ≤ length s → get_or s 0 0 ≡ 45 → decimal_of s ≡ minus (unsigned_of (take (length s - 1) (drop 1 s)))
unfolding decimal_of
below_zero_lem [] h e = absurd (omega arith)
below_zero_lem (b ∷ s) h e = rw (eq-eqb b 45 e, take_all (length (b ∷ s) - 1) s (omega arith))

pub from_zero : (s : List ℕ) → (1 ≤ length s → get_or s 0 0 ≡ 45 → ⊥) → decimal_of s ≡ plus (unsigned_of s)
unfolding decimal_of unsigned_of
from_zero [] e = refl
from_zero (b ∷ s) e = rw (ne_eqb b 45 (e (omega arith)))

less : (n : ℕ) → pos 0 -ℤ pos (suc n) ≡ negsuc n
less n =
    let q : suc n - 1 ≡ n = omega arith in
    rw (lt-ltb 0 (suc n) (omega arith)) (ap negsuc q)

-- what is below 0 by a number of 63 bits
pub below : (n : ℕ) → n < 0x8000_0000_0000_0000 → ((n ≡ 0) → ⊥) → pos 0 -ℤ to_z w64 n ≡ negsuc (n - 1)
below zero h g = absurd (g refl)
below (suc n) h g =
    let q : n ≡ suc n - 1 = omega arith in
    ap (λ (z : ℤ). pos 0 -ℤ z) (to_z_pos w64 h) ∙ less n ∙ ap negsuc q
