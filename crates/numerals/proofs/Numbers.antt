-- Each kind of number is read as it is printed, and nothing else is read. Assumes nothing.
use mathlib.Core.Path.{◌≡◌, refl, sym, ap, ◌∙◌}
use mathlib.Core.Bool.{Bool, true, false, cond, not, ◌||◌, ◌&&◌, or-true}
use mathlib.Core.List.{List, [], ◌∷◌}
use Prim.Native.Nat.{ℕ, zero, suc, ◌+◌, ◌*◌, ◌-◌, ◌/◌, ◌%◌, ◌^◌, ◌<◌, ◌≤◌}
use native.Mathlib.Nat.{zero-add, add-zero, mod-lt, pow-suc, suc-mul, mul-le-mul_right, pow-le-pow_right}
use native.Mathlib.Omega.{arith}
use lib.Dec.{eqb, leb, ltb}
use lib.IntN.{ℤ, pos, negsuc}
use lib.ListN.{length}
use borrow.Author.Tests.{ltb-true, leb-true, leb-false, eqb-true, eqb-false, lt-ltb, le-leb, lt-leb, ne_eqb, not-true}
use Rattle.numerals.specs.Digits.{digit_of, char_of, value_from, are_digits, digits_from, number_in}
use Rattle.numerals.specs.Numbers.{unsigned_text, decimal_text, is_decimal, hex_text, is_word, leads, unsigned_of, plus, minus, decimal_of, hex_of}
use Rattle.std.specs.Prelude.{Option, Some, None}
use Rattle.numerals.proofs.Bools.{split, and_true, or_false}
use Rattle.numerals.proofs.Inverse.{digit_char, char_digit, read_printed, printed_read}

-- what a cond that answers a number says of its test
pub of_cond : (b : Bool) (r : Option ℕ) (n : ℕ) → cond b r None ≡ Some n → (b ≡ true) × (r ≡ Some n)
of_cond true r n e = (refl, e)
of_cond false r n e = absurd (cc)

-- printed digits are digits, and so many at the most
module _ (padded : Bool) (base : ℕ) (based : 0 < base) (small : base ≤ 16) where
  pub printed_digits : (k n : ℕ) (bs : List ℕ) → are_digits base bs ≡ true → are_digits base (digits_from padded base k n bs) ≡ true
  printed_digits zero n bs h = h
  printed_digits (suc k) n bs h =
      split (padded || leb base n)
      (λ e. rw e (printed_digits k (n / base) (char_of (n % base) ∷ bs) (rw (digit_char (n % base) (omega (arith, mod-lt n based)), lt-ltb (n % base) base (mod-lt n based)) h)))
      (λ e. let g = leb-false base n (or_false padded e) in rw e (rw (digit_char n (omega arith), lt-ltb n base g) h))

  pub printed_most : (k n : ℕ) (bs : List ℕ) → length (digits_from padded base k n bs) ≤ k + length bs
  printed_most zero n bs = omega arith
  printed_most (suc k) n bs =
      split (padded || leb base n)
      (λ e. rw e (omega (arith, printed_most k (n / base) (char_of (n % base) ∷ bs))))
      (λ e. rw e (omega arith))

  pub number_there : (k n : ℕ) → n < base ^ k → number_in base (digits_from padded base k n []) ≡ Some n
  unfolding number_in
  number_there k n h = rw (printed_digits k n [] refl) (ap Some (read_printed padded base based small k n [] h))

pub value_most : (base : ℕ) (bs : List ℕ) (k n : ℕ) → are_digits base bs ≡ true → n < base ^ k → value_from base n bs < base ^ (k + length bs)
value_most base [] k n h g = rw add-zero g
value_most base (b ∷ bs) k n h g =
    let p = and_true (ltb (digit_of b) base) (are_digits base bs) h in
    let q : suc k + length bs ≡ k + suc (length bs) = omega arith in
    rw (← q) (value_most base bs (suc k) (n * base + digit_of b) p.1
    (rw pow-suc (omega (arith, ltb-true (digit_of b) base p.0, rw suc-mul at (mul-le-mul_right base g)))))

-- what a text that is read as a number is
pub number_back : (base : ℕ) (s : List ℕ) (n : ℕ) → number_in base s ≡ Some n → (are_digits base s ≡ true) × (value_from base 0 s ≡ n)
unfolding number_in
number_back base s n e =
    let p = of_cond (are_digits base s) (Some (value_from base 0 s)) n e in
    let q : Some (value_from base 0 s) ≡ Some n = p.1 in
    (p.0, cc)

-- the bytes that a number may have: a minus, or a digit of some base
abbrev pub spelling : List ℕ → Bool
spelling [] = true
spelling (b ∷ bs) = (eqb b 45 || ltb (digit_of b) 16) && spelling bs

digits_spelling : (base : ℕ) (s : List ℕ) → base ≤ 16 → are_digits base s ≡ true → spelling s ≡ true
digits_spelling base [] k h = refl
digits_spelling base (b ∷ s) k h =
    let p = and_true (ltb (digit_of b) base) (are_digits base s) h in
    let d = ltb-true (digit_of b) base p.0 in
    rw (lt-ltb (digit_of b) 16 (omega arith), or-true (eqb b 45)) (digits_spelling base s k p.1)

-- the eight digits of a word
pub hex_there : (w : ℕ) → is_word w ≡ true → hex_of (hex_text w) ≡ Some w
unfolding hex_of is_word
hex_there w h = number_there true 16 (omega arith) (omega arith) 8 w (ltb-true _ _ h)

pub record Word (s : List ℕ) (w : ℕ) : Type 0 where
  pub text : hex_text w ≡ s
  pub small : w < 0x1_0000_0000
  pub bytes : spelling s ≡ true

pub hex_back : (s : List ℕ) (w : ℕ) → hex_of s ≡ Some w → Word s w
unfolding hex_of
hex_back s w e =
    let p = of_cond (eqb (length s) 8) (number_in 16 s) w e in
    let l : length s ≡ 8 = eqb-true _ _ p.0 in
    let q = number_back 16 s w p.1 in
    let r = printed_read true 16 (omega arith) (omega arith) s 0 0 q.0 refl in
    let m = value_most 16 s 0 0 q.0 (omega arith) in
    record { text = rw (zero-add, l, q.1) at r; small = rw (zero-add, l, q.1) at m; bytes = digits_spelling 16 s (omega arith) q.0 }

-- a number that is not negative
first : (b k : ℕ) (bs : List ℕ) → digit_of b < 10 → digits_from false 10 (suc k) (digit_of b) bs ≡ b ∷ bs
first b k bs h = rw (lt-leb 10 (digit_of b) h, char_digit b (omega arith))

pub digit_zero : digit_of 48 ≡ 0
unfolding digit_of
digit_zero = refl

pub digit_minus : digit_of 45 ≡ 16
unfolding digit_of
digit_minus = refl

not_zero : (b : ℕ) → 0 < digit_of b → eqb b 48 ≡ false
not_zero b h = ne_eqb b 48 (λ q. omega (arith, digit_zero, ap digit_of q))

leads_on : (b : ℕ) (bs : List ℕ) → 0 < digit_of b → leads (b ∷ bs) ≡ true
leads_on b [] h = refl
leads_on b (c ∷ bs) h = rw (not_zero b h)

leads_printed : (k n : ℕ) (bs : List ℕ) → 0 < n → n < 10 ^ k → leads (digits_from false 10 k n bs) ≡ true
leads_printed zero n bs g h = absurd (omega arith)
leads_printed (suc k) n bs g h =
    split (leb 10 n)
    (λ e. let f = leb-true 10 n e in rw e (leads_printed k (n / 10) (char_of (n % 10) ∷ bs) (omega arith) (omega (arith, rw pow-suc at h))))
    (λ e. let f = leb-false 10 n e in rw e (leads_on (char_of n) bs (rw (digit_char n (omega arith)) g)))

leads_text : (n : ℕ) → n < 10 ^ 10 → leads (unsigned_text n) ≡ true
leads_text zero h = refl
leads_text (suc n) h = leads_printed 10 (suc n) [] (omega arith) h

pub unsigned_there : (n : ℕ) → n < 10 ^ 10 → unsigned_of (unsigned_text n) ≡ Some n
unfolding unsigned_of
unsigned_there n h =
    given (unsigned_text n) (le-leb (length (unsigned_text n)) 10 (printed_most false 10 (omega arith) (omega arith) 10 n [])) (leads_text n h)
    (number_there false 10 (omega arith) (omega arith) 10 n h)
  where
    given : (s : List ℕ) → leb (length s) 10 ≡ true → leads s ≡ true → {r : Option ℕ} → number_in 10 s ≡ r → unsigned_of s ≡ r
    given s a b e = rw (a, b) e

-- .. whose digits were read: the fuel is a variable here, because at a numeral the printer computes out into all its tests
char_zero : char_of 0 ≡ 48
unfolding char_of
char_zero = refl

some_digit : (b : ℕ) → digit_of b < 10 → not (eqb b 48) ≡ true → ltb 0 (digit_of b) ≡ true
some_digit b h e = lt-ltb 0 (digit_of b) (by (digit_of b) refl)
  where
    by : (d : ℕ) → digit_of b ≡ d → 0 < d
    by zero q = absurd (eqb-false b 48 (not-true _ e) (sym (char_digit b (omega arith)) ∙ ap char_of q ∙ char_zero))
    by (suc d) q = omega arith

again_on : (k b : ℕ) (bs : List ℕ) → digit_of b < 10 → are_digits 10 bs ≡ true → leads (b ∷ bs) ≡ true → digits_from false 10 (suc k + length bs) (value_from 10 (digit_of b) bs) [] ≡ b ∷ bs
again_on k b [] h d l = rw add-zero (first b k [] h)
again_on k b (c ∷ cs) h d l = printed_read false 10 (omega arith) (omega arith) (c ∷ cs) (suc k) (digit_of b) d (some_digit b h l) ∙ first b k (c ∷ cs) h

again : (s : List ℕ) → length s ≤ 10 → leads s ≡ true → are_digits 10 s ≡ true → unsigned_text (value_from 10 0 s) ≡ s
again [] l h d = absurd (cc)
again (b ∷ bs) l h d =
    let p = and_true (ltb (digit_of b) 10) (are_digits 10 bs) d in
    let k : 10 ≡ suc (9 - length bs) + length bs = omega arith in
    let z : 0 + digit_of b ≡ digit_of b = omega arith in
    ap (λ (m : ℕ). digits_from false 10 10 (value_from 10 m bs) []) z
    ∙ ap (λ (m : ℕ). digits_from false 10 m (value_from 10 (digit_of b) bs) []) k
    ∙ again_on (9 - length bs) b bs (ltb-true (digit_of b) 10 p.0) p.1 h

pub unsigned_back : (s : List ℕ) (n : ℕ) → unsigned_of s ≡ Some n → (unsigned_text n ≡ s) × (n < 10 ^ 10) × (are_digits 10 s ≡ true)
unfolding unsigned_of
unsigned_back s n e =
    let p = of_cond (leb (length s) 10 && leads s) (number_in 10 s) n e in
    let l = and_true (leb (length s) 10) (leads s) p.0 in
    let m = leb-true (length s) 10 l.0 in
    let q = number_back 10 s n p.1 in
    let v = value_most 10 s 0 0 q.0 (omega arith) in
    let w = pow-le-pow_right {n = 10} (omega arith) {i = length s} {j = 10} m in
    (ap unsigned_text (sym q.1) ∙ again s m l.1 q.0, omega (arith, rw (zero-add, q.1) at v, w), q.0)

-- a number with its sign
no_minus : (s : List ℕ) → are_digits 10 s ≡ true → decimal_of s ≡ plus (unsigned_of s)
unfolding decimal_of unsigned_of
no_minus [] h = refl
no_minus (b ∷ bs) h =
    let p = and_true (ltb (digit_of b) 10) (are_digits 10 bs) h in
    let q = ltb-true (digit_of b) 10 p.0 in
    rw (ne_eqb b 45 (λ e. omega (arith, digit_minus, ap digit_of e)))

after_minus : (s : List ℕ) → decimal_of (45 ∷ s) ≡ minus (unsigned_of s)
unfolding decimal_of
after_minus s = refl

pub decimal_there : (z : ℤ) → is_decimal z ≡ true → decimal_of (decimal_text z) ≡ Some z
unfolding decimal_text is_decimal
decimal_there (pos n) h =
    no_minus (unsigned_text n) (printed_digits false 10 (omega arith) (omega arith) 10 n [] refl) ∙ ap plus (unsigned_there n (ltb-true _ _ h))
decimal_there (negsuc n) h = after_minus (unsigned_text (suc n)) ∙ ap minus (unsigned_there (suc n) (ltb-true _ _ h))

-- a text that is read as a decimal number is that number's, and the number has ten digits at the most
pub record Decimal (s : List ℕ) (z : ℤ) : Type 0 where
  pub text : decimal_text z ≡ s
  pub few : is_decimal z ≡ true
  pub bytes : spelling s ≡ true

minus_back : (r : Option ℕ) (s : List ℕ) (z : ℤ) → unsigned_of s ≡ r → minus r ≡ Some z → Decimal (45 ∷ s) z
unfolding decimal_text is_decimal
minus_back None s z q e = absurd (cc)
minus_back (Some zero) s z q e = absurd (cc)
minus_back (Some (suc n)) s z q e =
    let i : negsuc n ≡ z = cc in
    let p = unsigned_back s (suc n) q in
    rw (← i) (record { text = ap (λ (t : List ℕ). 45 ∷ t) p.0; few = lt-ltb _ _ p.1; bytes = digits_spelling 10 s (omega arith) p.2 })

plus_back : (r : Option ℕ) (s : List ℕ) (z : ℤ) → unsigned_of s ≡ r → plus r ≡ Some z → Decimal s z
unfolding decimal_text is_decimal
plus_back None s z q e = absurd (cc)
plus_back (Some n) s z q e =
    let i : pos n ≡ z = cc in
    let p = unsigned_back s n q in
    rw (← i) (record { text = p.0; few = lt-ltb _ _ p.1; bytes = digits_spelling 10 s (omega arith) p.2 })

pub decimal_back : (s : List ℕ) (z : ℤ) → decimal_of s ≡ Some z → Decimal s z
unfolding decimal_of
decimal_back [] z e = absurd (cc)
decimal_back (b ∷ bs) z e =
    split (eqb b 45)
    (λ t. rw (eqb-true b 45 t) (minus_back (unsigned_of bs) bs z refl (rw t at e)))
    (λ t. plus_back (unsigned_of (b ∷ bs)) (b ∷ bs) z refl (rw t at e))
