-- Laws on the digits that a text begins with and the number that they spell. Assumes nothing.
use mathlib.Core.Path.{◌≡◌, refl, sym, ap, ◌∙◌}
use mathlib.Core.Bool.{Bool, true, false, cond, ◌&&◌}
use mathlib.Core.List.{List, [], ◌∷◌}
use Prim.Native.Nat.{ℕ, suc, ◌+◌, ◌*◌, ◌<◌, ◌≤◌}
use native.Mathlib.Nat.{add-zero}
use native.Mathlib.Numerals.{add-one}
use native.Mathlib.Omega.{arith}
use lib.Dec.{eqb, ltb}
use lib.ListN.{length, drop, drop_of_length-le, get_or-eq_default}
use lib.Seq.{drop-cons}
use borrow.Author.Tests.{lt-ltb, le-ltb, ltb-true, ltb-false, ne_eqb}
use Rattle.std.specs.Prelude.{Option, Some, None, is_some}
use Rattle.vector_lines.specs.declared.numbers.Read.{Read}
use Rattle.vector_lines.specs.Numbers.{byte_of, digit_of, digit_in, digits_of, value_of, largest, none, gone_on, spelt, digits_at}

zero_byte : digit_of 0 ≡ 16
unfolding digit_of
zero_byte = refl

-- what is said of a byte that is a digit, and of one that is none
known : (v d : ℕ) → Some d ≡ cond (ltb v 16) (Some v) None → (v ≡ d) × (d < 16)
known v d e = go (ltb v 16) refl e
  where
    go : (t : Bool) → ltb v 16 ≡ t → Some d ≡ cond t (Some v) None → (v ≡ d) × (d < 16)
    go true s e = let is : v ≡ d = cc in let less : v < 16 = ltb-true _ _ s in (is, omega arith)
    go false s e = cc

unknown : (v : ℕ) → ◌≡◌ {A = Option ℕ} None (cond (ltb v 16) (Some v) None) → 16 ≤ v
unknown v e = go (ltb v 16) refl e
  where
    go : (t : Bool) → ltb v 16 ≡ t → ◌≡◌ {A = Option ℕ} None (cond t (Some v) None) → 16 ≤ v
    go true s e = cc
    go false s e = ltb-false _ _ s

first_digit : (b d : ℕ) (text : List ℕ) → Some d ≡ digit_in b → digits_of (b ∷ text) ≡ d ∷ digits_of text
unfolding digits_of
first_digit b d text e = let k = known (digit_of b) d e in rw (k.0, lt-ltb d 16 k.1)

no_first : (b : ℕ) (text : List ℕ) → None ≡ digit_in b → digits_of (b ∷ text) ≡ []
unfolding digits_of
no_first b text e = rw (le-ltb _ _ (unknown (digit_of b) e))

nothing_left : digits_of [] ≡ []
unfolding digits_of
nothing_left = refl

value_step : (v d : ℕ) (ds : List ℕ) → value_of v (d ∷ ds) ≡ value_of (v * 16 + d) ds
unfolding value_of
value_step v d ds = refl

value_end : (v : ℕ) → value_of v [] ≡ v
unfolding value_of
value_end v = refl

-- further digits do not make a number less
no_less : (v : ℕ) (ds : List ℕ) → v ≤ value_of v ds
unfolding value_of
no_less v [] = omega arith
no_less v (d ∷ ds) = let h = no_less (v * 16 + d) ds in omega (arith, h)

-- d is the digit at a place of a line
module _ (line : List ℕ) (at d : ℕ) (here : Some d ≡ digit_in (byte_of line at)) where
  pub is_digit : d < 16
  is_digit = (known _ d here).1

  -- past the end of a line there is no digit
  pub in_line : at < length line
  in_line = go (ltb at (length line)) refl
    where
      go : (t : Bool) → ltb at (length line) ≡ t → at < length line
      go true e = ltb-true _ _ e
      go false e =
          let past : digit_of (byte_of line at) ≡ 16 = ap digit_of (get_or-eq_default line 0 (ltb-false at (length line) e)) ∙ zero_byte in
          absurd (omega (arith, (known _ d here).0, past, is_digit))

  -- a digit is the first of those that are left
  pub one_more : digits_of (drop at line) ≡ d ∷ digits_of (drop (at + 1) line)
  one_more = rw (add-one, drop-cons line at 0 in_line) (first_digit (byte_of line at) d _ here)

-- where there is no digit, none is left
pub no_more : (line : List ℕ) (at : ℕ) → None ≡ digit_in (byte_of line at) → digits_of (drop at line) ≡ []
no_more line at here = go (ltb at (length line)) refl
  where
    go : (t : Bool) → ltb at (length line) ≡ t → digits_of (drop at line) ≡ []
    go true e = rw (drop-cons line at 0 (ltb-true _ _ e)) (no_first (byte_of line at) _ here)
    go false e = rw (drop_of_length-le line (ltb-false at (length line) e)) nothing_left

-- the number at a place where there is no digit
pub no_digits : (line : List ℕ) (at : ℕ) {n : Read ℕ} → None ≡ digit_in (byte_of line at) → n ≡ none → n ≡ digits_at line at
unfolding spelt
no_digits line at here e = rw (e, no_more line at here)

-- where d is the first digit: its number is spelt by it and those after it
module _ (line : List ℕ) (at d : ℕ) (here : Some d ≡ digit_in (byte_of line at)) where
  from_first : digits_at line at ≡ cond (eqb d 0 && ltb 0 (length (digits_of (drop (at + 1) line)))) none (gone_on line (at + 1) d)
  unfolding spelt
  from_first = rw (one_more line at d here)

  -- it is no zero
  pub other_first : {n : Read ℕ} → (d ≡ 0 → ⊥) → n ≡ gone_on line (at + 1) d → n ≡ digits_at line at
  other_first z e = rw (e, from_first, ne_eqb d 0 z)

  -- it is a zero before another digit, which is no number, or a zero alone
  pub zero_first : (z : d ≡ 0) (o : Option ℕ) {n : Read ℕ} → o ≡ digit_in (byte_of line (at + 1)) → is_some o ≡ true → n ≡ none → n ≡ digits_at line at
  zero_first z None next is e = cc
  zero_first z (Some c) next is e =
      let rest = length (digits_of (drop (at + 1 + 1) line)) in
      let some : ltb 0 (length (digits_of (drop (at + 1) line))) ≡ true = rw (one_more line (at + 1) c next) (lt-ltb 0 (suc rest) (omega arith)) in
      rw (e, from_first, z, some)

  pub zero_alone : (o : Option ℕ) {n : Read ℕ} → o ≡ digit_in (byte_of line (at + 1)) → is_some o ≡ false → n ≡ gone_on line (at + 1) d → n ≡ digits_at line at
  zero_alone (Some c) next is e = cc
  zero_alone None next is e =
      let ended : ltb 0 (length (digits_of (drop (at + 1) line))) ≡ false = rw (no_more line (at + 1) next) refl in
      rw (e, from_first, ended) (sym (never (eqb d 0)))
    where
      never : (t : Bool) → cond (t && false) none (gone_on line (at + 1) d) ≡ gone_on line (at + 1) d
      never true = refl
      never false = refl

-- the digits from `start` on, after `first`, are read as far as `at`: what is left spells the same after v and ends at the same place
pub record Spelling (line : List ℕ) (start first v at : ℕ) : Type 0 where
  pub spells : value_of first (digits_of (drop start line)) ≡ value_of v (digits_of (drop at line))
  pub ends : start + length (digits_of (drop start line)) ≡ at + length (digits_of (drop at line))
  pub fits : v ≤ largest

pub none_spelt : (line : List ℕ) (start first : ℕ) → first ≤ largest → Spelling line start first first start
none_spelt line start first h = record { spells = refl; ends = refl; fits = h }

module _ {line : List ℕ} {start first v at : ℕ} (s : Spelling line start first v at) where
  module _ (d : ℕ) (here : Some d ≡ digit_in (byte_of line at)) where
    spells_on : value_of first (digits_of (drop start line)) ≡ value_of (v * 16 + d) (digits_of (drop (at + 1) line))
    spells_on = s.spells ∙ rw (one_more line at d here) (value_step v _ _)

    pub one_spelt : v ≤ 1152921504606846975 → Spelling line start first (v * 16 + d) (at + 1)
    one_spelt short = let digit : d < 16 = is_digit line at d here in record {
      spells = spells_on;
      ends = s.ends ∙ rw (one_more line at d here) (omega arith);
      fits = omega arith;
    }

    -- one more digit is more than 64 binary digits
    pub too_long : {n : Read ℕ} → 1152921504606846975 < v → n ≡ none → n ≡ gone_on line start first
    too_long long e =
        let less = no_less (v * 16 + d) (digits_of (drop (at + 1) line)) in
        rw (e, lt-ltb largest (value_of first (digits_of (drop start line))) (omega (arith, less, spells_on)))

  pub all_spelt : None ≡ digit_in (byte_of line at) → ◌≡◌ {A = Read ℕ} (record { value = v; next = at }) (gone_on line start first)
  all_spelt here = rw (s.ends, s.spells, no_more line at here, value_end v, add-zero, le-ltb largest v s.fits)
