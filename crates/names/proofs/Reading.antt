-- One step of reading a text s against the bytes of a list from a place on: at place i of the text and place j of the list, what is left of the text compares
-- as what is left after the step; and how many bytes count is counted on. Assumes nothing.
use mathlib.Core.Path.{◌≡◌, sym, ap}
use mathlib.Core.Bool.{Bool, true, false}
use mathlib.Core.List.{List}
use Prim.Native.Nat.{ℕ, suc, ◌+◌, ◌<◌, ◌≤◌}
use native.Mathlib.Numerals.{add-one}
use native.Mathlib.Omega.{arith}
use lib.ListN.{length, get_or, take, drop, drop_of_length-le}
use lib.Seq.{drop-cons, take_all, length-take-le}
use borrow.Author.Tests.{eq-eqb, ne_eqb}
use Rattle.names.specs.Names.{is_kept, lower, key_of, same}
use Rattle.names.specs.Packed.{most_letters}

-- how many bytes are left that count
abbrev pub counted : List ℕ → ℕ → ℕ
counted s i = length (key_of (drop i s))

-- what is left to compare
abbrev pub left : List ℕ → List ℕ → ℕ → ℕ → Bool
left s bs i j = same (key_of (drop i s)) (take (counted s i) (drop j bs))

module _ (s : List ℕ) (i : ℕ) (in-text : i < length s) where
  none_counted : is_kept (get_or s i 0) ≡ false → counted s i ≡ counted s (i + 1)
  none_counted e = rw (add-one, drop-cons s i 0 in-text, e)

  one_counted : is_kept (get_or s i 0) ≡ true → counted s i ≡ suc (counted s (i + 1))
  one_counted e = rw (add-one, drop-cons s i 0 in-text, e)

  -- n bytes have counted before
  module _ (n : ℕ) (sum : n + counted s i ≡ counted s 0) where
    pub sum_kept : is_kept (get_or s i 0) ≡ true → n + 1 + counted s (i + 1) ≡ counted s 0
    sum_kept e = omega (arith, one_counted e)

    pub too_long : is_kept (get_or s i 0) ≡ true → n ≡ most_letters → most_letters + 1 ≡ length (take (most_letters + 1) (key_of s))
    too_long e m = sym (length-take-le (most_letters + 1) (key_of s) (omega (arith, one_counted e)))

    pub sum_dropped : is_kept (get_or s i 0) ≡ false → n + counted s (i + 1) ≡ counted s 0
    sum_dropped e = omega (arith, none_counted e)

  -- the bytes that count lie within m places from j on
  module _ (j m : ℕ) (h : j + counted s i ≤ m) where
    pub inside : is_kept (get_or s i 0) ≡ true → j < m
    inside e = omega (arith, one_counted e)

    pub within_kept : is_kept (get_or s i 0) ≡ true → j + 1 + counted s (i + 1) ≤ m
    within_kept e = omega (arith, one_counted e)

    pub within_dropped : is_kept (get_or s i 0) ≡ false → j + counted s (i + 1) ≤ m
    within_dropped e = omega (arith, none_counted e)

  module _ (bs : List ℕ) (j : ℕ) where
    pub dropped : is_kept (get_or s i 0) ≡ false → left s bs i j ≡ left s bs (i + 1) j
    dropped e = rw (add-one, drop-cons s i 0 in-text, e)

    module _ (k : is_kept (get_or s i 0) ≡ true) (h : j < length bs) where
      pub differs : (lower (get_or s i 0) ≡ get_or bs j 0 → ⊥) → left s bs i j ≡ false
      differs d = rw (drop-cons bs j 0 h, drop-cons s i 0 in-text, k, ne_eqb (lower (get_or s i 0)) (get_or bs j 0) d)

      pub agrees : lower (get_or s i 0) ≡ get_or bs j 0 → left s bs i j ≡ left s bs (i + 1) (j + 1)
      agrees e = rw (add-one, add-one, drop-cons bs j 0 h, drop-cons s i 0 in-text, k, eq-eqb (lower (get_or s i 0)) (get_or bs j 0) e)

-- the text has ended
module _ (s : List ℕ) (i : ℕ) (h : length s ≤ i) where
  pub all_counted : (n : ℕ) → n ≤ most_letters → n + counted s i ≡ counted s 0 → n ≡ length (take (most_letters + 1) (key_of s))
  all_counted n g e =
      let none : counted s i ≡ 0 = rw (drop_of_length-le s h) in
      let all : take (most_letters + 1) (key_of s) ≡ key_of s = take_all (most_letters + 1) (key_of s) (omega arith) in
      omega (arith, ap length all)

  pub all_read : (bs : List ℕ) (j : ℕ) → left s bs i j ≡ true
  all_read bs j = rw (drop_of_length-le s h)
