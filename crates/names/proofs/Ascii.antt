-- A text with a byte of 128 or more, wherever it stands, is an unknown name. Such a byte is neither dropped nor lowered, so that what is compared of the text
-- has it too; and no name has one, a test computed over the list. Assumes nothing.
use mathlib.Core.Path.{◌≡◌, refl}
use mathlib.Core.Bool.{Bool, true, false, cond, ◌&&◌}
use mathlib.Core.List.{List, [], ◌∷◌}
use Prim.Native.Nat.{ℕ, zero, suc, ◌<◌, ◌≤◌}
use native.Mathlib.Nat.{le_of_suc-le-suc}
use native.Mathlib.Omega.{arith}
use lib.Dec.{T, eqb, ltb, eqb→eq, ltb→lt}
use lib.Ieee.Fits.{and_i, and_l, and_r}
use lib.ListN.{length, get_or}
use borrow.Author.Tests.{ne_eqb, le-leb, lt-leb}
use Rattle.operators.specs.Operators.{number_of}
use Rattle.names.specs.Names.{Entry, entries, is_kept, lower, key_of, same, lookup, from_name}
use Rattle.std.specs.Prelude.{Option, Some, None}

-- each byte is below 128
abbrev ascii : List ℕ → Bool
ascii [] = true
ascii (b ∷ bs) = ltb b 128 && ascii bs

abbrev all_ascii : List Entry → Bool
all_ascii [] = true
all_ascii (e ∷ es) = ascii e.word && all_ascii es

-- ---- the key of such a text

module _ (b : ℕ) (h : 128 ≤ b) where
  kept : is_kept b ≡ true
  unfolding is_kept
  kept = rw (ne_eqb b 45 (omega arith), ne_eqb b 95 (omega arith), ne_eqb b 32 (omega arith))

  unchanged : lower b ≡ b
  unfolding lower
  unchanged = rw (le-leb 65 b (omega arith), lt-leb b 90 (omega arith))

after : (kept : Bool) (b : ℕ) (bs : List ℕ) → T (ascii (cond kept (b ∷ bs) bs)) → T (ascii bs)
after true b bs t = and_r (ltb b 128) (ascii bs) t
after false b bs t = t

key_high : (s : List ℕ) (i : ℕ) → i < length s → 128 ≤ get_or s i 0 → T (ascii (key_of s)) → ⊥
key_high [] i h g t = absurd (omega arith)
key_high (b ∷ s) zero h g t =
    let first : b < 128 = ltb→lt b 128 (and_l (ltb b 128) (ascii (key_of s)) (rw (kept b g, unchanged b g) at t)) in
    omega arith
key_high (b ∷ s) (suc i) h g t = key_high s i (le_of_suc-le-suc h) g (after (is_kept b) (lower b) (key_of s) t)

-- ---- no name is that key

alike : (x w : List ℕ) → T (same x w) → T (ascii w) → T (ascii x)
alike [] w s t = tt
alike (a ∷ x) [] s t = absurd s
alike (a ∷ x) (b ∷ w) s t =
    let e : a ≡ b = eqb→eq a b (and_l (eqb a b) (same x w) s) in
    rw e
    (and_i (ltb b 128) (ascii x) (and_l (ltb b 128) (ascii w) t)
    (alike x w (and_r (eqb a b) (same x w) s) (and_r (ltb b 128) (ascii w) t)))

passed : (t : Bool) (n : ℕ) (r : Option ℕ) → (T t → ⊥) → r ≡ None → cond t (Some n) r ≡ None
passed true n r h e = absurd (h tt)
passed false n r h e = e

unnamed : (x : List ℕ) (es : List Entry) → (T (ascii x) → ⊥) → T (all_ascii es) → lookup x es ≡ None
unnamed x [] h t = refl
unnamed x (e ∷ es) h t =
    passed (same x e.word) (number_of e.op) (lookup x es)
    (λ s. h (alike x e.word s (and_l (ascii e.word) (all_ascii es) t)))
    (unnamed x es h (and_r (ascii e.word) (all_ascii es) t))

pub beyond_ascii : (s : List ℕ) (i : ℕ) → i < length s → 128 ≤ get_or s i 0 → from_name s ≡ None
unfolding from_name entries
beyond_ascii s i h g = unnamed (key_of s) entries (key_high s i h g) tt
