-- The names end to end: one step of the search through them. Assumes nothing.
use mathlib.Core.Path.{◌≡◌, refl, ap}
use mathlib.Core.Bool.{true, false, and-false}
use mathlib.Core.List.{List, [], ◌∷◌}
use Prim.Native.Nat.{ℕ, zero, suc, ◌+◌, ◌<◌, ◌≤◌}
use native.Mathlib.Numerals.{add-one}
use native.Mathlib.Omega.{arith}
use lib.Dec.{eqb}
use lib.ListN.{length, get_or, take, drop, drop_of_length-le, length-drop}
use lib.Seq.{drop-cons, drop-drop, length-take-le, take-nil, take_all}
use Rattle.names.specs.Names.{same}
use Rattle.names.specs.Packed.{total, cut, place_from}
use Rattle.std.specs.Prelude.{Option, Some, None}

-- the search for a key x from the k-th word on, whose bytes begin at place i of bs
abbrev pub search_from : List ℕ → List ℕ → List ℕ → ℕ → ℕ → Option ℕ
search_from x bs ns i k = place_from k x (cut (drop k ns) (drop i bs))

-- two lists of different lengths are not the same
differ : (x w : List ℕ) → (length x ≡ length w → ⊥) → same x w ≡ false
differ [] [] d = absurd (d refl)
differ [] (b ∷ w) d = refl
differ (a ∷ x) [] d = refl
differ (a ∷ x) (b ∷ w) d = rw (differ x w (λ e. d (ap suc e))) (and-false (eqb a b))

-- the first m bytes of a list that are fewer than m are all of it
fewer : (m : ℕ) (x : List ℕ) → length (take m x) < m → length (take m x) ≡ length x
fewer m [] h = ap length (take-nil m)
fewer zero (a ∷ x) h = absurd (omega arith)
fewer (suc m) (a ∷ x) h = ap suc (fewer m x (omega arith))

-- so the first m + 1 bytes of a key tell whether it is as long as a word of at most m
module _ (x : List ℕ) (n m : ℕ) (h : n ≤ m) where
  pub as_long : n ≡ length (take (m + 1) x) → length x ≡ n
  as_long e = omega (arith, fewer (m + 1) x (omega arith))

  pub not_as_long : (n ≡ length (take (m + 1) x) → ⊥) → length x ≡ n → ⊥
  not_as_long d e = d (omega (arith, ap length (take_all (m + 1) x (omega arith))))

-- n is the length of the k-th word
module _ (x bs ns : List ℕ) (i k n : ℕ) (h : k < length ns) (e : n ≡ get_or ns k 0) where
  pub found : length x ≡ n → same x (take (length x) (drop i bs)) ≡ true → search_from x bs ns i k ≡ Some k
  found l t = rw (drop-cons ns k 0 h, ← e, rw l at t)

  passed : same x (take n (drop i bs)) ≡ false → search_from x bs ns i k ≡ search_from x bs ns (i + n) (k + 1)
  passed t = rw (add-one, drop-cons ns k 0 h, ← e, t, drop-drop)

  pub next : length x ≡ n → same x (take (length x) (drop i bs)) ≡ false → search_from x bs ns i k ≡ search_from x bs ns (i + n) (k + 1)
  next l t = passed (rw l at t)

  -- a word of another length
  pub other : i + n ≤ length bs → (length x ≡ n → ⊥) → search_from x bs ns i k ≡ search_from x bs ns (i + n) (k + 1)
  other g d =
      let w : length (take n (drop i bs)) ≡ n = length-take-le n (drop i bs) (omega (arith, length-drop i bs)) in
      passed (differ x (take n (drop i bs)) (λ q. d (omega arith)))

-- the k-th word lies within m bytes, where all from there on do
pub within : (ns : List ℕ) (i k n m : ℕ) → k < length ns → n ≡ get_or ns k 0 → i + total (drop k ns) ≤ m → i + n + total (drop (k + 1) ns) ≤ m
within ns i k n m h e g =
    let t : total (drop k ns) ≡ n + total (drop (k + 1) ns) = rw (add-one, drop-cons ns k 0 h, ← e) in
    omega arith

pub ended : (x bs ns : List ℕ) (i k : ℕ) → length ns ≤ k → search_from x bs ns i k ≡ None
ended x bs ns i k h = rw (drop_of_length-le ns h)
