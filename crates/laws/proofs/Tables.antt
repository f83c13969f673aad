-- A list that is read by place: below its end the default does not matter, and a test that is computed entry after entry holds at each.
-- Assumes nothing.
use mathlib.Core.Path.{◌≡◌, refl}
use mathlib.Core.Bool.{Bool, true, ◌&&◌}
use mathlib.Core.List.{List, [], ◌∷◌}
use Prim.Native.Nat.{ℕ, zero, suc, ◌+◌, ◌<◌}
use native.Mathlib.Nat.{add-zero, zero-add, add-suc, suc-add, le_of_suc-le-suc}
use native.Mathlib.Omega.{arith}
use lib.Dec.{T}
use lib.Ieee.Fits.{and_l, and_r}
use lib.ListN.{length, get_or}

module _ {ℓ} {A : Type ℓ} where
  pub get_d_any : (d e : A) (xs : List A) (n : ℕ) → n < length xs → get_or xs n d ≡ get_or xs n e
  get_d_any d e [] n h = absurd (omega arith)
  get_d_any d e (x ∷ xs) zero h = refl
  get_d_any d e (x ∷ xs) (suc n) h = get_d_any d e xs n (le_of_suc-le-suc h)

  -- a test of each entry and its place, counted from i
  abbrev pub every : (ℕ → A → Bool) → ℕ → List A → Bool
  every f i [] = true
  every f i (x ∷ xs) = f i x && every f (suc i) xs

  from : (f : ℕ → A → Bool) (d : A) (xs : List A) (i : ℕ) → T (every f i xs) → (k : ℕ) → k < length xs → T (f (i + k) (get_or xs k d))
  from f d [] i t k h = absurd (omega arith)
  from f d (x ∷ xs) i t zero h = rw add-zero (and_l (f i x) (every f (suc i) xs) t)
  from f d (x ∷ xs) i t (suc k) h = rw (add-suc, ← suc-add) (from f d xs (suc i) (and_r (f i x) (every f (suc i) xs) t) k (le_of_suc-le-suc h))

  pub at_each : (f : ℕ → A → Bool) (d : A) (xs : List A) → T (every f 0 xs) → (k : ℕ) → k < length xs → T (f k (get_or xs k d))
  at_each f d xs t k h = rw zero-add at (from f d xs 0 t k h)
