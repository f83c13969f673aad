-- The search for the first fault, row by row. Assumes nothing.
use mathlib.Core.Path.{◌≡◌}
use mathlib.Core.List.{List}
use Prim.Native.Nat.{ℕ, suc, ◌+◌, ◌-◌, ◌<◌, ◌≤◌}
use native.Mathlib.Numerals.{add-one}
use native.Mathlib.Omega.{arith}
use lib.IntN.{ℤ}
use borrow.Author.Tests.{eq-eqb, ne_eqb}
use Rattle.layers.specs.Cells.{row_at}
use Rattle.layers.specs.Faults.{layer_fault}
use Rattle.layers.specs.Inputs.{rows_fault, verdict}

module _ (table : List ℤ) (samples : ℕ) {k n f : ℕ} (h : k < n) (e : f ≡ layer_fault (row_at table k) samples) where
  left : n - k ≡ suc (n - (k + 1))
  left = omega arith

  pub found : (f ≡ 0 → ⊥) → rows_fault table samples k (n - k) ≡ verdict f k
  unfolding rows_fault
  found z = rw (left, ← e, ne_eqb f 0 z)

  pub next : f ≡ 0 → rows_fault table samples k (n - k) ≡ rows_fault table samples (k + 1) (n - (k + 1))
  unfolding rows_fault
  next z = rw (left, ← e, eq-eqb f 0 z, add-one)

pub done : (table : List ℤ) (samples k n : ℕ) → n ≤ k → rows_fault table samples k (n - k) ≡ verdict 0 0
unfolding rows_fault
done table samples k n h = let z : n - k ≡ 0 = omega arith in rw z
