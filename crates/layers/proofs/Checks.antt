-- The first fault of a list of checks, check by check. Assumes nothing.
use mathlib.Core.Path.{◌≡◌, refl}
use mathlib.Core.Bool.{Bool, true, false, cond}
use mathlib.Core.List.{List, [], ◌∷◌}
use Prim.Native.Nat.{ℕ, suc}
use native.Mathlib.Omega.{arith}
use lib.Dec.{eqb}
use borrow.Author.Tests.{eqb-true, eqb-false, ne_eqb}
use Rattle.layers.specs.Faults.{first_of, fault_if}

-- ---- a check and the rest: it has a fault, or the rest decides

pub found : {f : ℕ} (rest : ℕ) → (f ≡ 0 → ⊥) → cond (eqb f 0) rest f ≡ f
found {f} rest h = rw (ne_eqb f 0 h)

pub past : {f rest : ℕ} → f ≡ 0 → cond (eqb f 0) rest f ≡ rest
past e = rw e

-- ---- no fault

abbrev pub Each : List ℕ → Type 0
Each [] = Unit
Each (f ∷ fs) = (f ≡ 0) × Each fs

-- no fault in a list of checks is none in each
pub none : (fs : List ℕ) → first_of fs ≡ 0 → Each fs
none [] h = tt
none (f ∷ fs) h = by (eqb f 0) refl h (none fs)
  where
    by : (t : Bool) → eqb f 0 ≡ t → cond t (first_of fs) f ≡ 0 → (first_of fs ≡ 0 → Each fs) → Each (f ∷ fs)
    by true e h g = (eqb-true f 0 e, g h)
    by false e h g = absurd (eqb-false f 0 e h)

-- no fault where a test would give one is a test that fails
pub passed : (t : Bool) (n : ℕ) → fault_if t (suc n) ≡ 0 → t ≡ false
passed true n h = absurd (omega arith)
passed false n h = refl
