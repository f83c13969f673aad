-- What a test says, by how it came out. Assumes nothing.
use Rattle.std.proofs.Common.{◌≡◌, Bool, true, false, T, sym, subst, true≢false}

-- a test that came out true, as a fact
pub told : {b : Bool} → b ≡ true → T b
told e = subst T (sym e) tt

-- a test does not come out both ways
pub never : {X : Type 0} → false ≡ true → X
never e = absurd (true≢false (sym e))
