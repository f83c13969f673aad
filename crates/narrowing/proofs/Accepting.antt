-- What is known of the channels wanted and of the lengths where narrowing is not refused. Assumes nothing.
use mathlib.Core.Path.{◌≡◌, sym}
use mathlib.Core.Bool.{false, not}
use Prim.Native.Nat.{ℕ, ◌*◌, ◌/◌, ◌%◌}
use lib.Dec.{eqb}
use lib.IntN.{ℤ}
use borrow.Author.Tests.{eqb-true, not-false}
use Rattle.pictures.specs.Shapes.{nat_of}
use Rattle.pictures.specs.Steps.{Channels}
use Rattle.pictures.proofs.Ranges.{all_fail, channelled}
use Rattle.narrowing.specs.Narrow.{bad_narrowing}

-- there are channels wanted of the input, and the output has room for just them
pub accepted : (z : ℤ) (input output : ℕ) → bad_narrowing z input output ≡ false → Channels (nat_of z) × (input / 4 * nat_of z ≡ output)
unfolding bad_narrowing
accepted z input output e =
    let p = all_fail _ (not (eqb (input % 4) 0)) _ e in
    ((channelled z p.0).kind, sym (eqb-true _ _ (not-false _ p.2)))
