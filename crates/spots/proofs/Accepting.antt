-- A call without a fault: its spot lies on the destination, and its pixel can be asked for. Assumes nothing.
use Rattle.std.proofs.Common.{◌≡◌, ◌*◌, ◌^◌, ◌<◌, Bool, true, false, cond, not, ltb, eqb, ℤ, pos, negsuc, refl, arith, true≢false}
use borrow.Author.Tests.{eqb-true, eqb-false, ltb-true, ltb-false, not-false}
use lib.Signed.{lt_z}
use Rattle.faults.specs.Faults.{SPOT}
use Rattle.layers.specs.Faults.{fault_if}
use Rattle.layers.specs.Inputs.{Inputs, Verdict, verdict, job_fault}
use Rattle.layers.proofs.Accepted.{accepted}
use Rattle.pictures.specs.Shapes.{nat_of}
use Rattle.pictures.proofs.Ranges.{both_fail, all_fail}
use Rattle.spots.specs.Spots.{maps_of}
use Rattle.spots.specs.Steps.{Asked, AskedAt}
use Rattle.spots.specs.Answers.{most_maps, layer_count, off, bad_spot, spot_fault, pixel_at}
use Rattle.spots.proofs.Asked.{number_fits}
use Rattle.spots.proofs.Counted.{few_reads}

-- ---- the faults

neither : (v : Verdict) (bad t : Bool) → eqb v.number 0 ≡ t → (cond t (verdict (fault_if bad SPOT) 0) v).number ≡ 0 → (v.number ≡ 0) × (bad ≡ false)
neither v true true e h = absurd (omega arith)
neither v false true e h = (eqb-true v.number 0 e, refl)
neither v bad false e h = absurd (eqb-false v.number 0 e h)

on_side : (side at : ℤ) → side ≡ pos (nat_of side) → off side at ≡ false → nat_of at < nat_of side
unfolding nat_of
on_side side (pos n) s e =
    let f : off (pos (nat_of side)) (pos n) ≡ false = rw s at e in
    ltb-true n (nat_of side) (not-false _ (both_fail _ _ f).1)
on_side side (negsuc n) s e = absurd (true≢false (both_fail _ (not (lt_z (negsuc n) side)) e).0)

module _ (i : Inputs) (x y : ℤ) (none : (spot_fault i x y).number ≡ 0) where
  parts : ((job_fault i).number ≡ 0) × (bad_spot i x y ≡ false)
  unfolding spot_fault
  parts = neither (job_fault i) (bad_spot i x y) _ refl none

  pub fit : (job_fault i).number ≡ 0
  fit = parts.0

  spot : (off i.shape.width x ≡ false) × (off i.shape.height y ≡ false) × (ltb most_maps (maps_of i.table i.args (layer_count i)) ≡ false)
  unfolding bad_spot
  spot = all_fail _ _ _ parts.1

  column : nat_of x < nat_of i.shape.width
  column = on_side i.shape.width x (accepted i fit).shape.wide.natural spot.0

  row : nat_of y < nat_of i.shape.height
  row = on_side i.shape.height y (accepted i fit).shape.high.natural spot.1

  -- the number of the spot's pixel fits, and so does that of its row's first
  pub spot_fits : (pixel_at i x y < nat_of i.shape.width * nat_of i.shape.height) × (pixel_at i x y < 2 ^ 64)
  spot_fits = number_fits i fit (nat_of x) (nat_of y) column row

  pub asked : AskedAt i (layer_count i) (pixel_at i x y) 0
  asked =
      let few = few_reads i (layer_count i) (pixel_at i x y) (ltb-false _ _ spot.2) in
      let here : Asked i (layer_count i) = record { fit = fit; picture = omega arith } in
      record { asked = here; inside = spot_fits.0; room = omega arith }
