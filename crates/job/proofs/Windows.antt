-- A job whose windows hold every pixel of the destination has the pictures of document 01, which knows no window: each of them (`pictures_unwindowed`), and so
-- the finished one after any list of calls (`finished_unwindowed`). Such are the windows 0, 0, 2,048, 2,048 on a destination whose sides are at most 2,048
-- (`full_held`). No function's proof cites this. Assumes nothing.
use mathlib.Core.Path.{◌≡◌, refl, ap, ◌∙◌}
use mathlib.Core.List.{List, [], ◌∷◌}
use Prim.Native.Nat.{ℕ, zero, suc, ◌+◌, ◌≤◌}
use native.Mathlib.Nat.{zero-add}
use native.Mathlib.Omega.{arith}
use Rattle.faults.specs.Faults.{NONE}
use Rattle.pictures.specs.Shapes.{nat_of}
use Rattle.pictures.specs.Widen.{rgba_at}
use Rattle.pictures.specs.FlatWords.{flat}
use Rattle.pictures.proofs.FlatWords.{flat_same}
use Rattle.layers.specs.Inputs.{Inputs}
use Rattle.layers.specs.Layers.{layer_at}
use Rattle.compose.specs.Unwindowed.{unwindowed_at}
use Rattle.layers.proofs.Sides.{large_holds}
use Rattle.compose.proofs.Windows.{pixel_unwindowed}
use Rattle.job.specs.Memory.{mem_of, position_of, work_of}
use Rattle.job.specs.Job.{pixel_count, layer_count, end_of, call_fault}
use Rattle.job.specs.Model.{Call, picture_of}
use Rattle.job.specs.Demand.{Fair, memory_after, program_of}
use Rattle.job.specs.Unwindowed.{unwindowed_picture, AllHeld, AllFull}
use Rattle.job.proofs.Demand.{demand_3}

module _ (i : Inputs) where
  pub full_held : nat_of i.shape.width ≤ 2048 → nat_of i.shape.height ≤ 2048 → AllFull i → AllHeld i
  full_held wide high full k h = rw (full k h) (large_holds _ _ _ refl refl wide high)

  module _ (held : AllHeld i) where
    pub pictures_unwindowed : (k : ℕ) → k ≤ layer_count i → picture_of i k ≡ unwindowed_picture i k
    unfolding picture_of unwindowed_picture
    pictures_unwindowed zero h = refl
    pictures_unwindowed (suc k) h =
        let l = layer_at i.table i.args k in
        let w = nat_of i.shape.width in
        let n = nat_of i.shape.height in
        flat_same _ _ 0 0 (pixel_count i) (λ j b. pixel_unwindowed i.samples l w n (rgba_at (picture_of i k) 4) (0 + j) (held k (omega arith)) (rw zero-add b))
        ∙ ap (λ (p : List ℕ). flat (unwindowed_at i.samples l w n (rgba_at p 4)) 0 (pixel_count i)) (pictures_unwindowed k (omega arith))

    pub finished_unwindowed :
        (job : ℕ) (work0 work1 : List ℕ)
        → (call_fault i job (mem_of work0 work1 (0 ∷ job ∷ []))).number ≡ NONE
        → (calls : List Call)
        → Fair i (mem_of work0 work1 (0 ∷ job ∷ [])) calls
        → position_of (memory_after (program_of i job) (mem_of work0 work1 (0 ∷ job ∷ [])) calls) ≡ end_of i
        → work_of (layer_count i) (memory_after (program_of i job) (mem_of work0 work1 (0 ∷ job ∷ [])) calls) ≡ unwindowed_picture i (layer_count i)
    finished_unwindowed job work0 work1 e calls f done =
        (demand_3 i job work0 work1 e calls f).finished done ∙ pictures_unwindowed (layer_count i) (omega arith)
