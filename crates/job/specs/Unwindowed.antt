-- The pictures of a job whose layers know no window, as document 01 has them: `compose_float`'s own results, one on the other. That a job whose windows hold
-- every pixel has the same pictures is shown in proofs/Windows. Definitions only.
use Rattle.std.specs.Prelude.{◌≡◌, List, ℕ, zero, suc, ◌<◌}
use Rattle.pictures.specs.Shapes.{nat_of}
use Rattle.pictures.specs.FlatWords.{flat}
use Rattle.pictures.specs.Widen.{rgba_at}
use Rattle.layers.specs.Inputs.{Inputs}
use Rattle.layers.specs.Layers.{layer_at}
use Rattle.layers.specs.declared.Window.{Window}
use Rattle.layers.specs.Windows.{HoldsAll}
use Rattle.compose.specs.Unwindowed.{unwindowed_at}
use Rattle.job.specs.Job.{pixel_count, layer_count}

-- `picture_of` (Model), with `unwindowed_at` in the place of `composed_at`
unfoldable pub unwindowed_picture : Inputs → ℕ → List ℕ
unwindowed_picture i zero = flat (rgba_at i.dst (nat_of i.shape.channels)) 0 (pixel_count i)
unwindowed_picture i (suc k) =
    flat
    (unwindowed_at i.samples (layer_at i.table i.args k) (nat_of i.shape.width) (nat_of i.shape.height) (rgba_at (unwindowed_picture i k) 4))
    0
    (pixel_count i)

-- layer k's window
abbrev pub window_at : Inputs → ℕ → Window
window_at i k = (layer_at i.table i.args k).window

-- every layer's window holds every pixel of the destination
abbrev pub AllHeld : Inputs → Type 0
AllHeld i = (k : ℕ) → k < layer_count i → HoldsAll (window_at i k) (nat_of i.shape.width) (nat_of i.shape.height)

-- the window 0, 0, 2,048, 2,048
abbrev pub full_window : Window
full_window = record { left = 0; top = 0; width = 2048; height = 2048 }

-- every layer has it
abbrev pub AllFull : Inputs → Type 0
AllFull i = (k : ℕ) → k < layer_count i → window_at i k ≡ full_window
