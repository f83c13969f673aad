-- A single composition: document 01, "A single composition takes one layer and an output picture as long as that of `compose_float` (9 if it is
-- not), has no mark and answers a number alone." Definitions only.
use Rattle.std.specs.Prelude.{cond, List, ℕ, ◌*◌, eqb, length}
use Rattle.faults.specs.Faults.{NONE, WORK}
use Rattle.pictures.specs.Shapes.{nat_of}
use Rattle.layers.specs.Inputs.{Inputs, job_fault}
use Rattle.layers.specs.Layers.{layer_at}
use Rattle.compose.specs.Compose.{composed_of}

-- the number that is answered and the whole output
pub record Composed : Type 0 where
  pub number : ℕ
  pub output : List ℕ

abbrev pub composed : ℕ → List ℕ → Composed
composed number output = record { number = number; output = output }

-- the picture of the inputs' first layer on their destination
abbrev pub output_of : Inputs → List ℕ
output_of i =
    composed_of i.samples (layer_at i.table i.args 0) (nat_of i.shape.width) (nat_of i.shape.height) (nat_of i.shape.channels) i.dst

-- refused under the number of the first fault, with the output as it was; else the picture
unfoldable pub compose_of : Inputs → List ℕ → Composed
compose_of i out =
    cond (eqb (job_fault i).number NONE)
    (cond (eqb (length out) (4 * (nat_of i.shape.width * nat_of i.shape.height))) (composed NONE (output_of i)) (composed WORK out))
    (composed (job_fault i).number out)
