-- A job's inputs and their first fault: document 01's checks 1 and 2, then 3 to 8 and document 02's 13 layer by layer. The checks of the memory
-- that a job is lent, 9 and 10, are not here.
use Rattle.std.specs.Prelude.{Bool, cond, not, ◌||◌, List, ℕ, zero, suc, ◌*◌, eqb, ℤ, pos, length, Result, Ok, Err}
use Rattle.faults.specs.Faults.{NONE, STACK, TRAY}
use Rattle.faults.specs.Numbers.{number_of}
use Rattle.pictures.specs.declared.Shape.{Shape}
use Rattle.pictures.specs.Shapes.{nat_of, outside_z, bad_shape, sample_count}
use Rattle.layers.specs.declared.JobInputs.{JobInputs}
use Rattle.layers.specs.declared.Refusal.{Refusal}
use Rattle.layers.specs.Cells.{row_at}
use Rattle.layers.specs.Faults.{layer_fault}
use Rattle.layers.specs.Limits.{columns, arg_words, most_layers}

-- the destination (document 01: tray), its shape and its samples; the count of layers; the layer table (sheet);
-- the arguments; the source samples (store)
pub record Inputs : Type 0 where
  pub shape : Shape
  pub dst : List ℕ
  pub count : ℤ
  pub table : List ℤ
  pub args : List ℕ
  pub samples : List ℕ

abbrev pub inputs_of : Shape → List ℕ → ℤ → List ℤ → List ℕ → List ℕ → Inputs
inputs_of shape dst count table args samples = record { shape = shape; dst = dst; count = count; table = table; args = args; samples = samples }

-- the same as the code is lent them
abbrev pub inputs_in : JobInputs → Inputs
inputs_in i = inputs_of i.shape i.dst.now i.count i.table.now i.args.now i.samples.now

-- the number of a job's first fault and its layer, 0 and 0 where it has none
pub record Verdict : Type 0 where
  pub number : ℕ
  pub layer : ℕ

abbrev pub verdict : ℕ → ℕ → Verdict
verdict number layer = record { number = number; layer = layer }

-- the same of what the code answers
abbrev pub verdict_of : Result Unit Refusal → Verdict
verdict_of (Ok u) = verdict NONE 0
verdict_of (Err r) = verdict (number_of r.fault) r.layer

-- STACK, for the lengths of the table and of the arguments
unfoldable pub bad_stack : ℤ → ℕ → ℕ → Bool
bad_stack count table args =
    outside_z (pos 1) (pos most_layers) count
    || not (eqb table (nat_of count * columns))
    || not (eqb args (nat_of count * arg_words))

-- TRAY, for the number of the destination's samples
unfoldable pub bad_dst : Shape → ℕ → Bool
bad_dst shape dst = bad_shape shape || not (eqb dst (sample_count shape))

-- the first fault of n rows from row k on, with its row; 0 where there is none
unfoldable pub rows_fault : (table : List ℤ) → (samples k n : ℕ) → Verdict
rows_fault table samples k zero = verdict NONE 0
rows_fault table samples k (suc n) =
    cond (eqb (layer_fault (row_at table k) samples) NONE)
    (rows_fault table samples (suc k) n)
    (verdict (layer_fault (row_at table k) samples) k)

unfoldable pub job_fault : Inputs → Verdict
job_fault i =
    cond (bad_stack i.count (length i.table) (length i.args)) (verdict STACK 0)
    (cond (bad_dst i.shape (length i.dst)) (verdict TRAY 0)
    (rows_fault i.table (length i.samples) 0 (nat_of i.count)))
