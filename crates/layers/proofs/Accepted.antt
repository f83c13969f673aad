-- What is known of a job's inputs that have no fault, and of their layers, for the crates above. Assumes nothing.
use mathlib.Core.Path.{◌≡◌, refl}
use mathlib.Core.Bool.{Bool, true, false, cond}
use mathlib.Core.List.{List}
use Prim.Native.Nat.{ℕ, zero, suc, ◌+◌, ◌*◌, ◌<◌, ◌≤◌}
use native.Mathlib.Nat.{zero-add, add-zero, add-suc, suc-add, le_of_suc-le-suc, le_trans}
use native.Mathlib.Omega.{arith}
use lib.Dec.{eqb, lit≤}
use lib.IntN.{ℤ, pos, negsuc, neg_ℤ}
use lib.ListN.{length}
use lib.Signed.{lt_z, mag}
use borrow.Author.Tests.{eqb-true, eqb-false, ltb-false, not-false}
use Rattle.pictures.specs.declared.Shape.{Shape}
use Rattle.pictures.specs.Shapes.{nat_of, outside_z, most_side, sample_count}
use Rattle.pictures.proofs.Ranges.{both_fail, all_fail, Ranged, ranged, channels_least, channels_most, Shaped, shaped}
use Rattle.places.specs.Bounds.{slack, Measured}
use Rattle.places.specs.Gravities.{last_gravity}
use Rattle.layers.specs.declared.Layer.{Layer}
use Rattle.layers.specs.Cells.{row_at, words_at, cell_of}
use Rattle.layers.specs.Faults.{bad_offset, bad_placing, source_shape, bad_source, layer_checks, layer_fault}
use Rattle.layers.specs.GoodLayers.{GoodLayer, Picture}
use Rattle.layers.specs.Inputs.{Inputs, Verdict, verdict, bad_stack, bad_dst, rows_fault, job_fault}
use Rattle.layers.specs.Layers.{layer_of, layer_at}
use Rattle.layers.specs.Limits.{columns, arg_words, most_layers, most_offset, at_gravity, at_right, at_down, at_first}
use Rattle.layers.proofs.Carried.{carried}
use Rattle.layers.proofs.Checks.{none, passed}

-- inputs without a fault
pub record Accepted (i : Inputs) : Type 0 where
  pub shape : Shaped i.shape
  pub dst : length i.dst ≡ sample_count i.shape
  pub count : Ranged 1 most_layers i.count
  pub table : length i.table ≡ nat_of i.count * columns
  pub args : length i.args ≡ nat_of i.count * arg_words
  pub layer : (k : ℕ) → k < nat_of i.count → GoodLayer (length i.samples) (layer_at i.table i.args k)

-- ---- a row

-- the job's limits lie within the slack of placing
side_slack : {z : ℤ} → Ranged 0 most_side z → nat_of z ≤ slack
side_slack r = le_trans r.most (lit≤ tt)

offset_slack : (z : ℤ) → bad_offset z ≡ false → mag z ≤ slack
unfolding outside_z
offset_slack (pos n) e = omega (arith, ltb-false most_offset n e)
offset_slack (negsuc n) e = omega (arith, ltb-false (mag (neg_ℤ (pos most_offset))) n (both_fail _ false e).0)

module _ (row : List ℤ) (words : List ℕ) (samples : ℕ) where
  placed : bad_placing row ≡ false → (mag (cell_of row at_right) ≤ slack) × (mag (cell_of row at_down) ≤ slack)
  unfolding bad_placing
  placed e =
      let p = all_fail (outside_z (pos 0) (pos last_gravity) (cell_of row at_gravity)) _ _ e in
      (offset_slack (cell_of row at_right) p.1, offset_slack (cell_of row at_down) p.2)

  sourced : bad_source row samples ≡ false → Shaped (source_shape row) × (nat_of (cell_of row at_first) + sample_count (source_shape row) ≤ samples)
  unfolding bad_source
  sourced e = let p = all_fail (lt_z (cell_of row at_first) (pos 0)) _ _ e in (shaped (source_shape row) p.1, ltb-false samples _ p.2)

  good_layer : layer_fault row samples ≡ 0 → GoodLayer samples (layer_of row words)
  unfolding layer_fault layer_of
  good_layer e =
      let n = none (layer_checks row samples) e in
      let p = placed (passed _ _ n.1.0) in
      let s = sourced (passed _ _ n.1.1.1.0) in
      record {
        op = carried _ n.0;
        right = p.0;
        down = p.1;
        width = side_slack s.0.wide;
        height = side_slack s.0.high;
        channels = s.0.deep.kind;
        held = s.1;
        count = (ranged _ _ _ (passed _ _ n.1.1.1.1.0)).most;
      }

-- ---- the rows

module _ (table : List ℤ) (samples : ℕ) where
  -- of the first fault, where it is none
  first_of : (t : Bool) (f k : ℕ) (v : Verdict) → eqb f 0 ≡ t → (cond t v (verdict f k)).number ≡ 0 → (f ≡ 0) × (v.number ≡ 0)
  first_of true f k v e h = (eqb-true f 0 e, h)
  first_of false f k v e h = absurd (eqb-false f 0 e h)

  found_none : (n k : ℕ) → (rows_fault table samples k (suc n)).number ≡ 0 → (layer_fault (row_at table k) samples ≡ 0) × ((rows_fault table samples (suc k) n).number ≡ 0)
  unfolding rows_fault
  found_none n k e = first_of _ (layer_fault (row_at table k) samples) k (rows_fault table samples (suc k) n) refl e

  -- no fault found in n rows is none in each
  rows_none : (n k j : ℕ) → (rows_fault table samples k n).number ≡ 0 → j < n → layer_fault (row_at table (k + j)) samples ≡ 0
  rows_none zero k j e h = absurd (omega arith)
  rows_none (suc n) k zero e h = rw add-zero (found_none n k e).0
  rows_none (suc n) k (suc j) e h = rw (add-suc, ← suc-add) (rows_none n (suc k) j (found_none n k e).1 (le_of_suc-le-suc h))

-- ---- a job's inputs

-- a count of layers with a table and arguments as long as it says
pub record Stacked (count : ℤ) (table args : ℕ) : Type 0 where
  pub number : Ranged 1 most_layers count
  pub rows : table ≡ nat_of count * columns
  pub words : args ≡ nat_of count * arg_words

pub stacked : (count : ℤ) (table args : ℕ) → bad_stack count table args ≡ false → Stacked count table args
unfolding bad_stack
stacked count table args e =
    let p = all_fail _ _ _ e in
    record { number = ranged _ _ _ p.0; rows = eqb-true _ _ (not-false _ p.1); words = eqb-true _ _ (not-false _ p.2) }

-- the samples of a destination in its range
filled : (s : Shape) (dst : ℕ) → bad_dst s dst ≡ false → Shaped s × (dst ≡ sample_count s)
unfolding bad_dst
filled s dst e = let p = both_fail _ _ e in (shaped s p.0, eqb-true _ _ (not-false _ p.1))

-- the tests in turn, where the answer is no fault
in_turn : (a b : Bool) (v : Verdict) → (cond a (verdict 1 0) (cond b (verdict 2 0) v)).number ≡ 0 → (a ≡ false) × (b ≡ false) × (v.number ≡ 0)
in_turn true b v e = absurd (omega arith)
in_turn false true v e = absurd (omega arith)
in_turn false false v e = (refl, refl, e)

pub accepted : (i : Inputs) → (job_fault i).number ≡ 0 → Accepted i
unfolding job_fault layer_at
accepted i e =
    let samples = length i.samples in
    let t = in_turn _ _ (rows_fault i.table samples 0 (nat_of i.count)) e in
    let s = stacked _ _ _ t.0 in
    let f = filled _ _ t.1 in
    record {
      shape = f.0;
      dst = f.1;
      count = s.number;
      table = s.rows;
      args = s.words;
      layer = λ k h. good_layer (row_at i.table k) (words_at i.args k) samples (rw zero-add at (rows_none i.table samples (nat_of i.count) 0 k t.2 h));
    }

-- ---- what the crates above ask of accepted inputs

-- a good layer on a destination whose sides are in bounds can be placed
pub measured : (dw dh samples : ℕ) (l : Layer) → dw ≤ slack → dh ≤ slack → GoodLayer samples l → Measured dw dh l.source.width l.source.height l.right l.down
measured dw dh samples l wide high g = record {
  dst_width = wide;
  dst_height = high;
  width = g.width;
  height = g.height;
  offset_right = g.right;
  offset_down = g.down;
}

-- the destination of accepted inputs
pub destination : (i : Inputs) → Accepted i → Picture (nat_of i.shape.width) (nat_of i.shape.height) (nat_of i.shape.channels) (length i.dst)
destination i g = record {
  width = side_slack g.shape.wide;
  height = side_slack g.shape.high;
  some = channels_least _ g.shape.deep.kind;
  most = channels_most _ g.shape.deep.kind;
  whole = g.dst;
}
