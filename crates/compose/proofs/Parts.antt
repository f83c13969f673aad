-- Runs of pixels over a part of a picture, or over pixels in a list of their own, and into a part of the output. Assumes nothing.
use mathlib.Core.Path.{◌≡◌, ap, ◌∙◌}
use mathlib.Core.List.{List, [], ◌++◌, append-nil, append_assoc}
use Prim.Native.Nat.{ℕ, ◌+◌, ◌-◌, ◌*◌, ◌/◌, ◌%◌, ◌<◌, ◌≤◌}
use native.Mathlib.Nat.{zero-add}
use native.Mathlib.Omega.{arith}
use lib.ListN.{length, take, drop, length-drop, drop_of_length-le}
use lib.Seq.{take_all, take_at, drop_at, drop-drop}
use borrow.Rule.Slice.PartMut.{mid_of, put_mid}
use Rattle.pictures.specs.Widen.{rgba_at, values_of}
use Rattle.pictures.specs.FlatWords.{flat}
use Rattle.pictures.specs.Steps.{filled, put_of, values_at}
use Rattle.pictures.specs.declared.Words.{Words}
use Rattle.pictures.proofs.FlatWords.{flat_same, flat_append, length_flat, filled_more, part_at, flat_pixel}
use Rattle.compose.specs.Plans.{composed_by, pixels_from, pixel_on}
use Rattle.compose.specs.declared.Plan.{Plan}

-- pixel i of the part from pixel n on
pub rest_at : (l : List ℕ) (n i : ℕ) → rgba_at (take (length l - 4 * n) (drop (4 * n) l)) 4 i ≡ rgba_at l 4 (n + i)
rest_at l n i = rw (take_all (length l - 4 * n) (drop (4 * n) l) (simp length-drop (omega arith))) (part_at l n i)

-- pixel i of a list into which n pixels were put
pub filled_at : (f : ℕ → Words) {own : List ℕ} (before : List ℕ) (n i : ℕ) → own ≡ filled f n before → i < n → rgba_at own 4 i ≡ f i
filled_at f before n i e h = rw e (flat_pixel f 0 n (drop (4 * n) before) i h) ∙ ap f (zero-add i)

-- a run of no pixels
pub none_filled : (f : ℕ → Words) (n : ℕ) (o : List ℕ) → n ≡ 0 → o ≡ filled f n o
unfolding flat
none_filled f n o e = rw e

-- one pixel more
pub put_more : (f : ℕ → Words) (i : ℕ) {out : List ℕ} (o : List ℕ) {w : Words} → out ≡ filled f i o → 4 * (i + 1) ≤ length o → w ≡ f i → put_of out i w ≡ filled f (i + 1) o
put_more f i o {w} e h = rw e (filled_more f i o w h)

-- a run whose own pixels are those of the picture beneath, from pixel `from` on
pub own_beneath : (p : Plan) (source : List ℕ) (beneath own : ℕ → Words) (from n : ℕ) (out : List ℕ) → ((i : ℕ) → i < n → own i ≡ beneath (from + i))
    → filled (pixels_from p source (λ k. values_of (beneath k)) own from) n out ≡ filled (λ i. pixel_on p source beneath (from + i)) n out
own_beneath p source beneath own from n out e =
    ap (λ (x : List ℕ). x ++ drop (4 * n) out)
    (flat_same _ _ 0 0 n (λ j h. ap (λ (w : Words). composed_by p source (λ k. values_of (beneath k)) w ((from + (0 + j)) % p.dw) ((from + (0 + j)) / p.dw)) (e (0 + j) (omega arith))))

-- m pixels more, written into the part that begins after the first j
module _ (f : ℕ → Words) (j m : ℕ) (o out part : List ℕ) (before : out ≡ filled f j o) (same : length out ≡ length o) (room : 4 * (j + m) ≤ length o) where
  rest : drop (4 * j) out ≡ drop (4 * j) o
  rest = rw before (drop_at (flat f 0 j) (drop (4 * j) o) (4 * j) (length_flat f 0 j))

  lent : mid_of (4 * j) (length out - 4 * j) out ≡ drop (4 * j) o
  lent = take_all (length out - 4 * j) (drop (4 * j) out) (simp length-drop (omega arith)) ∙ rest

  none : drop (length out - 4 * j) (drop (4 * j) out) ≡ []
  none = drop_of_length-le (drop (4 * j) out) {i = length out - 4 * j} (simp length-drop (omega arith))

  front : take (4 * j) out ≡ flat f 0 j
  front = rw before (take_at (flat f 0 j) (drop (4 * j) o) (4 * j) (length_flat f 0 j))

  pub part_more : part ≡ filled (λ i. f (j + i)) m (mid_of (4 * j) (length out - 4 * j) out) → put_mid (4 * j) (length out - 4 * j) out part ≡ filled f (j + m) o
  part_more e =
      let four : 4 * j + 4 * m ≡ 4 * (j + m) = omega arith in
      let written : part ≡ flat f j m ++ drop (4 * (j + m)) o =
      e ∙ rw (lent, drop-drop (4 * m) (4 * j) o, four) (ap (λ (x : List ℕ). x ++ drop (4 * (j + m)) o) (flat_same (λ i. f (j + i)) f 0 j m (λ i h. ap f (ap (λ (x : ℕ). j + x) (zero-add i))))) in
      rw (front, written, none, append-nil, flat_append f 0 j m, zero-add, append_assoc)

-- a step of the whole picture: n pixels more, whose own pixels stand in a buffer
pub span_more : (p : Plan) (source dst : List ℕ) (channels j n : ℕ) (before o : List ℕ) {own out part : List ℕ}
    → out ≡ filled (pixel_on p source (rgba_at dst channels)) j o → length out ≡ length o → 4 * (j + n) ≤ length o
    → own ≡ filled (λ i. rgba_at dst channels (j + i)) n before
    → part ≡ filled (pixels_from p source (values_at dst channels) (rgba_at own 4) j) n (mid_of (4 * j) (length out - 4 * j) out)
    → put_mid (4 * j) (length out - 4 * j) out part ≡ filled (pixel_on p source (rgba_at dst channels)) (j + n) o
span_more p source dst channels j n before o {own} {out} {part} e same room held run =
    part_more _ j n o out part e same room (run ∙ own_beneath p source (rgba_at dst channels) (rgba_at own 4) j n _ (λ i. filled_at _ before n i held))
