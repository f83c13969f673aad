-- The writes of a call, part after part: what a part asks after another, and what it adds; and the buffer that a part's pixels are composed into. Assumes
-- nothing.
use mathlib.Core.Path.{◌≡◌, refl, sym, ◌∙◌, ap}
use mathlib.Core.List.{List, []}
use Prim.Native.Nat.{ℕ, ◌+◌, ◌*◌, ◌/◌, ◌%◌, ◌<◌, ◌≤◌, zero, suc, ◌-◌}
use native.Mathlib.Nat.{add-zero, add_assoc, zero-add}
use native.Mathlib.Omega.{arith}
use lib.ListN.{length}
use borrow.Author.Tests.{eq-eqb, ne_eqb}
use Rattle.places.specs.Bounds.{slack}
use Rattle.layers.specs.declared.Layer.{Layer}
use Rattle.pictures.specs.Shapes.{nat_of}
use Rattle.layers.specs.Inputs.{Inputs}
use Rattle.layers.specs.Layers.{layer_at}
use Rattle.pictures.specs.Widen.{rgba_at}
use Rattle.pictures.specs.Steps.{filled}
use Rattle.pictures.proofs.FlatWords.{flat_pixel}
use Rattle.compose.specs.declared.Plan.{Plan}
use Rattle.compose.specs.Compose.{source_of}
use Rattle.compose.specs.Plans.{plan_of, pixel_on}
use Rattle.compose.specs.Ready.{Planned, Span}
use Rattle.job.specs.declared.Part.{Part}
use Rattle.job.specs.declared.Write.{Write}
use Rattle.job.specs.declared.Memory.{Memory}
use Rattle.job.specs.Memory.{SameLists, Mem, put, write_of, position_of, mem_of, work_in}
use Rattle.job.specs.Steps.{NextPart, Ran, pixels_of, Buffered}
use Rattle.job.specs.Job.{pixel_count}
use Rattle.job.specs.Call.{phase_pixel, run_of}
use Rattle.job.specs.Uses.{NextUse, Batch, Midway}
use Rattle.job.proofs.Runs.{InRange, write_range, write_is, run_split, run_midway, run_under, under_pixel}

-- ---- the lists that are lent

pub same_none : {m : Memory} → SameLists m m
same_none = record { work0 = refl; work1 = refl; checkpoint = refl }

pub same_on : {m m' m'' : Memory} → SameLists m m' → SameLists m' m'' → SameLists m m''
same_on s t = record { work0 = t.work0 ∙ s.work0; work1 = t.work1 ∙ s.work1; checkpoint = t.checkpoint ∙ s.checkpoint }

module _ {b : Batch} where
  -- ---- writes after writes

  pub ran_none : {u : ℕ} {m : Mem} → Ran b u 0 u m m
  unfolding run_of
  ran_none = record { memory = refl; count = omega arith }

  pub ran_on : {u x u' y u'' n : ℕ} {m m' m'' : Mem} → x + y ≡ n → Ran b u x u' m m' → Ran b u' y u'' m' m'' → Ran b u n u'' m m''
  ran_on e f g = record { memory = rw (g.memory, f.memory, f.count, ← e, run_split, add_assoc); count = omega arith }

  -- the same number of writes
  pub ran_as : {u x u' n : ℕ} {m m' : Mem} → x ≡ n → Ran b u x u' m m' → Ran b u n u' m m'
  ran_as e f = rw e at f

  -- ---- what they leave

  module _ {u x u' : ℕ} {m m' : Mem} (f : Ran b u x u' m m') where
    pub ran_midway : Midway b u m → Midway b u' m'
    ran_midway h = rw (f.count, f.memory) (run_midway h x)

    -- the lists have kept their lengths
    pub ran_lengths : Midway b u m
        → (length m'.work0 ≡ length m.work0) × (length m'.work1 ≡ length m.work1) × (length m'.checkpoint ≡ length m.checkpoint)
    ran_lengths h = let v = ran_midway h in omega arith

    -- the phase's pixels are the same
    part_pixel : {p : Part} → NextPart b u p m → x ≤ p.n → (y : ℕ) → phase_pixel b.inputs m' p.k y ≡ phase_pixel b.inputs m p.k y
    part_pixel {p} q h y =
        rw f.memory (under_pixel b.inputs p.k _ m y (run_under b.inputs (5 * b.start + u) x p.k p.from m (omega arith) (omega arith)))

    -- out of a buffer, after the pixels before pixel y: its first c writes
    pub pixel_asks : {p : Part} {buf : List ℕ} (y c : ℕ) → NextPart b u p m → Buffered b p m 0 buf → x ≡ 5 * y → x + c ≤ p.n → c ≤ 5
        → let p' : Part = record { k = p.k; from = p.from + y; n = c } in NextPart b u' p' m' × Buffered b p' m' y buf × (c ≤ 5)
    pixel_asks {p} y c q w e l few =
        let v = ran_midway q.midway in (
          omega arith,
          record {
            room = omega arith;
            pixel = λ z o. rw add_assoc (rw zero-add at (w.pixel (y + z) (omega arith)) ∙ sym (part_pixel q (omega arith) (p.from + (y + z))));
          },
          few,
        )

  -- ---- one write

  -- after c writes of a pixel, write c of its five is the next
  pub use_next : {u₀ u x c : ℕ} {p : Part} {m₀ m : Mem} {buf : List ℕ} {w : Write} → NextPart b u₀ p m₀ → Buffered b p m₀ x buf → p.n ≤ 5
      → c < p.n → Ran b u₀ c u m₀ m → w ≡ write_of p.k p.from (rgba_at buf 4 x) (position_of m + 1) c → NextUse b u m w
  use_next {u = u} {c = c} {p = p} {m = m} q y few l f e =
      let t = 5 * b.start + u in
      let v = ran_midway f q.midway in
      let at : t / 5 ≡ p.k * pixel_count b.inputs + p.from = omega arith in
      let raised : position_of m ≡ t / 5 = omega arith in
      let number : c ≡ t % 5 = omega arith in
      let same = part_pixel f q (omega arith) p.from in
      let words = rw (add-zero, add-zero) at (y.pixel 0 (omega arith)) in
      record { midway = v; left = omega arith; next = cc (write_is b.inputs m t p.k p.from at (omega arith)) }

  -- the number that it changes is there
  pub use_range : {u : ℕ} {m : Mem} {w : Write} → NextUse b u m w → InRange m w
  use_range {u} {m} h = rw h.next (write_range b.inputs m (5 * b.start + u) h.midway.sized (omega arith))

  -- it has been made
  pub use_ran : {u u' : ℕ} {m m' : Mem} {w : Write} → NextUse b u m w → (m' ≡ put w m) × (u' ≡ u + 1) → Ran b u 1 u' m m'
  unfolding run_of
  use_ran h (e, g) = record { memory = rw (e, h.next, add-zero); count = g }

-- ---- the buffer

-- an even picture stands in work 0, an odd one in work 1
pub work_even : (k : ℕ) (work0 work1 : List ℕ) → k % 2 ≡ 0 → work0 ≡ work_in k work0 work1
work_even k work0 work1 e = rw (eq-eqb (k % 2) 0 e)

pub work_odd : (k : ℕ) (work0 work1 : List ℕ) → (k % 2 ≡ 0 → ⊥) → work1 ≡ work_in k work0 work1
work_odd k work0 work1 h = rw (ne_eqb (k % 2) 0 h)

module _ (i : Inputs) (work0 work1 : List ℕ) (from n : ℕ) (out : List ℕ) where
  -- phase 0 widens the destination
  pub fill_first : {k : ℕ} → k ≡ 0
      → filled (λ x. rgba_at i.dst (nat_of i.shape.channels) (from + x)) n out ≡ filled (λ x. phase_pixel i (mem_of work0 work1 []) k (from + x)) n out
  unfolding phase_pixel
  fill_first e = rw e

  -- a later one composites its layer, decoded, on the picture beneath
  pub fill_later : {k : ℕ} {l : Layer} {p : Plan} {source : List ℕ} → (k ≡ 0 → ⊥) → l ≡ layer_at i.table i.args (k - 1)
      → Planned l (nat_of i.shape.width) (nat_of i.shape.height) p → source ≡ source_of i.samples l.source
      → filled (λ x. pixel_on p source (rgba_at (work_in (k - 1) work0 work1) 4) (from + x)) n out
      ≡ filled (λ x. phase_pixel i (mem_of work0 work1 []) k (from + x)) n out
  unfolding phase_pixel
  fill_later {k = zero} h el ep es = absurd (h refl)
  fill_later {k = suc k} h el ep es =
      let e : suc k - 1 ≡ k = omega arith in
      simp (es, e, ep.composes i.samples (rgba_at (work_in k work0 work1) 4)) (simp (el, e))

-- the picture beneath, as the layer's plan asks for it
pub plan_span : (l : Layer) {dw dh : ℕ} {p : Plan} {words from n : ℕ} → p ≡ plan_of l dw dh → dw ≤ slack → dh ≤ slack → words ≡ 4 * (dw * dh) → from + n ≤ dw * dh
    → Span p words 4 from n
unfolding plan_of
plan_span l e w h k i = rw e (omega arith)

-- the pixels of a part, in a buffer that was filled with them
pub buffered : {b : Batch} {p : Part} {buf : List ℕ} (m : Mem) (out : List ℕ) → 4 * pixels_of p ≤ length buf
    → buf ≡ filled (λ x. phase_pixel b.inputs (mem_of m.work0 m.work1 []) p.k (p.from + x)) (pixels_of p) out → Buffered b p m 0 buf
buffered {b} {p} m out h e = record {
  room = omega arith;
  pixel = λ x l.
      rw zero-add
      (ap (λ (xs : List ℕ). rgba_at xs 4 x) e
      ∙ flat_pixel _ 0 (pixels_of p) _ x (omega arith)
      ∙ rw zero-add (under_pixel b.inputs p.k _ m (p.from + x) (λ y f. refl)));
}
