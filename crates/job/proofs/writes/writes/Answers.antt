-- In a pass of the loop the position is before the job's end, the span is the next part, and the buffer holds its pixels.
use Rattle.std.proofs.Common.{ℕ, ◌≡◌, ◌+◌, ◌-◌, ◌*◌, ◌/◌, ◌%◌, ◌<◌, ◌≤◌, min, sym, arith}
use native.Mathlib.Nat.{div-add-mod'}
use Rattle.job.specs.declared.Part.{Part}
use Rattle.job.specs.Memory.{Mem, mem_in}
use Rattle.job.specs.Job.{pixel_count, phase_at, pixel_at, end_of}
use Rattle.job.specs.Uses.{Batch, Midway}
use Rattle.job.specs.Steps.{NextPart, Ran, Fillable, pixels_of}
use Rattle.job.proofs.Checked.{Bounded, bounded, phase_within, pixel_within}
use Rattle.job.proofs.Parts.{same_none, same_on, ran_none, ran_on, ran_midway, buffered}
use Rattle.job.proofs.writes.writes.Goals as goal

-- ---- what holds in a pass of the loop

module _ {b : Batch} {u : ℕ} {m₀ m : Mem} (start : Midway b 0 m₀) (f : Ran b 0 u u m₀ m) (due : u < b.due) where
  abbrev position : ℕ
  position = b.start + u / 5

  bounds : Bounded b.inputs
  bounds = bounded b.inputs start.fit

  -- the position is before the end, and its pixel in the picture
  room : position < end_of b.inputs
  room = let w = start.within in omega arith

  inner : pixel_at b.inputs position < pixel_count b.inputs
  inner = pixel_within b.inputs position room

  -- the span that is next: after whole pixels, writes that are due and lie in the picture at the position
  module _
      (fresh : u % 5 ≡ 0) {k n : ℕ} (few : k ≡ min (5 * (pixel_count b.inputs - pixel_at b.inputs position)) (b.due - u)) (span : n ≡ min k 640)
    where
      abbrev part : Part
      part = record { k = phase_at b.inputs position; from = pixel_at b.inputs position; n = n }

      next : NextPart b u part m
      next = record {
        midway = ran_midway f start;
        fresh = fresh;
        place = omega (arith, div-add-mod' position (pixel_count b.inputs));
        inside = omega (arith, inner);
        left = omega arith;
      }

      short : 4 * pixels_of part ≤ 512
      short = omega arith

      fillable : Fillable b part m.work0 m.work1
      fillable = record {
        fit = start.fit;
        works = (ran_midway f start).sized.works;
        phase = phase_within b.inputs position room;
        inside = omega (arith, inner);
      }

      more : {u' : ℕ} → u' ≡ u + n → (u' ≤ b.due) × (u' < b.due → u' % 5 ≡ 0) × (b.due - u' < b.due - u)
      more e = (omega arith, λ h. omega arith, omega (arith, inner))

-- ---- the goals

pub pixel_count-pixels-requires : goal.pixel_count-pixels-requires
pixel_count-pixels-requires c = c.requires.1.fit

pub loop-uses-init : goal.loop-uses-init
loop-uses-init c = let z = c.requires.0 in record { within = omega arith; whole = λ t. omega arith; ran = rw z ran_none; same = same_none }

pub overflow_add-at : goal.overflow_add-at
overflow_add-at c =
    let f = c.loop-uses.invariant.ran in
    let t = c.loop-uses-test.true in
    omega (arith, room c.requires.1 f t, (bounds c.requires.1 f t).end)

pub nonzero_rem-from : goal.nonzero_rem-from
nonzero_rem-from c = omega (arith, c.pixel_count-pixels.ensures, inner c.requires.1 c.loop-uses.invariant.ran c.loop-uses-test.true)

pub overflow_mul-in_picture : goal.overflow_mul-in_picture
overflow_mul-in_picture c =
    omega (arith, c.pixel_count-pixels.ensures, (bounds c.requires.1 c.loop-uses.invariant.ran c.loop-uses-test.true).pixels)

pub fill-requires : goal.fill-requires
fill-requires c =
    let i = c.loop-uses.invariant in
    let t = c.loop-uses-test.true in
    let few = rw c.pixel_count-pixels.ensures at c.min.ensures in
    rw c.pixel_count-pixels.ensures
    (fillable c.requires.1 i.ran t (i.whole t) few c.min-n.ensures, omega (arith, short c.requires.1 i.ran t (i.whole t) few c.min-n.ensures))

pub write_out-requires : goal.write_out-requires
write_out-requires c =
    let i = c.loop-uses.invariant in
    let t = c.loop-uses-test.true in
    let l = c.loop-uses in
    let few = rw c.pixel_count-pixels.ensures at c.min.ensures in
    rw c.pixel_count-pixels.ensures (
      next c.requires.1 i.ran t (i.whole t) few c.min-n.ensures,
      buffered
          (mem_in l.memory)
          _
          (omega (arith, short c.requires.1 i.ran t (i.whole t) few c.min-n.ensures))
          (rw c.pixel_count-pixels.ensures at c.fill.ensures),
    )

pub loop-uses-smaller : goal.loop-uses-smaller
loop-uses-smaller c =
    let i = c.loop-uses.invariant in
    let t = c.loop-uses-test.true in
    let few = rw c.pixel_count-pixels.ensures at c.min.ensures in
    (more c.requires.1 i.ran t (i.whole t) few c.min-n.ensures c.write_out.ensures.0.count).2

pub loop-uses-preserved : goal.loop-uses-preserved
loop-uses-preserved c =
    let i = c.loop-uses.invariant in
    let t = c.loop-uses-test.true in
    let w = c.write_out.ensures.0 in
    let few = rw c.pixel_count-pixels.ensures at c.min.ensures in
    let r = more c.requires.1 i.ran t (i.whole t) few c.min-n.ensures w.count in
    record { within = r.0; whole = r.1; ran = ran_on (sym w.count) i.ran w; same = same_on i.same c.write_out.ensures.1 }
