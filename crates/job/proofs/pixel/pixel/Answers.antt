-- The next write is the next one of the call, and one more has been made.
use Rattle.std.proofs.Common.{ℕ, ◌*◌, ◌<◌, refl, arith}
use Rattle.job.specs.declared.Part.{Part}
use Rattle.job.specs.Memory.{Mem, position_of}
use Rattle.job.specs.Uses.{Batch}
use Rattle.job.specs.Steps.{most_position, NextPart, Ran}
use Rattle.job.proofs.Checked.{bounded}
use Rattle.job.proofs.Parts.{same_none, same_on, ran_none, ran_on, ran_midway, use_next, use_ran}
use Rattle.job.proofs.pixel.pixel.Goals as goal

-- the pixel is before the picture's end, and the position before the job's
small : {b : Batch} {u₀ u c : ℕ} {p : Part} {m₀ m : Mem} → NextPart b u₀ p m₀ → Ran b u₀ c u m₀ m → c < p.n
    → (4 * p.from < most_position) × (position_of m < most_position)
small {b} q f l =
    let v = ran_midway f q.midway in
    let d = bounded b.inputs v.fit in
    omega arith

pub loop-c-init : goal.loop-c-init
loop-c-init c = (ran_none, same_none)

pub write_of-write-requires : goal.write_of-write-requires
write_of-write-requires c =
    let few = c.requires.2 in
    let l = c.loop-c-test.true in
    let b = small c.requires.0 c.loop-c.invariant.0 l in
    (omega arith, λ h. omega (arith, c.requires.1.room), b.0, b.1)

pub store-requires : goal.store-requires
store-requires c =
    use_next c.requires.0 c.requires.1 c.requires.2 c.loop-c-test.true c.loop-c.invariant.0 c.write_of-write.ensures

pub loop-c-preserved : goal.loop-c-preserved
loop-c-preserved c =
    let n = use_next c.requires.0 c.requires.1 c.requires.2 c.loop-c-test.true c.loop-c.invariant.0 c.write_of-write.ensures in
    (ran_on refl c.loop-c.invariant.0 (use_ran n (c.store.ensures.0, c.store.ensures.1)), same_on c.loop-c.invariant.1 c.store.ensures.2)
