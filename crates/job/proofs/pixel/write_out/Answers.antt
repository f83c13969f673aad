-- Each whole pixel is the next part, and the last pixel's writes are the part after them.
use Rattle.std.proofs.Common.{ℕ, ◌≡◌, ◌+◌, ◌*◌, ◌/◌, ◌%◌, ◌<◌, ◌≤◌, refl, arith}
use Rattle.job.proofs.Parts.{same_none, same_on, ran_none, ran_on, pixel_asks}
use Rattle.job.proofs.pixel.write_out.Goals as goal

-- ---- how many writes, apart from the code: a search over few facts

whole : (n x : ℕ) → x < n / 5 → 5 * x + 5 ≤ n
whole n x l = omega arith

five : 5 ≤ 5
five = omega arith

one_more : (x : ℕ) → 5 * x + 5 ≡ 5 * (x + 1)
one_more x = omega arith

-- the whole pixels and the last
all : (n x : ℕ) → x ≤ n / 5 → n / 5 ≤ x → (5 * x ≡ 5 * (n / 5)) × (5 * x + n % 5 ≡ n) × (5 * x + n % 5 ≤ n) × (n % 5 ≤ 5)
all n x l h = omega arith

-- ---- the goals

pub loop-x-init : goal.loop-x-init
loop-x-init c = (ran_none, same_none)

pub pixel-requires : goal.pixel-requires
pixel-requires c = pixel_asks c.loop-x.invariant.0 c.loop-x.x 5 c.requires.0 c.requires.1 refl (whole _ _ c.loop-x-test.true) five

pub loop-x-preserved : goal.loop-x-preserved
loop-x-preserved c = (ran_on (one_more _) c.loop-x.invariant.0 c.pixel.ensures.0, same_on c.loop-x.invariant.1 c.pixel.ensures.1)

pub pixel-requires-2 : goal.pixel-requires-2
pixel-requires-2 c =
    let r = all c.args.part.n c.loop-x.x c.loop-x.auto.x-end c.loop-x-test.false in
    pixel_asks c.loop-x.invariant.0 _ _ c.requires.0 c.requires.1 r.0 r.2 r.3

pub returns : goal.returns
returns c =
    let r = all c.args.part.n c.loop-x.x c.loop-x.auto.x-end c.loop-x-test.false in
    (ran_on r.1 c.loop-x.invariant.0 c.pixel-2.ensures.0, same_on c.loop-x.invariant.1 c.pixel-2.ensures.1)
