-- One law for phase 0 and one for the others, which read the work buffer of the picture beneath.
use Rattle.std.proofs.Common.{ℕ, ◌≡◌, ◌+◌, ◌-◌, ◌*◌, ◌<◌, ◌≤◌, List, length, ◌∙◌, arith}
use mathlib.Core.Path.{subst⁻¹}
use native.Mathlib.Nat.{mul-le-mul_right, mul_comm}
use Rattle.pictures.specs.Shapes.{nat_of}
use Rattle.layers.specs.GoodLayers.{GoodLayer}
use Rattle.layers.specs.declared.Layer.{Layer}
use Rattle.layers.specs.Inputs.{inputs_in}
use Rattle.layers.specs.Layers.{layer_at}
use Rattle.layers.proofs.Accepted.{Accepted, accepted, destination}
use Rattle.pictures.proofs.Ranges.{channels_least, channels_most}
use Rattle.compose.specs.declared.Plan.{Plan}
use Rattle.compose.specs.Ready.{Ready, Span, Planned}
use Rattle.job.specs.declared.Part.{Part}
use Rattle.job.specs.Memory.{work_in}
use Rattle.job.specs.Job.{pixel_count, layer_count}
use Rattle.job.specs.Uses.{Batch}
use Rattle.job.specs.Steps.{Fillable, pixels_of}
use Rattle.job.proofs.Parts.{work_even, work_odd, fill_first, fill_later, plan_span}
use Rattle.job.proofs.fill.fill.Goals as goal
use Rattle.job.proofs.fill.fill.Goals.{then-part-eq0-2, else-part-eq0-2}

-- ---- the inputs, which have no fault

fit : {b : Batch} {p : Part} {work0 work1 : List ℕ} → Fillable b p work0 work1 → Accepted b.inputs
fit {b} f = accepted b.inputs f.fit

-- the layer of a later phase
inside : {b : Batch} {p : Part} {work0 work1 : List ℕ} → Fillable b p work0 work1 → (p.k ≡ 0 → ⊥) → p.k - 1 < layer_count b.inputs
inside f h = let l = f.phase in omega arith

good : {b : Batch} {p : Part} {work0 work1 : List ℕ} {l : Layer} → Fillable b p work0 work1 → (p.k ≡ 0 → ⊥)
    → l ≡ layer_at b.inputs.table b.inputs.args (p.k - 1) → GoodLayer (length b.inputs.samples) l
good {b} f h e = subst⁻¹ (GoodLayer (length b.inputs.samples)) e ((fit f).layer _ (inside f h))

-- what composing asks, for the work buffer that it reads
beneath : {b : Batch} {p : Part} {work0 work1 : List ℕ} {l : Layer} {q : Plan} {source words : ℕ} → Fillable b p work0 work1
    → Planned l (nat_of b.inputs.shape.width) (nat_of b.inputs.shape.height) q
    → source ≡ l.source.width * l.source.height * l.source.channels
    → words ≡ 4 * pixel_count b.inputs
    → Ready q source × Span q words 4 p.from (pixels_of p)
beneath {b} {q = q} f r s e =
    let d = destination b.inputs (fit f) in
    (subst⁻¹ (Ready q) s r.ready, plan_span _ r.made d.width d.height e f.inside)

-- ---- the goals

pub widen-requires : goal.widen-requires
widen-requires c =
    let f = c.requires.0 in
    let a = fit f in
    let n = nat_of c.args.extent.inputs.shape.channels in
    let k = a.shape.deep.kind in
    let within : c.args.part.from + c.div_ceil-count.result ≤ pixel_count (inputs_in c.args.extent.inputs) = omega (arith, f.inside) in
    rw c.channels_of.ensures
    (omega (arith, channels_least n k, channels_most n k, mul-le-mul_right n within, mul_comm n (c.args.part.from + c.div_ceil-count.result)))

pub returns-then-part-eq0 : goal.returns-then-part-eq0
returns-then-part-eq0 c =
    let count : c.div_ceil-count.result ≡ pixels_of c.args.part = omega arith in
    simp (c.channels_of.ensures, count) at c.widen.ensures ∙ fill_first _ _ _ _ _ _ c.if-part-eq0.true

pub at-layer-requires : goal.at-layer-requires
at-layer-requires c =
    let f = c.requires.0 in
    let a = fit f in
    omega (arith, inside f c.if-part-eq0.false)

pub plan-p-requires : goal.plan-p-requires
plan-p-requires c =
    let f = c.requires.0 in
    let a = fit f in
    let g = good f c.if-part-eq0.false c.at-layer.ensures in
    omega (arith, channels_least _ g.channels, channels_most _ g.channels)

pub source_of-source-requires : goal.source_of-source-requires
source_of-source-requires c = good c.requires.0 c.if-part-eq0.false c.at-layer.ensures

pub span-requires : goal.span-requires
span-requires c =
    let f = c.requires.0 in
    let count : c.div_ceil-count.result ≡ pixels_of c.args.part = omega arith in
    let planned = rw (c.width_of.ensures, c.height_of.ensures) at c.plan-p.ensures in
    let words : length c.if-part-eq0-2.beneath.now ≡ 4 * pixel_count (inputs_in c.args.extent.inputs) =
    elim c.if-part-eq0-2.branch [ then-part-eq0-2 w ↦ rw w.beneath-is f.works.length0 | else-part-eq0-2 w ↦ rw w.beneath-is f.works.length1 ]
    in
    let r = beneath f planned c.source_of-source.ensures.1 words in
    rw count (r.0, r.1, c.requires.1)

pub returns : goal.returns
returns c =
    let count : c.div_ceil-count.result ≡ pixels_of c.args.part = omega arith in
    let planned = rw (c.width_of.ensures, c.height_of.ensures) at c.plan-p.ensures in
    let read : c.if-part-eq0-2.beneath.now ≡ work_in (c.args.part.k - 1) c.args.memory.now.work0.now c.args.memory.now.work1.now =
    elim c.if-part-eq0-2.branch [
      | then-part-eq0-2 w ↦ rw w.beneath-is (work_even _ _ _ w.if-part-eq0-2.true)
      | else-part-eq0-2 w ↦ rw w.beneath-is (work_odd _ _ _ w.if-part-eq0-2.false)
    ]
    in
    simp (read, count) at c.span.ensures ∙ fill_later _ _ _ _ _ _ c.if-part-eq0.false c.at-layer.ensures planned c.source_of-source.ensures.0
