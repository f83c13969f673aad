-- The first fault decides, then the output's length; else the picture is the first layer's. Assumes nothing.
use Rattle.std.proofs.Common.{pos, sym, ◌∙◌, arith}
use Rattle.std.proofs.lemmas.Result.{err_from_is_err_and}
use Rattle.faults.proofs.Apart.{never_none}
use Rattle.layers.specs.Inputs.{inputs_of}
use Rattle.pictures.specs.Shapes.{nat_of}
use Rattle.compose.proofs.Outcomes.{refusing, Accepting, accepting}
use Rattle.compose.proofs.single.compose.Goals as goal
use Rattle.compose.proofs.single.compose.Goals.{After-channels_of-depth}

pub returns-in-Err : goal.returns-in-Err
returns-in-Err c = refusing _ _ c.in-Err.ensures (never_none c.in-Err.refusal.fault)

-- where no fault was found
accepts : (c : After-channels_of-depth)
    → Accepting (inputs_of c.args.shape c.args.dst.now (pos 1) c.args.table.now c.args.args.now c.args.samples.now) c.args.out.now
    c.width_of-dw.result c.height_of-dh.result c.channels_of-depth.result
accepts c = accepting _ _ c.in_default.ensures c.width_of-dw.ensures c.height_of-dh.ensures c.channels_of-depth.ensures

pub overflow_mul-dw : goal.overflow_mul-dw
overflow_mul-dw c = let k = accepts c in record { fits = omega (arith, k.small) }

pub overflow_mul-dw-2 : goal.overflow_mul-dw-2
overflow_mul-dw-2 c = let k = accepts c in record { fits = omega (arith, k.small) }

pub returns-in_err-when : goal.returns-in_err-when
returns-in_err-when c =
    let k = accepts (goal.at.returns-in_err-when c).After-channels_of-depth in
    let p = err_from_is_err_and c.from_residual.result c.from_residual.ensures.1 in
    rw (p.1, p.2) (k.unfit (sym c.when.ensures ∙ c.in_err-when.was))

pub at-requires : goal.at-requires
unfolding nat_of
at-requires c =
    let k = accepts (goal.at.at-requires c).After-channels_of-depth in
    (omega (arith, k.fit.table), omega (arith, k.fit.args))

pub whole-requires : goal.whole-requires
unfolding nat_of
whole-requires c =
    let k = accepts (goal.at.whole-requires c).After-channels_of-depth in
    (rw c.at.ensures (k.fit.layer 0 (omega arith)), k.dst, k.fits (sym c.when.ensures ∙ c.in_ok-when.was))

pub returns : goal.returns
returns c =
    let k = accepts (goal.at.returns c).After-channels_of-depth in
    k.done (k.fits (sym c.when.ensures ∙ c.in_ok-when.was)) c.at.ensures c.whole.ensures
