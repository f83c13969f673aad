-- A row's fault is the first one, and a row without a fault leaves it to the rows after it.
use Rattle.std.proofs.Common.{◌≡◌, refl, sym, ap, ◌∙◌, List, ℤ}
use Rattle.faults.specs.Faults.{NONE}
use Rattle.faults.specs.Numbers.{number_of}
use Rattle.faults.proofs.Apart.{never_none}
use Rattle.layers.specs.Cells.{row_at}
use Rattle.layers.specs.Faults.{layer_fault}
use Rattle.layers.proofs.Rows.{found, next, done}
use Rattle.layers.proofs.inputs.check_rows.Goals as goal

pub returns-in-Err : goal.returns-in-Err
returns-in-Err c =
    let asked : number_of c.in-Err.fault ≡ layer_fault (row_at c.args.table.now c.loop-k.k) c.args.samples = c.in-Err.ensures ∙ ap (λ (row : List ℤ). layer_fault row c.args.samples) c.part.ensures.0 in
    sym (c.loop-k.invariant ∙ found _ _ c.loop-k-test.true asked (never_none c.in-Err.fault))

pub loop-k-preserved : goal.loop-k-preserved
loop-k-preserved c =
    let asked : NONE ≡ layer_fault (row_at c.args.table.now c.loop-k.k) c.args.samples = c.in_default.ensures ∙ ap (λ (row : List ℤ). layer_fault row c.args.samples) c.part.ensures.0 in
    c.loop-k.invariant ∙ next _ _ c.loop-k-test.true asked refl

pub returns : goal.returns
returns c = sym (c.loop-k.invariant ∙ done _ _ _ _ c.loop-k-test.false)
