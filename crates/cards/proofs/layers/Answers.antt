-- What the lines leave of lists of zeros is copied. Assumes nothing.
use Rattle.std.proofs.Common.{Result, Ok, sym, ap, ◌∙◌, ℕ, ℤ, List}
use Rattle.cards.specs.declared.BadCard.{BadCard}
use Rattle.cards.specs.Steps.{counted_by, written}
use Rattle.cards.proofs.Outcome.{layers_written}
use Rattle.cards.proofs.layers.Goals as goal

pub returns : goal.returns
returns c =
    let rows = c.layer_lines.new.table in
    let words = c.layer_lines.new.args in
    let k = c.in_ok-count.count in
    ap (λ (x : List ℤ). written (Ok k) x c.copy_from_slice-2.new.self) c.copy_from_slice.ensures.after
    ∙ ap (λ (x : List ℕ). written (Ok k) rows x) c.copy_from_slice-2.ensures.after
    ∙ layers_written c.args.text.now c.args.table.now c.args.args.now rows words k
    (sym (ap (λ (r : Result ℕ BadCard). counted_by r rows words) c.in_ok-count.was) ∙ c.layer_lines.ensures)
