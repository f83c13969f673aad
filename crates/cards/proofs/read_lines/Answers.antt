-- Each return is one outcome of the card. Assumes nothing.
use Rattle.std.proofs.Common.{◌≡◌, Option, Some, Result, Err, sym, ap, ◌∙◌, ◌≤◌, ℕ, List, ℤ, pos, get_or, to_z, of_z, w64, rules, arith}
use Rattle.std.specs.Borrow.{Bor}
use Rattle.std.specs.Option.{option_map}
use mir.Facts.{to_z_pos}
use Rattle.layers.specs.Limits.{most_layers}
use Rattle.cards.specs.declared.Header.{Header}
use Rattle.cards.specs.declared.BadCard.{BadCard}
use Rattle.cards.specs.Forms.{tray_form, read_form}
use Rattle.cards.specs.Card.{Lines}
use Rattle.cards.specs.Answers.{answer_of, outcome}
use Rattle.cards.specs.Steps.{numbers_in, written, written_of}
use Rattle.cards.proofs.Outcome.{layers_few, line_refused, card_read}
use Rattle.cards.proofs.read_lines.Goals as goal

-- what was said of the tray's line
told : (s : List ℕ) {r : Option (List ℤ × Bor (List ℕ))} {row : List ℤ} {rest : Bor (List ℕ)}
    → option_map (λ (t : List ℤ × Bor (List ℕ)). (t.0, t.1.now)) r ≡ numbers_in (read_form tray_form s) → r ≡ Some (row, rest)
    → Some (row, rest.now) ≡ numbers_in (read_form tray_form s)
told s e i = sym (ap (option_map (λ (t : List ℤ × Bor (List ℕ)). (t.0, t.1.now))) i) ∙ e

-- what was said of the layers' lines
written_as : (rows table : List ℤ) (words args : List ℕ) (x : Lines) {r q : Result ℕ BadCard} → written r rows words ≡ written_of x table args → r ≡ q
    → written q rows words ≡ written_of x table args
written_as rows table words args x e i = sym (ap (λ (y : Result ℕ BadCard). written y rows words) i) ∙ e

few : (c : goal.In_ok-count) → c.in_ok-count.count ≤ most_layers
few c =
    layers_few c.in_ok-width.rest.now c.args.table.now c.args.args.now c.in_ok-count.count c.layers.new.table c.layers.new.args
    (written_as _ _ _ _ _ c.layers.ensures c.in_ok-count.was)

pub returns-in_err-count : goal.returns-in_err-count
returns-in_err-count c =
    let refused : c.from_residual-in_err-count.result ≡ Err c.in_err-count.field-0.0 = search rules in
    ap (λ (r : Result Header BadCard). outcome (answer_of r) c.layers.new.table c.layers.new.args) refused
    ∙ line_refused c.args.text.now c.args.table.now c.args.args.now c.in_ok-width.field-0-0 c.in_ok-width.rest.now
    (told _ c.tray_line.ensures c.in_ok-width.ensures.ok_part) c.layers.new.table c.layers.new.args c.in_err-count.field-0.0
    (written_as _ _ _ _ _ c.layers.ensures c.in_err-count.was)

pub overflow_cast-result : goal.overflow_cast-result
overflow_cast-result c = record { sfits = omega (arith, few c) }

pub returns : goal.returns
returns c =
    let row = c.in_ok-width.field-0-0 in
    let width : to_z w64 (of_z w64 (get_or row 0 (pos 0))) ≡ get_or row 0 (pos 0) = search rules in
    let height : to_z w64 (of_z w64 (get_or row 1 (pos 0))) ≡ get_or row 1 (pos 0) = search rules in
    let channels : to_z w64 (of_z w64 (get_or row 2 (pos 0))) ≡ get_or row 2 (pos 0) = search rules in
    let layers = to_z_pos w64 {n = c.in_ok-count.count} (omega (arith, few c)) in
    rw (width, height, channels, layers)
    (card_read c.args.text.now c.args.table.now c.args.args.now row c.in_ok-width.rest.now (told _ c.tray_line.ensures c.in_ok-width.ensures.ok_part)
    c.layers.new.table c.layers.new.args c.in_ok-count.count (written_as _ _ _ _ _ c.layers.ensures c.in_ok-count.was))
