-- One argument more, or none, and as many as there may be. Assumes nothing.
use Rattle.std.proofs.Common.{◌≡◌, Option, Some, sym, ap, ◌∙◌, List, ℕ, ℤ, w64, arith}
use mir.Facts.{to_z_pos}
use Rattle.numerals.specs.Numbers.{hex_of}
use Rattle.cards.specs.Forms.{word_of}
use Rattle.cards.specs.Steps.{found}
use Rattle.cards.proofs.Arguments.{none_left, bad_left, one_taken, all_taken}
use Rattle.cards.proofs.holes.arguments.Goals as goal

-- what the word that was cut off says
said : (t : List ℕ) {w : List ℕ} {r q : Option ℕ} → w ≡ word_of t → r ≡ hex_of w → r ≡ q → hex_of (word_of t) ≡ q
said t e v i = ap hex_of (sym e) ∙ sym v ∙ i

pub returns-in_default : goal.returns-in_default
returns-in_default c =
    ap (λ (z : ℤ). found (Some z) c.loop-k.args c.loop-k.rest.now) (to_z_pos w64 (omega arith))
    ∙ sym (c.loop-k.invariant ∙ none_left c.loop-k.rest.now c.loop-k.args c.loop-k.k (omega arith) (sym c.in_default.ensures))

pub returns-in_err-args : goal.returns-in_err-args
returns-in_err-args c =
    rw c.from_residual.ensures
    (sym
    (c.loop-k.invariant
    ∙ bad_left c.loop-k.rest.now c.loop-k.args c.loop-k.k (omega arith) c.in-Some.next.now (sym c.in-Some.ensures)
    (said _ c.split_word.ensures.word c.hex.ensures c.in_err-args.was)))

pub loop-k-preserved : goal.loop-k-preserved
loop-k-preserved c =
    c.loop-k.invariant
    ∙ one_taken c.loop-k.rest.now c.loop-k.args c.loop-k.k (omega arith) c.in-Some.next.now (sym c.in-Some.ensures) c.in_ok-args.field-0
    c.split_word.result.1.now (said _ c.split_word.ensures.word c.hex.ensures c.in_ok-args.was) c.split_word.ensures.rest

pub returns : goal.returns
returns c = sym (c.loop-k.invariant ∙ all_taken c.loop-k.rest.now c.loop-k.args c.loop-k.k (omega arith))
