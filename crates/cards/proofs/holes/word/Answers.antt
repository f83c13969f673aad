-- The word that was cut off is the text's. Assumes nothing.
use Rattle.std.proofs.Common.{◌≡◌, Option, Some, sym, ap, ◌∙◌, List, ℕ, ℤ, to_z, of_z, w64, rules}
use Rattle.cards.specs.Forms.{word_of, cell_of}
use Rattle.cards.specs.Steps.{column, found}
use Rattle.cards.proofs.Reading.{word_good, word_bad}
use Rattle.cards.proofs.holes.word.Goals as goal

-- what the word says
said : (k : ℕ) (s : List ℕ) {w : List ℕ} {r q : Option ℤ} → w ≡ word_of s → r ≡ column (cell_of k w) → r ≡ q → column (cell_of k (word_of s)) ≡ q
said k s e v i = ap (λ (w : List ℕ). column (cell_of k w)) (sym e) ∙ sym v ∙ i

pub returns-in_err-value : goal.returns-in_err-value
returns-in_err-value c =
    rw c.from_residual.ensures
    (λ args. sym (word_bad c.args.c c.args.s.now args (said c.args.c c.args.s.now c.split_word.ensures.word c.value.ensures c.in_err-value.was)))

pub returns : goal.returns
returns c =
    let fit : to_z w64 (of_z w64 c.in_ok-value.value) ≡ c.in_ok-value.value = search rules in
    λ args. ap (λ (z : ℤ). found (Some z) args c.split_word.result.1.now) fit
    ∙ ap (found (Some c.in_ok-value.value) args) c.split_word.ensures.rest
    ∙ sym (word_good c.args.c c.args.s.now args _ (said c.args.c c.args.s.now c.split_word.ensures.word c.value.ensures c.in_ok-value.was))
