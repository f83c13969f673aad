-- The text is read over none.
use Rattle.vector_cases.proofs.Laws.{text_read}
use Rattle.vector_cases.proofs.card.Goals as goal

pub returns : goal.returns
returns c = let read = rw c.new-text.ensures at c.read-at.ensures in text_read _ read c.as_slice.ensures c.card_lent.ensures
