-- The answers and both lists are what the definition compares.
use Rattle.vector_cases.proofs.Laws.{card_so}
use Rattle.vector_cases.proofs.card_read.Goals as goal

pub returns : goal.returns
returns c =
    card_so _ _ _ _ _ _ c.tray_read_card.ensures c.card_answered-after_answers.ensures c.written-after_table.ensures c.written.ensures
