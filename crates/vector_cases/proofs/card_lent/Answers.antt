-- Both lists are lent with the lengths that are read.
use Rattle.vector_cases.proofs.Laws.{lists_lent}
use Rattle.vector_cases.proofs.card_lent.Goals as goal

pub returns : goal.returns
returns c = lists_lent _ _ _ c.number_up_to-numbers.ensures.value c.number_up_to-words.ensures.value c.card_read.ensures
