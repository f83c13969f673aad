-- Each arm is one of the definition's kinds, by its callee's contract.
use Rattle.vectors.proofs.Replaying.{a_name, to_words, to_bytes, a_composition, a_job, a_card, no_kind}
use Rattle.vectors.proofs.replay.replayed.Goals as goal

pub returns-in-70 : goal.returns-in-70
returns-in-70 c = search a_name

pub returns-in-78 : goal.returns-in-78
returns-in-78 c = search to_words

pub returns-in-66 : goal.returns-in-66
returns-in-66 c = search to_bytes

pub returns-in-67 : goal.returns-in-67
returns-in-67 c = search a_composition

pub returns-in-74 : goal.returns-in-74
returns-in-74 c = search a_job

pub returns-in-82 : goal.returns-in-82
returns-in-82 c = search a_card

pub returns-in_default : goal.returns-in_default
returns-in_default c = search no_kind
