-- The rooms that the lines begin with are those of the definition.
use Rattle.vectors.proofs.replay.judge.Goals as goal

pub returns : goal.returns
returns c = rw c.new.ensures at c.judge.ensures
